pub mod AdoptTasks
pub mod StandingLedgers
pub mod AdoptTurns
pub mod Adoptions
pub mod AdoptRows
pub mod AdoptFiles
pub mod AdoptRuns
pub mod AdoptsOver
