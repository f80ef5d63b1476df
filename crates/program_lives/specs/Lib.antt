pub mod ProgramRuns
pub mod RefusedRuns
