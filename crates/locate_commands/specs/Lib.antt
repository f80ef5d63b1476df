pub mod LocateOptions
pub mod Locating
pub mod LocateRows
pub mod Locates
pub mod LocateSteps
