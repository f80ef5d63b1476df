pub mod LinesAhead
pub mod Fitting
pub mod Accepting
pub mod LocatePhases
pub mod LocatePromises
