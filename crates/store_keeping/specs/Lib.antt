pub mod Keeping
pub mod DiskTurns
