pub mod Counters
pub mod Changing
