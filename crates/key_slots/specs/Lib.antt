pub mod Authority
pub mod Flags
pub mod Names
pub mod Slots
pub mod Usage
