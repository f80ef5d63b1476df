pub mod Steps
pub mod Inputs
