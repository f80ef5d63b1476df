pub mod Performing
pub mod Plans
pub mod Standing
pub mod Turns
pub mod Formatting
pub mod Telling
pub mod Wear
