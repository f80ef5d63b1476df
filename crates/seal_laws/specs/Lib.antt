pub mod Writes
pub mod Lives
pub mod Wear
