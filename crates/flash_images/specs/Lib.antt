pub mod Images
pub mod Putting
