pub mod Plans
pub mod Leaving
pub mod Performing
pub mod Growing
