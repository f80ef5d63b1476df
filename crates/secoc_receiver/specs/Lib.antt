pub mod Receiving
pub mod Words
