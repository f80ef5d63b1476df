pub mod Crc
pub mod Lines
pub mod Reading
pub mod Units
