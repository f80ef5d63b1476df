pub mod Bytes
pub mod Numbers
pub mod Padded
pub mod Blocks
pub mod FaultCount
