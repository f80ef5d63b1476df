pub mod Cmac
pub mod Examples
pub mod Took
