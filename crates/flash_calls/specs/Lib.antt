pub mod Numbers
pub mod Operations
pub mod Calls
pub mod CallLives
pub mod CallWear
