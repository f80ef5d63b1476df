pub mod Check
pub mod Kinds
pub mod Rows
pub mod Steps
pub mod Lists
pub mod Files
