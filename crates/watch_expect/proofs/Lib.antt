pub mod Following
pub mod LastLines
pub mod Comparing
