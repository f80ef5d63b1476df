pub mod Words
mod Served
mod Calls
mod Crashed
