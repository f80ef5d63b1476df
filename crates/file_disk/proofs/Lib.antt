pub mod Marks
pub mod Held
pub mod Opened
pub mod Told
