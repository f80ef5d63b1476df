pub mod DiskForms
pub mod Forms
pub mod Frames
pub mod KeyForms
pub mod Texts
pub mod Written
pub mod Counting
