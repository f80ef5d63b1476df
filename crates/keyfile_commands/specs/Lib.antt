pub mod KeyFiles
pub mod Calls
pub mod Values
pub mod Rows
pub mod Steps
pub mod KeyFilesRuns
