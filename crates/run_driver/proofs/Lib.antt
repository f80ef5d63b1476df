pub mod DrivenLoop
pub mod PrintedLines
pub mod PrintedUpToLast
pub mod CountedLines
pub mod Tries
