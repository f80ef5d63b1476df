pub mod Frame
pub mod Verdict
pub mod Judged
