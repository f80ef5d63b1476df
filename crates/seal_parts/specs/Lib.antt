pub mod Parts
pub mod State
pub mod Memory
pub mod MemoryLaws
pub mod MemPart
pub mod Designs
