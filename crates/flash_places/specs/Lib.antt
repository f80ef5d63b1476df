pub mod Places
pub mod State
pub mod Memory
pub mod MemoryLaws
pub mod MemFlash
