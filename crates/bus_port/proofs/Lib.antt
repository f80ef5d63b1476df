mod MemoryLemmas
mod Streams
mod Tries
pub mod CallerLemmas
