mod Cuts
mod Ranges
mod Slices
mod Tapes
mod Tearing
mod UnderWrites
mod Vectors
pub mod CallerLemmas
