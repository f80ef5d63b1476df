pub mod Counters
pub mod Runs
pub mod CallerLemmas
