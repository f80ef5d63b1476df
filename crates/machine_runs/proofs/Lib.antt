pub mod Tries
pub mod CallerLemmas
