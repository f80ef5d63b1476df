pub mod Padding
pub mod CallerLemmas
