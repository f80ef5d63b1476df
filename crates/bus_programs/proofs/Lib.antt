pub mod Finding
pub mod CallerLemmas
