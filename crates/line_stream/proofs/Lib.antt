pub mod Cutting
pub mod Tellings
pub mod TakingOn
pub mod StreamPorts
pub mod Keeping
pub mod CallerLemmas
