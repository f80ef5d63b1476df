pub mod Searching
pub mod Accepting
pub mod Following
pub mod ExplainRising
pub mod ExplainPorts
pub mod ExplainPhases
pub mod ExplainPromises
pub mod CallerLemmas
