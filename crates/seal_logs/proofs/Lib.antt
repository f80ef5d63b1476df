pub mod LatestLaws
pub mod ChainLaws
pub mod StartLaws
pub mod OneEnd
pub mod CallerLemmas
