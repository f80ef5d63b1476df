mod PairRule
pub mod CallerLemmas
