pub mod CellLaws
pub mod CallerLemmas
