pub mod AnsweringLaws
pub mod CallerLemmas
