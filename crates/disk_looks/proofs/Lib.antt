pub mod SeenLaws
pub mod CallerLemmas
