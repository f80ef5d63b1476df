pub mod PutLaws
pub mod ImageLaws
pub mod CallerLemmas
pub mod LeavingLaws
