pub mod Stages
pub mod Rising
pub mod Keeping
pub mod Seams
pub mod Between
pub mod Chain
pub mod CallerLemmas
