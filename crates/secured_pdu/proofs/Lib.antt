pub mod Candidates
pub mod Deciding
pub mod FrameLaws
pub mod VerdictLaws
pub mod CallerLemmas
