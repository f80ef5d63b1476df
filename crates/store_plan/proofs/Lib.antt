pub mod GatedLaws
pub mod LeavesLaws
pub mod CutLaws
pub mod LeavingLaws
pub mod MakingLaws
pub mod GrowingLaws
pub mod CallerLemmas
