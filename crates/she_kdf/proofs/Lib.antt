pub mod Outputs
pub mod DerivationByTable
pub mod DerivationLaws
pub mod CallerLemmas
