pub mod MigratingLaws
pub mod LookingLaws
pub mod CountingLaws
pub mod OpeningLaws
pub mod CallerLemmas
