pub mod LastPiece
pub mod Doubling
pub mod CmacByTable
pub mod CmacLaws
pub mod CallerLemmas
