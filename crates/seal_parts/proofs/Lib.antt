pub mod Units
pub mod PartCuts
pub mod ListLaws
