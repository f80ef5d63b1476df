pub mod Input
pub mod Told
pub mod Rows
pub mod Inputs
pub mod Endings
pub mod OpenedWords
pub mod NamedSources
