pub mod EntryLines
pub mod BytesLaws
pub mod FileLaws
pub mod Promises
pub mod Pushing
pub mod Endings
pub mod CallerLemmas
