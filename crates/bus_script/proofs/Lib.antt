pub mod BigEndian
pub mod EventValues
pub mod EventsRead
pub mod EventsWritten
pub mod FormValues
pub mod NoWords
pub mod Pieces
pub mod CallerLemmas
pub mod Added
pub mod Cutting
pub mod PlainWords
pub mod ReadBack
pub mod OneToOne
mod Drawing
mod TrialLists
mod TrialValues
mod Trials
