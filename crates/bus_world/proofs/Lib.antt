pub mod Turning
mod Stepping
pub mod FoundLaws
mod AttachLaws
mod OpenLaws
mod MoveLaws
mod TakingLaws
pub mod StepLaws
mod StartLaws
mod SoundLaws
pub mod RoomLaws
pub mod StartRowLaws
pub mod StartAnswerLaws
pub mod TurnLaws
pub mod CallerLemmas
pub mod AtNode
pub mod DisksBack
pub mod Starting
pub mod Attaching
pub mod Honesty
pub mod WholeRun
mod Finding
mod Searching
mod Keeping
