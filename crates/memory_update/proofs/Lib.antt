mod Confirming
pub mod AnswerSteps
pub mod FieldSteps
pub mod HeadSteps
pub mod OpeningSteps
mod Tries
pub mod CallerLemmas
