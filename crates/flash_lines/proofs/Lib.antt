pub mod CrcSteps
pub mod LineLaws
pub mod Written
pub mod Parts
pub mod Looking
pub mod CallerLemmas
