pub mod Trials
pub mod Reasons
pub mod ReasonTexts
pub mod Explaining
pub mod ExplainStates
pub mod ExplainRows
pub mod Explains
pub mod ExplainSteps
