pub mod Comparing
pub mod Expects
pub mod CompareSteps
