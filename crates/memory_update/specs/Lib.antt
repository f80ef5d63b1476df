pub mod Fields
pub mod Identifier
pub mod Loading
pub mod Messages
pub mod Shown
