pub mod Driven
pub mod DrivenLaws
pub mod Printed
pub mod PrintedUntil
pub mod Counted
pub mod Statuses
