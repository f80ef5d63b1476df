pub mod Either
pub mod Migrating
pub mod Looking
pub mod Opening
pub mod Counting
pub mod Finding
pub mod FaultTexts
