pub mod Table
pub mod Held
pub mod Adding
pub mod Failing
pub mod Reading
