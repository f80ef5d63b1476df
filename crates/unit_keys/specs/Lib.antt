pub mod Derived
pub mod Wrapped
