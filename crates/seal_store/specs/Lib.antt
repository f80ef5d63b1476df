pub mod Reading
pub mod Store
pub mod Lived
