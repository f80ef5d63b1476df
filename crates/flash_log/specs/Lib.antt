pub mod Going
pub mod Taking
pub mod Scanned
pub mod Stores
