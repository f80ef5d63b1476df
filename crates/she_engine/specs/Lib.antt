pub mod Boots
pub mod Loads
