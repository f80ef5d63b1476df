pub mod Buses
pub mod Rows
pub mod ShortRows
pub mod LoadRows
pub mod Mixed
pub mod Breaches
