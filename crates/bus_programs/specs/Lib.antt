pub mod Inputs
pub mod Named
pub mod BusFiles
pub mod BusRoutes
pub mod Scripts
pub mod Blank
