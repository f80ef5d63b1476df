pub mod StoreHeaders
pub mod RouteCells
pub mod GrowingStores
pub mod LookSteps
pub mod GrowSteps
