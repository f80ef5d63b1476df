pub mod Offered
pub mod Phases
pub mod Promises
pub mod Calling
pub mod NoLoad
pub mod KeyBytes
