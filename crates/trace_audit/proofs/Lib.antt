pub mod Rising
pub mod Windows
pub mod OneFinding
pub mod Audited
pub mod Phases
pub mod Promises
