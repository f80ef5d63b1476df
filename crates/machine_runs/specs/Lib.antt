pub mod Run
pub mod Members
pub mod Faults
pub mod FaultLaws
pub mod Past
pub mod PastLaws
