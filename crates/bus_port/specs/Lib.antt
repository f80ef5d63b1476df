pub mod Fault
pub mod Source
pub mod Sink
pub mod Whole
pub mod MemSource
pub mod MemSink
pub mod StdPort
