pub mod FileBytes
pub mod FileCalls
pub mod FileDisk
pub mod FileLaws
pub mod HeldFile
pub mod SystemFile
pub mod NamedDisks
