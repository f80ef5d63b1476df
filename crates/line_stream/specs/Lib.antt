pub mod Pieces
pub mod Streams
pub mod Unended
