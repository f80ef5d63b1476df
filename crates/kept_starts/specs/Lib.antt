pub mod Unfinished
pub mod LookedAt
pub mod KeepRows
pub mod KeptStores
pub mod CutStarts
