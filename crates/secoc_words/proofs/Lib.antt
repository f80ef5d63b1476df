pub mod BigEndian
pub mod Digits
pub mod FrameSizes
pub mod Identifiers
pub mod WrittenKinds
pub mod CountingLaws
pub mod CallerLemmas
