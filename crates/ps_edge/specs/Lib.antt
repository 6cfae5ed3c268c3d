pub mod SourceStates
pub mod Sources
pub mod Tapes
pub mod Adapters
pub mod Counting
pub mod Gatherings
