pub mod Definitions
pub mod InsideFirst
