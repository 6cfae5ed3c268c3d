pub mod Applied
pub mod Calls
