pub mod Ends
pub mod InsideKnown
pub mod InsideMachine
pub mod InsideWeight
pub mod InsideLaying
pub mod InsideNumbers
