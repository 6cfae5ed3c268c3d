pub mod Runs
pub mod Locals
pub mod Effects
pub mod Ends
pub mod Laws
