pub mod Bodies
pub mod Steps
pub mod Walk
pub mod Kept
pub mod Closed
pub mod Laws
