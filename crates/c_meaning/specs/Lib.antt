pub mod Machine
pub mod Stack
pub mod Steps
pub mod InsideSteps
pub mod Laws
