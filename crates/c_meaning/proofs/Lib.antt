-- The lemmas of this crate.
pub mod LargerBoundKeeps
mod FramesFollow
mod StepsAreTheMachines
