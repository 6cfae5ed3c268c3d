pub mod Weight
pub mod Writing
pub mod InsideWriting
