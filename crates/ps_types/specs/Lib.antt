pub mod Writing
pub mod Substitutions
pub mod Laws
pub mod InsideWriting
pub mod InsideFirsts
pub mod InsideSearch
