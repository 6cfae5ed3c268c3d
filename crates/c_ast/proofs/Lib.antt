-- The lemmas of this crate.
mod NumbersReadBack
mod AtomsReadBack
mod LinesReadBack
mod NumbersFit
pub mod OneUnit
