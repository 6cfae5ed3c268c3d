pub mod Scope
pub mod InsideLinks
