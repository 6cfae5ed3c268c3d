pub mod Groups
pub mod InsideSearch
