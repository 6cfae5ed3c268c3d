pub mod ListsAreBuilt
pub mod Steps
