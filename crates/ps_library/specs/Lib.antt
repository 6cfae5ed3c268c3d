pub mod LibraryStates
pub mod Libraries
pub mod Shelves
pub mod Folders
pub mod Fetching
pub mod Outside
pub mod PathWords
pub mod InsideFolders
