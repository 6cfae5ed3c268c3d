pub mod Refusals
pub mod InsideAnswers
pub mod InsideValues
pub mod InsideDefinitions
pub mod InsideKinds
pub mod InsideNameTables
pub mod InsideHeads
