pub mod Gathering
pub mod Constants
pub mod Different
pub mod ClausesInTurn
pub mod SmallForms
pub mod Views
