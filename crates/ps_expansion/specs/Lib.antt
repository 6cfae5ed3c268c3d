pub mod Apart
pub mod Does
pub mod Levels
pub mod Macros
pub mod Names
pub mod Settled
pub mod States
