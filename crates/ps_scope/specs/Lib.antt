pub mod Environments
pub mod InsideTables
pub mod InsideScopes
