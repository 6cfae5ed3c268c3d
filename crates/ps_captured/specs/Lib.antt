pub mod FixedSets
pub mod Filled
pub mod InsideReading
pub mod InsideTables
pub mod InsideKeeping
