pub mod Tables
pub mod InsideTables
pub mod InsideTexts
