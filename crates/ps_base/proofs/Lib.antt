pub mod Writing
pub mod Tables
pub mod Choices
