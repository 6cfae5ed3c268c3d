pub mod Answers
pub mod InsideWork
