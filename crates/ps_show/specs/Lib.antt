pub mod Shown
pub mod Words
pub mod Bindings
pub mod ShowText
pub mod Answers
pub mod InsidePages
pub mod InsideForms
