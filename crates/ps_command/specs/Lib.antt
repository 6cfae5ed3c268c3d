pub mod Words
pub mod Lines
pub mod Headline
pub mod Refusals
pub mod Answers
pub mod Inside
