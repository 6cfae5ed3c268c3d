pub mod Walks
pub mod Steps
pub mod Expressions
pub mod LambdasStandAlone
pub mod Shapes
pub mod Runs
pub mod Users
