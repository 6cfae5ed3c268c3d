pub mod Data
pub mod Order
pub mod Rules
pub mod Texts
pub mod Typings
pub mod Lines
pub mod Laws
pub mod Worked
