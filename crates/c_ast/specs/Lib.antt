pub mod WellFormed
pub mod Text
pub mod Laws
