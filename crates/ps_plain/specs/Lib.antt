pub mod Most
pub mod Forms
pub mod Valid
pub mod Size
pub mod Run
pub mod Meaning
pub mod Faults
pub mod Laws
