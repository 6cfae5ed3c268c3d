pub mod Kernels
pub mod Inside
pub mod Laws
pub mod Converting
