pub mod Reading
pub mod Asking
pub mod Following
pub mod Copying
pub mod Behind
