pub mod Bodies
pub mod Branches
pub mod InsideBodies
pub mod InsideBranches
