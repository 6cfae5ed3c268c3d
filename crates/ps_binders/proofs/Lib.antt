pub mod EnvironmentsAreLeft
pub mod NumberedFirst
pub mod PlansOfLoops
