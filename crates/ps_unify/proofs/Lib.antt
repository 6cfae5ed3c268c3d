pub mod BindingsAreMostGeneral
pub mod BindingsStaySolved
pub mod TypesHaveParts
pub mod StepsComeToTheirEnd
pub mod OthersMayBeAny
pub mod SearchesTell
