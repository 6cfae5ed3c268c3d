pub mod InsideLists
pub mod InsideTexts
pub mod InsideKinds
pub mod InsideMachine
pub mod Evaluating
pub mod InsideEvaluating
