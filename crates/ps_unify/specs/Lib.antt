pub mod Bindings
pub mod Unification
pub mod Laws
pub mod InsideBindings
pub mod InsideShapes
pub mod InsideSteps
