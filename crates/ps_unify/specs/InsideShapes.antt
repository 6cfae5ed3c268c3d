-- Constructors and parts of types (this project's own): what the functions that take types apart promise. No public clause
-- cites this file.
use Rattle.std.specs.Prelude.{◌≢◌, ℕ, List, [], ◌∷◌}
use Rattle.ps_types.specs.declared.types.Ty.{Ty, Ty-F, out-Ty}
use Rattle.ps_types.specs.declared.types.Ty.TheVariants as ty
use Rattle.ps_unify.specs.declared.parts.Shape.{Shape}
use Rattle.ps_unify.specs.declared.parts.Shape.TheVariants as shapes

abbrev pub shape_node : Ty-F Ty → Shape
shape_node Ty-F.Integer = shapes.Integer
shape_node Ty-F.Boolean = shapes.Boolean
shape_node Ty-F.Char = shapes.Char
shape_node Ty-F.Unit = shapes.Unit
shape_node Ty-F.Address = shapes.Address
shape_node Ty-F.Text = shapes.Text
shape_node (Ty-F.Vector a) = shapes.Vector
shape_node (Ty-F.Tuple k) = shapes.Tuple k
shape_node (Ty-F.Proc ts r) = shapes.Proc
shape_node (Ty-F.Var y) = shapes.Var

abbrev pub shape_of : Ty → Shape
shape_of t = shape_node (out-Ty t)

abbrev pub parameters_node : Ty-F Ty → List Ty
parameters_node (Ty-F.Proc ts r) = ts
parameters_node k = []

-- the types of a procedure's parameters
abbrev pub parameters_of : Ty → List Ty
parameters_of t = parameters_node (out-Ty t)

abbrev pub last_node : Ty-F Ty → List Ty
last_node (Ty-F.Vector a) = a ∷ []
last_node (Ty-F.Proc ts r) = r ∷ []
last_node k = []

-- the type of a vector's items, or of a procedure's answer
abbrev pub last_of : Ty → List Ty
last_of t = last_node (out-Ty t)

-- t is no variable
pub record NoVariable (t : Ty) : Type 0 where
  pub other : (x : ℕ) → t ≢ ty.Var x
