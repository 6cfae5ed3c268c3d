-- What the functions that look bindings up promise each other (this project's own). No public clause cites this file.
use Rattle.std.specs.Prelude.{◌≡◌, ℕ, ◌+◌, ◌<◌, Bool, true, false, List, ◌++◌, map, length, slice_get, Some}
use Rattle.ps_types.specs.declared.types.Ty.{Ty}
use Rattle.ps_types.specs.declared.types.Ty.TheVariants.{Var}
use Rattle.ps_types.specs.Substitutions.{apply, size, total}
use Rattle.ps_unify.specs.declared.searching.Sought.{Sought}
use Rattle.ps_unify.specs.declared.searching.Sought.TheVariants.{Found, Left, Spent}
use Rattle.ps_unify.specs.Bindings.{Bindings, means, Free}

-- the binding at a place
pub record At (s : Bindings) (i : ℕ) (x : ℕ) (t : Ty) : Type 0 where
  pub there : slice_get s i ≡ Some (x, t)
  pub below : i < length s

-- t is no bound variable
pub record Headed (s : Bindings) (t : Ty) : Type 0 where
  pub unbound : (x : ℕ) → t ≡ Var x → Free x s

-- s' is s and more bindings
pub record Longer (s s' : Bindings) : Type 0 where
  pub more : Bindings
  pub whole : s' ≡ s ++ more

-- the sizes of what types mean
abbrev pub meant : Bindings → Ty → ℕ
meant s t = size (apply (means s) t)

abbrev pub meant_all : Bindings → List Ty → ℕ
meant_all s ts = total (map size (map (apply (means s)) ts))

abbrev pub told : Bool → ℕ → ℕ → Sought → Type 0
told seen weight room Found = seen ≡ true
told seen weight room (Left left) = (seen ≡ false) × (left + weight ≡ room)
told seen weight room Spent = room < weight

-- what a search for a variable with this much room tells of types of this weight, in which the variable is seen or not
pub record Told (seen : Bool) (weight room : ℕ) (result : Sought) : Type 0 where
  pub told : told seen weight room result
