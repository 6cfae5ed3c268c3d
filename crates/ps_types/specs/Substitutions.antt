-- Types as terms of first order: substitutions, sizes and instances (this project's own, after Robinson).
-- A substitution gives a type to each variable. Read `apply σ t` aloud as 't at σ': the type t, with each variable x replaced
-- by σ x, all at once. `size t` counts constructors and variables, each as often as it stands in t.
use Rattle.std.specs.Prelude.{◌≡◌, ℕ, ◌+◌, Bool, false, ◌||◌, List, [], ◌∷◌}
use Rattle.ps_types.specs.declared.types.Ty.{Ty, Ty-F, fold-Ty, roll-Ty}
use Rattle.ps_types.specs.Writing.{stands_in, variables}

abbrev pub Substitution : Type 0
Substitution = ℕ → Ty

-- a type whose parts are at σ already
abbrev pub applied : Substitution → Ty-F Ty → Ty
applied σ (Ty-F.Var x) = σ x
applied σ k = roll-Ty k

-- a type at σ
abbrev pub apply : Substitution → Ty → Ty
apply σ = fold-Ty Ty (applied σ)

-- whether a variable stands in a type
abbrev pub mentions : ℕ → Ty → Bool
mentions x t = stands_in x (variables t)

-- whether it stands in one of some types
abbrev pub some_mentions : ℕ → List Ty → Bool
some_mentions x [] = false
some_mentions x (t ∷ ts) = mentions x t || some_mentions x ts

abbrev pub total : List ℕ → ℕ
total [] = 0
total (n ∷ ns) = n + total ns

abbrev pub size_node : Ty-F ℕ → ℕ
size_node (Ty-F.Vector a) = 1 + a
size_node (Ty-F.Proc ts r) = 1 + total ts + r
size_node k = 1

-- constructors and variables, each as often as it stands there
abbrev pub size : Ty → ℕ
size = fold-Ty ℕ size_node

-- t is an instance of a type: that type at some substitution
pub record IsInstance (general t : Ty) : Type 0 where
  pub by : Substitution
  pub instance : t ≡ apply by general
