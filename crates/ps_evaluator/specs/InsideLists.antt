-- Short forms.
use Rattle.std.specs.Prelude.{ℕ, List, Option, Some, None}
use Rattle.ps_meaning.specs.declared.values.Binding.{Binding}
use Rattle.ps_meaning.specs.Values.{Closure}

-- where there is a value, P holds of it
abbrev pub IfSome : {A : Type 0} → Option A → (A → Type 0) → Type 0
IfSome None P = Unit {0}
IfSome (Some a) P = P a

-- the procedure of a lambda that keeps these values
abbrev pub closed : ℕ → List Binding → Closure
closed l env = record { lambda = l; kept = env }
