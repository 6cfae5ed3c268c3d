-- What the steps of unification promise each other (this project's own). No public clause cites this file.
-- An equation is a property p of substitutions, and m gives the size of its left side at a substitution. `Comes` says what a
-- step with this much room comes to.
use Rattle.std.specs.Prelude.{◌≡◌, ℕ, ◌+◌, ◌<◌, ◌≤◌, List, [], ◌∷◌, map, Option, Some, None, Result, Ok, Err}
use Rattle.ps_types.specs.declared.types.Ty.{Ty}
use Rattle.ps_types.specs.Substitutions.{Substitution, apply, size, total}
use Rattle.ps_unify.specs.declared.faults.WithinFault.{WithinFault}
use Rattle.ps_unify.specs.declared.faults.WithinFault.TheVariants.{Unequal, TooLarge, NoMemory}
use Rattle.ps_unify.specs.Bindings.{Bindings, Extends, Solved}
use Rattle.ps_unify.specs.InsideBindings.{Longer}

abbrev pub Equation : Type 1
Equation = Substitution → Type 0

abbrev pub Equal : Ty → Ty → Equation
Equal a b θ = apply θ a ≡ apply θ b

abbrev pub EqualAll : List Ty → List Ty → Equation
EqualAll ts us θ = map (apply θ) ts ≡ map (apply θ) us

-- a variable becomes what a type does
abbrev pub Becomes : ℕ → Ty → Equation
Becomes x t θ = θ x ≡ apply θ t

abbrev pub weight : Ty → Substitution → ℕ
weight t θ = size (apply θ t)

abbrev pub weights : List Ty → Substitution → ℕ
weights ts θ = total (map size (map (apply θ) ts))

abbrev pub listed : Option Ty → List Ty
listed None = []
listed (Some t) = t ∷ []

-- The bindings s' say besides those of s that p holds, and nothing more. Of the room this is left; at least so much was taken,
-- and no more than the size.
pub record Reached (s : Bindings) (p : Substitution → Type 0) (m : Substitution → ℕ) (least room : ℕ) (s' : Bindings) (left : ℕ) : Type 0 where
  pub solved : Solved s'
  pub extends : (θ : Substitution) → Extends θ s' → Extends θ s
  pub holds : (θ : Substitution) → Extends θ s' → p θ
  pub most_general : (θ : Substitution) → Extends θ s → p θ → Extends θ s'
  pub used : (θ : Substitution) → Extends θ s' → room ≤ left + m θ
  pub falls : left + least ≤ room

pub record NeverHolds (s : Bindings) (p : Substitution → Type 0) : Type 0 where
  pub never : (θ : Substitution) → Extends θ s → p θ → ⊥

pub record OutgrowsRoom (s : Bindings) (p : Substitution → Type 0) (m : Substitution → ℕ) (room : ℕ) : Type 0 where
  pub outgrows : (θ : Substitution) → Extends θ s → p θ → room < m θ

abbrev pub outcome : Bindings → (Substitution → Type 0) → (Substitution → ℕ) → ℕ → ℕ → Bindings → Result ℕ WithinFault → Type 0
outcome s p m least room s' (Ok left) = Reached s p m least room s' left
outcome s p m least room s' (Err Unequal) = NeverHolds s p
outcome s p m least room s' (Err TooLarge) = OutgrowsRoom s p m room
outcome s p m least room s' (Err NoMemory) = Unit {0}

pub record Comes (s : Bindings) (p : Substitution → Type 0) (m : Substitution → ℕ) (least room : ℕ) (s' : Bindings)
    (result : Result ℕ WithinFault) : Type 0 where
  pub longer : Longer s s'
  pub outcome : outcome s p m least room s' result
