-- Most general unification (this project's own, after Robinson).
-- The bindings s' are the most general ones that extend s and make a and b equal where the substitutions that extend s' are
-- exactly those that extend s and make a and b equal.
use Rattle.std.specs.Prelude.{◌≡◌, ℕ, ◌<◌}
use Rattle.ps_types.specs.declared.types.Ty.{Ty}
use Rattle.ps_types.specs.Substitutions.{Substitution, apply, size}
use Rattle.ps_unify.specs.Bindings.{Bindings, means, Extends, Solved}

pub record Unifies (s : Bindings) (a b : Ty) (s' : Bindings) : Type 0 where
  pub solved : Solved s'
  pub equal : apply (means s') a ≡ apply (means s') b
  pub extends : (θ : Substitution) → Extends θ s' → Extends θ s
  pub most_general : (θ : Substitution) → Extends θ s → apply θ a ≡ apply θ b → Extends θ s'

-- nothing that extends s makes a and b equal
pub record Never (s : Bindings) (a b : Ty) : Type 0 where
  pub never : (θ : Substitution) → Extends θ s → apply θ a ≡ apply θ b → ⊥

-- whatever extends s and makes a and b equal makes them larger than the limit
pub record Outgrows (s : Bindings) (a b : Ty) (limit : ℕ) : Type 0 where
  pub outgrows : (θ : Substitution) → Extends θ s → apply θ a ≡ apply θ b → limit < size (apply θ a)
