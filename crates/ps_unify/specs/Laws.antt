-- Laws of bindings.
use Rattle.std.specs.Prelude.{◌≡◌, ℕ, Bool, true, false, if◌then◌else◌}
use Rattle.ps_types.specs.declared.types.Ty.{Ty}
use Rattle.ps_types.specs.Substitutions.{Substitution, apply, mentions}
use Rattle.ps_unify.specs.Bindings.{Bindings, means, Extends, Solved}

-- whatever extends bindings is an instance of what they mean, and gives the same before as after it
abbrev pub ExtensionsAreInstances : Type 0
ExtensionsAreInstances = (θ : Substitution) (s : Bindings) → Extends θ s → (t : Ty) → apply θ (apply (means s) t) ≡ apply θ t

-- every instance of what bindings mean extends them
abbrev pub InstancesExtend : Type 0
InstancesExtend = (s : Bindings) → Solved s → (ρ : Substitution) → Extends (λ y. apply ρ (means s y)) s

-- ρ for the variables of a set, and θ for the others
abbrev pub mix : (ℕ → Bool) → Substitution → Substitution → Substitution
mix g ρ θ x = if g x then ρ x else θ x

-- Let some variables be kept, and let no variable of a set g stand in what they mean. Then each extension can be changed so
-- that the variables of g become any types, and the kept ones become what they did. So g may be generalised.
abbrev pub OthersMayBeAny : Type 0
OthersMayBeAny = (s : Bindings) → Solved s → (g : ℕ → Bool) (kept : ℕ → Bool)
    → ((y : ℕ) → kept y ≡ true → (x : ℕ) → mentions x (means s y) ≡ true → g x ≡ false)
    → (θ ρ : Substitution) → Extends θ s
    → (θ' : Substitution) × Extends θ' s × ((y : ℕ) → kept y ≡ true → θ' y ≡ θ y)
    × ((t : Ty) → apply θ' t ≡ apply (mix g ρ θ) (apply (means s) t))
