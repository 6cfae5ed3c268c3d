-- Laws of substitutions.
use Rattle.std.specs.Prelude.{◌≡◌, ℕ, ◌≤◌, true}
use Rattle.ps_types.specs.declared.types.Ty.{Ty}
use Rattle.ps_types.specs.Substitutions.{Substitution, apply, mentions, size, IsInstance}

-- a type at one substitution and then at another is the type at the two in one
abbrev pub SubstitutionsCompose : Type 0
SubstitutionsCompose = (σ τ : Substitution) (t : Ty) → apply σ (apply τ t) ≡ apply (λ x. apply σ (τ x)) t

-- a type at a substitution turns on what the substitution gives its own variables
abbrev pub OwnVariablesDecide : Type 0
OwnVariablesDecide = (σ τ : Substitution) (t : Ty)
    → ((x : ℕ) → mentions x t ≡ true → σ x ≡ τ x) → apply σ t ≡ apply τ t

-- no instance of a type is smaller than the type
abbrev pub InstancesAreNoSmaller : Type 0
InstancesAreNoSmaller = (general t : Ty) → IsInstance general t → size general ≤ size t

-- an instance of an instance is an instance
abbrev pub InstancesCompose : Type 0
InstancesCompose = (t u v : Ty) → IsInstance t u → IsInstance u v → IsInstance t v
