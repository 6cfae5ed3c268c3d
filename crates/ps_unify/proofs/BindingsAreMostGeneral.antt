-- What bindings mean, and that whatever extends them is an instance of it.
-- For: extensions_are_instances, and the steps of unification
use Rattle.std.proofs.Common.{◌≡◌, ℕ, ◌≤◌, Bool, true, false, [], ◌∷◌, ◌++◌, refl, sym, ap, ◌∙◌, arith}
use Rattle.std.specs.Prelude.{◌==◌, if◌then◌else◌}
use Rattle.ps_types.specs.declared.types.Ty.{Ty}
use Rattle.ps_types.specs.declared.types.Ty.TheVariants.{Var}
use Rattle.ps_types.specs.Substitutions.{Substitution, apply, size}
use Rattle.ps_types.proofs.TypesAreTerms.{apply_var}
use Rattle.ps_types.proofs.SubstitutionsCompose.{composes}
use Rattle.ps_types.proofs.InstancesAreNoSmaller.{no_smaller}
use Rattle.ps_unify.specs.Bindings.{Bindings, single, added, means_from, means, keeps, Extends, Solved}
use Rattle.ps_unify.specs.InsideBindings.{meant}
use Rattle.ps_unify.specs.Laws.{ExtensionsAreInstances, InstancesExtend}

means_more : (σ : Substitution) (s : Bindings) (b : ℕ × Ty) → means_from σ (s ++ b ∷ []) ≡ added (means_from σ s) b.0 b.1
means_more σ [] b = refl
means_more σ (c ∷ s) b = means_more (added σ c.0 c.1) s b

pub means_push : (s : Bindings) (b : ℕ × Ty) → means (s ++ b ∷ []) ≡ added (means s) b.0 b.1
means_push s b = means_more Var s b

pub keeps_push : (θ : Substitution) (s : Bindings) (b : ℕ × Ty) → keeps θ s → θ b.0 ≡ apply θ b.1 → keeps θ (s ++ b ∷ [])
keeps_push θ [] b h e = (e, tt)
keeps_push θ (c ∷ s) b h e = (h.0, keeps_push θ s b h.1 e)

pub keeps_start : (θ : Substitution) (s more : Bindings) → keeps θ (s ++ more) → keeps θ s
keeps_start θ [] more h = tt
keeps_start θ (c ∷ s) more h = (h.0, keeps_start θ s more h.1)

pub keeps_last : (θ : Substitution) (s : Bindings) (b : ℕ × Ty) → keeps θ (s ++ b ∷ []) → θ b.0 ≡ apply θ b.1
keeps_last θ [] b h = h.0
keeps_last θ (c ∷ s) b h = keeps_last θ s b h.1

pub keeps_after : (ρ σ : Substitution) (s : Bindings) → keeps σ s → keeps (λ y. apply ρ (σ y)) s
keeps_after ρ σ [] h = tt
keeps_after ρ σ (b ∷ s) h = (ap (apply ρ) h.0 ∙ composes ρ σ b.1, keeps_after ρ σ s h.1)

-- what a substitution that keeps the bindings gives is what it gives after them
module _ (θ : Substitution) where
  abbrev Under : Substitution → Type 0
  Under σ = (y : ℕ) → apply θ (σ y) ≡ θ y

  under_type : (σ : Substitution) → Under σ → (t : Ty) → apply θ (apply σ t) ≡ apply θ t
  under_type σ h t = composes θ σ t ∙ (λ i. apply (λ y. h y i) t)

  chosen : (x : ℕ) (u : Ty) (y : ℕ) (b : Bool) → (b ≡ true → x ≡ y) → θ x ≡ apply θ u → apply θ (if b then u else Var y) ≡ θ y
  chosen x u y true is e = sym e ∙ ap θ (is refl)
  chosen x u y false is e = apply_var θ y

  same_number : (x y : ℕ) → (x == y) ≡ true → x ≡ y
  same_number x y on = grind (arith, on)

  under_added : (σ : Substitution) (x : ℕ) (t : Ty) → Under σ → θ x ≡ apply θ t → Under (added σ x t)
  under_added σ x t h e y =
      composes θ (single x (apply σ t)) (σ y)
      ∙ (λ i. apply (λ z. chosen x (apply σ t) z (x == z) (same_number x z) (e ∙ sym (under_type σ h t)) i) (σ y))
      ∙ h y

  under_from : (σ : Substitution) (s : Bindings) → Under σ → keeps θ s → Under (means_from σ s)
  under_from σ [] h k = h
  under_from σ (b ∷ s) h k = under_from (added σ b.0 b.1) s (under_added σ b.0 b.1 h k.0) k.1

  pub general : (s : Bindings) → Extends θ s → (t : Ty) → apply θ (apply (means s) t) ≡ apply θ t
  general s k t = under_type (means s) (under_from Var s (apply_var θ) k.all) t

  -- what a type means is no larger than what it becomes
  pub meant_no_larger : (s : Bindings) → Extends θ s → (t : Ty) → meant s t ≤ size (apply θ t)
  meant_no_larger s k t = omega (arith, no_smaller θ (apply (means s) t), ap size (general s k t))

pub all_general : ExtensionsAreInstances
all_general θ s k t = general θ s k t

pub all_extend : InstancesExtend
all_extend s h ρ = record { all = keeps_after ρ (means s) s h.solved }

-- what bindings mean extends them
pub means_extends : (s : Bindings) → Solved s → Extends (means s) s
means_extends s h = record { all = h.solved }
