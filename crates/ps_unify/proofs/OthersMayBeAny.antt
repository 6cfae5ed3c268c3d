-- Variables that stand in nothing that kept variables mean may be any types beside them.
-- For: others_may_be_any
use Rattle.std.proofs.Common.{◌≡◌, Bool, true, false, sym, ap, ◌∙◌, refl, arith}
use Rattle.std.specs.Prelude.{if◌then◌else◌}
use Rattle.ps_types.specs.declared.types.Ty.{Ty}
use Rattle.ps_types.specs.declared.types.Ty.TheVariants.{Var}
use Rattle.ps_types.specs.Substitutions.{apply}
use Rattle.ps_types.proofs.TypesAreTerms.{apply_var}
use Rattle.ps_types.proofs.SubstitutionsCompose.{composes, same_on}
use Rattle.ps_unify.specs.Bindings.{means}
use Rattle.ps_unify.specs.Laws.{mix, OthersMayBeAny}
use Rattle.ps_unify.proofs.BindingsAreMostGeneral.{general, all_extend}

unmixed : (b : Bool) (t u : Ty) → b ≡ false → (if b then t else u) ≡ u
unmixed false t u h = refl
unmixed true t u h = absurd (grind (arith, h))

pub others_any : OthersMayBeAny
others_any s h g kept off θ ρ ext = (
  (λ y. apply (mix g ρ θ) (means s y)),
  all_extend s h (mix g ρ θ),
  (λ y m. same_on (mix g ρ θ) θ (means s y) (λ x on. unmixed (g x) (ρ x) (θ x) (off y m x on)) ∙ ap (apply θ) (sym (apply_var (means s) y)) ∙ general θ s ext (Var y) ∙ apply_var θ y),
  (λ t. sym (composes (mix g ρ θ) (means s) t)),
)
