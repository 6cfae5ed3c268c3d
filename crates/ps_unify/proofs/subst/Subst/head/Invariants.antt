use Rattle.std.proofs.Common.{◌≡◌, ◌≤◌, ◌-◌, length, ℕ}
use Rattle.ps_types.specs.declared.types.Ty.{Ty}
use Rattle.ps_types.specs.declared.types.Ty.TheVariants.{Var}
use Rattle.ps_types.specs.Substitutions.{apply}
use Rattle.ps_unify.specs.Bindings.{means}
use Rattle.ps_unify.specs.InsideBindings.{At}
use Rattle.ps_unify.proofs.subst.Subst.head.Given as goal

abbrev pub invariant-loop-end : goal.invariant-loop-end
invariant-loop-end l = (apply (means l.self) l.end ≡ apply (means l.self) l.initial.end) × ((x i : ℕ) (u : Ty) → l.end ≡ Var x → At l.self i x u → l.from ≤ i)

abbrev pub decreases-loop-end : goal.decreases-loop-end
decreases-loop-end l = length l.self - l.from
