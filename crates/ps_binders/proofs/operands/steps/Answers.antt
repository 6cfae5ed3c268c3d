use Rattle.std.proofs.Common.{◌≡◌, List, [], ◌∷◌, refl, arith}
use Rattle.std.proofs.lemmas.Grind.{common_steps}
use Rattle.ps_base.specs.declared.faults.Place.{Place}
use Rattle.ps_derived.specs.PartsOf.{LoopBindingOf}
use Rattle.ps_binders.specs.Binders.{steps}
use Rattle.ps_binders.proofs.operands.steps.Goals as goal
use Rattle.ps_binders.proofs.operands.steps.Goals.{then-i-locals+in_ok-push, else-i-locals}

steps_of_none : (at : Place) (vs : List LoopBindingOf) → steps at vs [] ≡ []
steps_of_none at [] = refl
steps_of_none at (v ∷ vs) = refl

pub loop-i-preserved : goal.loop-i-preserved
loop-i-preserved c = elim c.if-i-locals.branch [
  | then-i-locals+in_ok-push w ↦ grind (arith, common_steps)
  | else-i-locals w ↦ grind (arith, common_steps, steps_of_none)
]
