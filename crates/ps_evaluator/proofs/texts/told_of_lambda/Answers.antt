use Rattle.std.proofs.Common.{◌≡◌, List, [], ◌∷◌, sym, subst, ap, ◌∙◌, refl}
use Rattle.ps_evaluator.proofs.TextsAreTold.{lambda_told, nothing_told}
use Rattle.ps_evaluator.proofs.texts.told_of_lambda.Goals as goal
use Rattle.ps_evaluator.proofs.texts.told_of_lambda.Goals.{in-Some+in_ok-tell, in_default}

pub returns : goal.returns
returns c = elim c.match-get.branch [
  | in-Some+in_ok-tell w ↦ w.tale-is ∙ lambda_told c.args.kernel.now c.args.lambda w.in-Some.m.now c.new-tale.result w.tell.new.tale (sym w.in-Some.ensures.value) c.new-tale.ensures w.in_ok-tell.ensures
  | in_default w ↦ w.tale-is ∙ nothing_told c.args.kernel.now c.args.lambda c.new-tale.result (sym w.in_default.ensures.value) c.new-tale.ensures
]
