use Rattle.std.proofs.Common.{◌≡◌, take}
use Rattle.ps_kernel.specs.Most.{most_depth}
use Rattle.ps_kernel.specs.Texts.{form_marks}
use Rattle.ps_evaluator.specs.InsideTexts.{told}
use Rattle.ps_evaluator.proofs.texts.told_of_kernel.Given as goal

abbrev pub invariant-loop-form : goal.invariant-loop-form
invariant-loop-form l = l.tale ≡ told (form_marks l.kernel most_depth (take l.form-index l.form-items))
