use Rattle.std.proofs.Common.{◌≡◌, ◌++◌, drop}
use Rattle.ps_plans.specs.Parts.{givens as givens_spec}
use Rattle.ps_plans.specs.Seen.{seen_operands}
use Rattle.ps_plans.proofs.stage.givens.Given as goal

abbrev pub invariant-loop-form : goal.invariant-loop-form
invariant-loop-form l = seen_operands l.all.items ++ givens_spec (drop l.form-index l.forms) ≡ givens_spec l.forms
