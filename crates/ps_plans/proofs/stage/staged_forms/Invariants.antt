use Rattle.std.proofs.Common.{◌≡◌, ◌++◌, drop}
use Rattle.ps_plans.specs.Nodes.{staged_forms as staged_forms_spec}
use Rattle.ps_plans.specs.Seen.{seen_all}
use Rattle.ps_plans.proofs.stage.staged_forms.Given as goal

abbrev pub invariant-loop-form : goal.invariant-loop-form
invariant-loop-form l = seen_all l.all.items ++ staged_forms_spec l.level (drop l.form-index l.forms) ≡ staged_forms_spec l.level l.forms
