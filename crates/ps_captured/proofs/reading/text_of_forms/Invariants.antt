use Rattle.std.proofs.Common.{◌≡◌, drop, []}
use Rattle.ps_kernel.specs.Most.{most_depth}
use Rattle.ps_captured.specs.InsideReading.{read_forms, sights}
use Rattle.ps_captured.proofs.reading.text_of_forms.Given as goal

-- what the rest adds ends as what all adds
abbrev pub invariant-loop-form : goal.invariant-loop-form
invariant-loop-form l = read_forms l.lambdas most_depth (sights l.seen) (drop l.form-index l.forms) ≡ read_forms l.lambdas most_depth [] l.forms
