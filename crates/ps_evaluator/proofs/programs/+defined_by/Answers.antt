use Rattle.std.proofs.Common.{◌∙◌}
use Rattle.ps_evaluator.proofs.Steps.{defined_here}
use Rattle.ps_evaluator.proofs.programs.+defined_by.Goals as goal

pub returns-then-g-d : goal.returns-then-g-d
returns-then-g-d t c = c.lambda_in.ensures ∙ defined_here c.args.g c.in-Define.d c.in-Define.e c.args.forms.now c.form-item.result c.in-len1-up.len_at_least c.form-item.is c.in-Define.is c.if-g-d.true
