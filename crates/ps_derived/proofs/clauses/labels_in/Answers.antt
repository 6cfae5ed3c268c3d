use Rattle.std.proofs.Common.{rules, sym}
use Rattle.ps_pattern.proofs.Lists.{collect_kept, collect_none}
use Rattle.ps_pattern.proofs.Rests.{got}
use Rattle.ps_derived.specs.Clauses.{label_at}
use Rattle.ps_derived.proofs.clauses.labels_in.Goals as goal

pub returns-in-None : goal.returns-in-None
returns-in-None c = sym (collect_none label_at c.args.forms.now c.loop-form.form-index c.form-item.result (got c.args.forms.now c.loop-form.form-index c.form-item.result c.loop-form-test.true c.form-item.is) (search rules))

pub loop-form-preserved : goal.loop-form-preserved
loop-form-preserved c = collect_kept label_at c.args.forms.now c.loop-form.form-index c.form-item.result c.loop-form.labels c.in-Some.label c.push.new.self (got c.args.forms.now c.loop-form.form-index c.form-item.result c.loop-form-test.true c.form-item.is) c.loop-form.invariant (search rules) c.in_ok-push-in-Some.ensures.ok
