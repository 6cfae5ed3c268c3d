use Rattle.std.proofs.Common.{rules, sym}
use Rattle.ps_pattern.proofs.Lists.{collect_none}
use Rattle.ps_pattern.proofs.Rests.{got}
use Rattle.ps_derived.specs.Bindings.{loop_binding_at}
use Rattle.ps_derived.specs.Seen.{seen_loop_binding}
use Rattle.ps_derived.proofs.Gathering.{seen_kept}
use Rattle.ps_derived.proofs.bindings.loop_bindings_in.Goals as goal

pub returns-in-None : goal.returns-in-None
returns-in-None c = sym (collect_none loop_binding_at c.args.forms.now c.loop-form.form-index c.form-item.result (got c.args.forms.now c.loop-form.form-index c.form-item.result c.loop-form-test.true c.form-item.is) (search rules))

pub loop-form-preserved : goal.loop-form-preserved
loop-form-preserved c = seen_kept loop_binding_at seen_loop_binding c.args.forms.now c.loop-form.form-index c.form-item.result c.loop-form.all c.in-Some.binding c.push.new.self (got c.args.forms.now c.loop-form.form-index c.form-item.result c.loop-form-test.true c.form-item.is) c.loop-form.invariant (search rules) c.in_ok-push-in-Some.ensures.ok
