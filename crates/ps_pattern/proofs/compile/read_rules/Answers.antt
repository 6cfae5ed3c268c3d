use Rattle.std.proofs.Common.{rules, sym}
use Rattle.ps_pattern.proofs.Lists.{collect_kept, collect_none}
use Rattle.ps_pattern.specs.Compiling.{rule_of}
use Rattle.ps_pattern.proofs.Rests.{got}
use Rattle.ps_pattern.proofs.compile.read_rules.Goals as goal

pub returns-in-None : goal.returns-in-None
returns-in-None c = sym (collect_none (rule_of c.args.dots c.args.literals.now) c.args.forms.now c.loop-form.form-index c.form-item.result (got c.args.forms.now c.loop-form.form-index c.form-item.result c.loop-form-test.true c.form-item.is) (search rules))

pub loop-form-preserved : goal.loop-form-preserved
loop-form-preserved c = collect_kept (rule_of c.args.dots c.args.literals.now) c.args.forms.now c.loop-form.form-index c.form-item.result c.loop-form.rules c.in-Some.rule c.push.new.self (got c.args.forms.now c.loop-form.form-index c.form-item.result c.loop-form-test.true c.form-item.is) c.loop-form.invariant (search rules) c.in_ok-push-in-Some.ensures.ok
