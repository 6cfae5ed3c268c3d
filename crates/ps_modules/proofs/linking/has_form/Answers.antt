use Rattle.std.proofs.Common.{◌∙◌, sym, arith}
use Rattle.ps_modules.specs.Texts.{is_form}
use Rattle.ps_modules.proofs.Gathering.{any_next, any_here, any_end}
use Rattle.ps_modules.proofs.linking.has_form.Goals as goal

pub returns-then-is_form : goal.returns-then-is_form
returns-then-is_form c = sym (c.loop-d.invariant ∙ any_here (is_form c.args.names.now) _ _ _ c.loop-d-test.true c.d-item.is (sym c.is_form.ensures ∙ c.if-is_form.true))

pub loop-d-preserved : goal.loop-d-preserved
loop-d-preserved c = c.loop-d.invariant ∙ any_next (is_form c.args.names.now) _ _ _ c.loop-d-test.true c.d-item.is (sym c.is_form.ensures ∙ c.if-is_form.false)

pub returns : goal.returns
returns c = sym (c.loop-d.invariant ∙ any_end (is_form c.args.names.now) c.args.ds.now c.loop-d.d-index (omega arith))
