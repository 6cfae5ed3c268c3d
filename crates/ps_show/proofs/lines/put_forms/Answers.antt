use Rattle.std.proofs.Common.{arith}
use Rattle.ps_show.proofs.LinesAreWritten.{adds_form, adds_no_form}
use Rattle.ps_show.proofs.lines.put_forms.Goals as goal

pub loop-form-preserved : goal.loop-form-preserved
loop-form-preserved c = λ u h.
    c.loop-form.invariant u (adds_form c.args.showing.now.kernel.now c.args.showing.now.names.now c.args.showing.now.locals.now _ _ _ u c.loop-form.form-index c.args.forms.now c.form-item.result c.loop-form-test.true c.form-item.is c.put_form.ensures c.put.ensures h)

pub returns : goal.returns
returns c = c.loop-form.invariant _ (adds_no_form c.args.showing.now.kernel.now c.args.showing.now.names.now c.args.showing.now.locals.now _ c.loop-form.form-index c.args.forms.now (omega arith))
