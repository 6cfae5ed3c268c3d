use Rattle.std.proofs.Common.{rules, ap, ◌∙◌, sym, Some}
use Rattle.ps_plain.specs.Forms.{Part, part}
use Rattle.ps_resolve.specs.InsideValues.{scope_of}
use Rattle.ps_resolve.proofs.Options.{one_more}
use Rattle.ps_resolve.proofs.Refusals.{refuses_all}
use Rattle.ps_resolve.proofs.definition.writes.Goals as goal

pub returns-in_err-write : goal.returns-in_err-write
returns-in_err-write c =
    let g = λ (p : Part). p.write (scope_of c.args.scope.now) in
    let all = refuses_all (part c.args.scope.now.names.now) g c.args.forms.now c.loop-form.form-index c.form-item.result c.in_err-write.field-0.0 c.loop-form-test.true c.form-item.is c.in_err-write.ensures.by in
    search rules

pub loop-form-preserved : goal.loop-form-preserved
loop-form-preserved c =
    let g = λ (p : Part). p.write (scope_of c.args.scope.now) in
    one_more (part c.args.scope.now.names.now) g c.args.forms.now c.loop-form.form-index c.form-item.result c.loop-form-test.true c.form-item.is c.loop-form.writes c.in_ok-write.field-0 c.loop-form.invariant c.in_ok-write.ensures.by
    ∙ ap Some (sym c.in_ok-push.ensures.ok)
