use Rattle.std.proofs.Common.{rules}
use Rattle.ps_modules.proofs.FormsDefine.{nothing_defined, form_refused}
use Rattle.ps_modules.proofs.text.text_of_forms.Goals as goal

pub loop-d-init : goal.loop-d-init
loop-d-init c = nothing_defined _ _ _ c.new.ensures c.new-2.ensures c.new-3.ensures c.new-4.ensures

pub returns-in_err-add_form : goal.returns-in_err-add_form
returns-in_err-add_form c =
    let all = form_refused _ _ _ _ c.loop-d.invariant _ c.loop-d-test.true c.d-item.is c.in_err-add_form.field-0.0 c.in_err-add_form.ensures in
    search rules
