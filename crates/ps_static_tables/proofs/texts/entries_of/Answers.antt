use Rattle.std.proofs.Common.{List, ap, ◌∙◌}
use Rattle.std.proofs.lemmas.List.{take_all}
use Rattle.ps_kernel.specs.declared.kernel.Form.{Form}
use Rattle.ps_kernel.specs.Most.{most_depth}
use Rattle.ps_kernel.specs.Texts.{form_marks}
use Rattle.ps_static_tables.specs.InsideTexts.{told}
use Rattle.ps_static_tables.proofs.TextsAreTold.{form_more, whole_text}
use Rattle.ps_static_tables.proofs.texts.entries_of.Goals as goal

pub loop-form-preserved : goal.loop-form-preserved
loop-form-preserved c =
    form_more c.args.kernel.now c.as_slice-form-items.result.now c.loop-form.form-index c.form-item.result c.expr_of.result.now c.loop-form.entries c.tell.new.entries c.loop-form-test.true c.form-item.is c.expr_of.ensures c.loop-form.invariant c.in_ok-tell.ensures

pub returns : goal.returns
returns c =
    whole_text c.args.kernel.now c.as_slice-form-items.result.now c.loop-form.entries c.as_slice-form-items.ensures
    (c.loop-form.invariant ∙ ap (λ (fs : List Form). told (form_marks c.args.kernel.now most_depth fs)) (take_all c.loop-form.form-index c.as_slice-form-items.result.now c.loop-form-test.false))
