use Rattle.std.proofs.Common.{◌≡◌, List, [], ◌∷◌, take, sym, subst, ap, ◌∙◌, refl}
use Rattle.std.proofs.lemmas.List.{take_all}
use Rattle.ps_kernel.specs.declared.kernel.Form.{Form}
use Rattle.ps_kernel.specs.Most.{most_depth}
use Rattle.ps_kernel.specs.Texts.{form_marks}
use Rattle.ps_evaluator.specs.InsideTexts.{told}
use Rattle.ps_evaluator.proofs.TextsAreTold.{form_more, whole_text}
use Rattle.ps_evaluator.proofs.texts.told_of_kernel.Goals as goal

pub loop-form-preserved : goal.loop-form-preserved
loop-form-preserved c =
    form_more c.args.kernel.now c.as_slice-form-items.result.now c.loop-form.form-index c.form-item.result c.expr_of.result.now c.loop-form.tale c.tell.new.tale c.loop-form-test.true c.form-item.is c.expr_of.ensures c.loop-form.invariant c.in_ok-tell.ensures

pub returns : goal.returns
returns c =
    whole_text c.args.kernel.now c.as_slice-form-items.result.now c.loop-form.tale c.as_slice-form-items.ensures
    (c.loop-form.invariant ∙ ap (λ (fs : List Form). told (form_marks c.args.kernel.now most_depth fs)) (take_all c.loop-form.form-index c.as_slice-form-items.result.now c.loop-form-test.false))
