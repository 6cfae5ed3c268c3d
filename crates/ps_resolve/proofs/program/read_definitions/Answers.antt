use Rattle.std.proofs.Common.{rules, ◌++◌, ◌∷◌, [], ◌+◌, take, subst, sym, ap, ◌∙◌, append_assoc}
use Rattle.std.proofs.lemmas.List.{take_more}
use Rattle.ps_resolve.specs.InsideAnswers.{IsNotProgram}
use Rattle.ps_resolve.specs.InsideDefinitions.{AreDefinitions}
use Rattle.ps_resolve.proofs.Definitions.{one_definition, good-at}
use Rattle.ps_resolve.proofs.program.read_definitions.Goals as goal

pub returns-in_err-read_definition-clause-unread : goal.returns-in_err-read_definition-clause-unread
returns-in_err-read_definition-clause-unread c = λ u hs e fine.
    let is : IsNotProgram c.in_err-read_definition.field-0.0 = search rules in
    let good = good-at c.args.names.now c.args.forms.now c.loop-form.form-index c.form-item.result c.loop-form-test.true c.form-item.is (record { heads = hs; are = e; good = fine }) in
    c.in_err-read_definition.ensures.unread is good.0 good.1 good.2

pub loop-form-preserved : goal.loop-form-preserved
loop-form-preserved c = λ done all.
    let i = c.loop-form.form-index in
    let d = c.form-item.result in
    let forms = c.args.forms.now in
    let one = one_definition c.args.names.now (done ++ take i forms) c.loop-form.definitions d c.in_ok-read_definition.field-0 (c.loop-form.invariant done all) c.in_ok-read_definition.ensures.read in
    let place = append_assoc done (take i forms) (d ∷ []) ∙ ap (λ z. done ++ z) (ap (λ z. take i forms ++ z ∷ []) c.form-item.is ∙ sym (take_more forms i d c.loop-form-test.true)) in
    subst (AreDefinitions c.args.names.now (done ++ take (i + 1) forms)) (sym c.in_ok-push.ensures.ok) (subst (λ z. AreDefinitions c.args.names.now z (c.loop-form.definitions ++ c.in_ok-read_definition.field-0 ∷ [])) place one)
