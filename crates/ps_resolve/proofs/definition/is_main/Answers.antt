use Rattle.std.proofs.Common.{◌∙◌, sym, arith}
use Rattle.std.specs.Prelude.{codes}
use Rattle.std.proofs.lemmas.Slice.Eq.{bytes_eq-Decides}
use Rattle.ps_resolve.proofs.Heads.{too_many, main_named, name-of_main}
use Rattle.ps_resolve.proofs.definition.is_main.Goals as goal

pub returns-in_default-words-2 : goal.returns-in_default-words-2
returns-in_default-words-2 c = (λ h. cc, λ h. absurd (too_many c.args.names.now c.args.form.now c.in-Some.words.now c.in-Some.field-0-1.now c.in-Some.ensures c.in_default-words.len_at_least h))

pub returns-in-Some-word : goal.returns-in-Some-word
returns-in-Some-word c =
    let decides = bytes_eq-Decides c.in-Some-word.name.now (codes "main") in (
      λ h. main_named c.args.names.now c.args.form.now c.in-Some.words.now c.in-Some.field-0-1.now c.in-Some.ensures c.name-item.result c.in-Some-word.name.now c.in-Some-word.ensures.reads c.in-len1.len_at_least (omega arith) c.name-item.is (decides.0 (sym c.is.ensures ∙ h)),
      λ h. c.is.ensures ∙ decides.1 (name-of_main c.args.names.now c.args.form.now c.in-Some.words.now c.in-Some.field-0-1.now c.in-Some.ensures c.name-item.result c.in-Some-word.name.now c.in-Some-word.ensures.reads c.in-len1.len_at_least (omega arith) c.name-item.is h),
    )
