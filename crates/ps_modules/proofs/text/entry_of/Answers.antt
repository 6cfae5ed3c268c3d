use Rattle.std.proofs.Common.{◌≡◌, None, Some, option_copied, sym, ap, ◌∙◌}
use Rattle.ps_modules.specs.InsideTexts.{defined}
use Rattle.ps_modules.specs.Texts.{last_of}
use Rattle.ps_modules.proofs.FormsDefine.{no_entry, entry_as}
use Rattle.ps_modules.proofs.text.entry_of.Goals as goal

pub returns-in-None : goal.returns-in-None
returns-in-None c =
    let none : last_of c.args.text.now.shapes ≡ None = sym (ap last_of c.as_slice.ensures) ∙ sym c.last.ensures.value ∙ ap option_copied c.in-None.is in
    no_entry c.args.names.now (defined c.args.text.now) (last_of c.args.text.now.shapes) c.module.result none c.module.ensures

pub returns-in-Some : goal.returns-in-Some
returns-in-Some c =
    let some : last_of c.args.text.now.shapes ≡ Some c.in-Some.entry.now = sym (ap last_of c.as_slice.ensures) ∙ sym c.last.ensures.value ∙ ap option_copied c.in-Some.is in
    entry_as c.args.names.now (defined c.args.text.now) (last_of c.args.text.now.shapes) c.in-Some.entry.now c.entry_exports.result some c.entry_exports.ensures
