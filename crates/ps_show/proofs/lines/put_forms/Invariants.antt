use Rattle.std.proofs.Common.{drop}
use Rattle.ps_show.specs.declared.page.Page.{Page}
use Rattle.ps_show.specs.InsidePages.{Adds}
use Rattle.ps_show.specs.ShowText.{form_lines}
use Rattle.ps_show.proofs.lines.put_forms.Given as goal

-- what adds the rest has added all
abbrev pub invariant-loop-form : goal.invariant-loop-form
invariant-loop-form l =
    (t : Page) → Adds l.page t (form_lines l.showing.kernel.now l.showing.names.now l.showing.locals.now (drop l.form-index l.forms)) → Adds l.fn.page t (form_lines l.showing.kernel.now l.showing.names.now l.showing.locals.now l.forms)
