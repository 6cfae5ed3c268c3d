use Rattle.std.proofs.Common.{drop}
use Rattle.ps_show.specs.declared.page.Page.{Page}
use Rattle.ps_show.specs.InsidePages.{Adds}
use Rattle.ps_show.specs.ShowText.{fields_text}
use Rattle.ps_show.proofs.kinds.put_fields.Given as goal

-- what adds the rest has added all
abbrev pub invariant-loop-f : goal.invariant-loop-f
invariant-loop-f l = (t : Page) → Adds l.page t (fields_text l.fn.k l.f (drop l.f l.fields)) → Adds l.fn.page t (fields_text l.fn.k 0 l.fields)
