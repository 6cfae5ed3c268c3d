use Rattle.std.proofs.Common.{drop}
use Rattle.ps_show.specs.declared.page.Page.{Page}
use Rattle.ps_show.specs.InsidePages.{Adds}
use Rattle.ps_show.specs.Shown.{behind}
use Rattle.ps_show.specs.Words.{field_word}
use Rattle.ps_show.proofs.kinds.put_maker_fields.Given as goal

-- what adds the rest has added all
abbrev pub invariant-loop-field : goal.invariant-loop-field
invariant-loop-field l = (t : Page) → Adds l.page t (behind (field_word l.k) (drop l.field-index l.fields)) → Adds l.fn.page t (behind (field_word l.k) l.fields)
