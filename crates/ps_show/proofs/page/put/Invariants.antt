use Rattle.std.proofs.Common.{drop}
use Rattle.ps_show.specs.declared.page.Page.{Page}
use Rattle.ps_show.specs.Shown.{Text}
use Rattle.ps_show.specs.InsidePages.{Adds}
use Rattle.ps_show.proofs.page.put.Given as goal

-- what adds the rest has added all
abbrev pub invariant-loop-byte : goal.invariant-loop-byte
invariant-loop-byte l = (t : Page) → Adds l.page t (Text (drop l.byte-index l.bytes)) → Adds l.fn.page t (Text l.bytes)
