use Rattle.std.proofs.Common.{drop}
use Rattle.ps_show.specs.declared.page.Page.{Page}
use Rattle.ps_show.specs.InsidePages.{Adds}
use Rattle.ps_show.specs.ShowText.{kind_lines}
use Rattle.ps_show.proofs.kinds.put_kinds.Given as goal

-- what adds the rest has added all
abbrev pub invariant-loop-k : goal.invariant-loop-k
invariant-loop-k l = (t : Page) → Adds l.page t (kind_lines l.k (drop l.k l.kinds)) → Adds l.fn.page t (kind_lines 0 l.kinds)
