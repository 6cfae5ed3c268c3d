use Rattle.ps_show.specs.declared.page.Page.{Page}
use Rattle.ps_show.specs.InsidePages.{Adds}
use Rattle.ps_show.specs.Shown.{spaced}
use Rattle.ps_show.specs.Words.{local_word}
use Rattle.ps_show.proofs.PagesAreJoined.{spaced_from}
use Rattle.ps_show.proofs.nodes.put_locals.Given as goal

-- what adds the rest has added all
abbrev pub invariant-loop-i : goal.invariant-loop-i
invariant-loop-i l = (t : Page) → Adds l.page t (spaced_from (local_word l.locals) l.i l.numbers) → Adds l.fn.page t (spaced (local_word l.locals) l.numbers)
