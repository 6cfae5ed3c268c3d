use Rattle.ps_show.specs.declared.page.Page.{Page}
use Rattle.ps_show.specs.InsidePages.{Adds}
use Rattle.ps_show.specs.Shown.{spaced}
use Rattle.ps_show.specs.Words.{label_word}
use Rattle.ps_show.proofs.PagesAreJoined.{spaced_from}
use Rattle.ps_show.proofs.nodes.put_labels.Given as goal

-- what adds the rest has added all
abbrev pub invariant-loop-i : goal.invariant-loop-i
invariant-loop-i l = (t : Page) → Adds l.page t (spaced_from (label_word l.kind) l.i l.labels) → Adds l.fn.page t (spaced (label_word l.kind) l.labels)
