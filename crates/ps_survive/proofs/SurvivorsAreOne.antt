-- A program has one list of survivors at most.
-- For: `one_answer`
use Rattle.std.proofs.Common.{◌≡◌, List, ap, sym, ◌∙◌}
use Rattle.ps_survive.specs.declared.steps.Node.{Node}
use Rattle.ps_survive.specs.Steps.{has}
use Rattle.ps_survive.specs.Walk.{Ended}
use Rattle.ps_survive.specs.Kept.{survivors}
use Rattle.ps_survive.specs.Laws.{OneAnswer}
use Rattle.ps_survive.proofs.WalksEndOnce.{one_end}

pub one_answer : OneAnswer
one_answer p s t a b =
    let ends : Ended a.found ≡ Ended b.found = one_end p (Ended a.found) (Ended b.found) a.walk b.walk in
    let same : a.found ≡ b.found = cc in
    a.is ∙ ap (λ (f : List Node). survivors p f (has f)) same ∙ sym b.is
