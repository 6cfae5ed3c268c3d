use Rattle.std.proofs.Common.{List, [], None, map, get_or, Bor, ℕ}
use Rattle.ps_modules.specs.Openings.{given_by, numbers_in}
use Rattle.ps_modules.proofs.Gathering.{item_is}
use Rattle.ps_modules.proofs.NamesAreTaken.{gives_other, not_taken, words_some}
use Rattle.ps_modules.proofs.openings.take_words.Goals as goal

pub returns-then-not-branch : goal.returns-then-not-branch
returns-then-not-branch c =
    let x : Bor (List ℕ) = get_or c.args.words.now c.loop-word.word-index (record { ref_ptr = (0, 0); now = [] }) in
    gives_other (λ ws. given_by None (numbers_in c.args.names.now (map (λ w. w.now) ws))) _ _ _ _ c.loop-word.invariant x c.loop-word-test.true (item_is _ _ _ c.loop-word-test.true) _
    (words_some c.args.names.now x _ _ c.in-Some.ensures) (not_taken _ _ _ c.if-not-branch.true c.in_ok-take.ensures)
