use Rattle.ps_modules.proofs.NamesAreTaken.{language_none, memory_none, language_all, was_taken, not_taken}
use Rattle.ps_modules.proofs.openings.take_language.Goals as goal

pub returns-then-not-branch : goal.returns-then-not-branch
returns-then-not-branch c = language_none c.args.known.now c.args.names.now (not_taken _ _ _ c.if-not-branch.true c.in_ok-take_words.ensures)

pub returns-then-not-branch-2 : goal.returns-then-not-branch-2
returns-then-not-branch-2 c = memory_none c.args.known.now c.args.names.now _ (was_taken _ _ _ c.if-not-branch.false c.in_ok-take_words.ensures) (not_taken _ _ _ c.if-not-branch-2.true c.in_ok-take_words-2.ensures)

pub returns : goal.returns
returns c = language_all c.args.known.now c.args.names.now _ (was_taken _ _ _ c.if-not-branch.false c.in_ok-take_words.ensures) _ (was_taken _ _ _ c.if-not-branch-2.false c.in_ok-take_words-2.ensures) _ _ c.take_words-3.ensures
