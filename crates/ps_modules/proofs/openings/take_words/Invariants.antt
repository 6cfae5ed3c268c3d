use Rattle.std.proofs.Common.{None, map}
use Rattle.ps_modules.specs.Openings.{given_by, numbers_in}
use Rattle.ps_modules.proofs.NamesAreTaken.{TakenSo}
use Rattle.ps_modules.proofs.openings.take_words.Given as goal

abbrev pub invariant-loop-word : goal.invariant-loop-word
invariant-loop-word l = TakenSo (λ ws. given_by None (numbers_in l.fn.names (map (λ w. w.now) ws))) l.fn.words l.fn.known l.known l.word-index
