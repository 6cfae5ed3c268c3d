use Rattle.std.proofs.Common.{◌≡◌, ◌+◌, ◌-◌, ◌++◌}
use Rattle.ps_expansion.specs.States.{numbers_from}
use Rattle.ps_expansion.proofs.expansion.numbers_from.Given as goal

abbrev pub invariant-loop-i : goal.invariant-loop-i
invariant-loop-i l = l.all ++ numbers_from (l.first + l.i) (l.count - l.i) ≡ numbers_from l.first l.count
