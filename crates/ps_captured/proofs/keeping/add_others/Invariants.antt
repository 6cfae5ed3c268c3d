use Rattle.std.proofs.Common.{◌≡◌, drop}
use Rattle.ps_captured.specs.InsideKeeping.{with_each}
use Rattle.ps_captured.proofs.keeping.add_others.Given as goal

-- what the rest adds ends as what all adds
abbrev pub invariant-loop-local : goal.invariant-loop-local
invariant-loop-local l = with_each l.own l.locals (drop l.local-index l.more) ≡ with_each l.own l.fn.locals l.more
