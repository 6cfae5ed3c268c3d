use Rattle.std.proofs.Common.{◌≡◌, drop}
use Rattle.ps_types.specs.Writing.{stands_in}
use Rattle.ps_types.proofs.firsts.place_of.Given as goal

-- it is none of those so far
abbrev pub invariant-loop-i : goal.invariant-loop-i
invariant-loop-i l = stands_in l.variable l.firsts ≡ stands_in l.variable (drop l.i l.firsts)
