use Rattle.std.proofs.Common.{◌≡◌, ◌+◌, ◌-◌, ◌≤◌}
use Rattle.ps_types.specs.Writing.{variables, before, different, number}
use Rattle.ps_types.proofs.DifferentMembersCount.{from}
use Rattle.ps_types.proofs.numbering.number_of.Given as goal

-- what was counted and what is left from the floor on are all
abbrev pub invariant-loop-other : goal.invariant-loop-other
invariant-loop-other l = record {
  counted : l.number + different (from l.floor (before l.variable (variables l.t))) ≡ number (variables l.t) l.variable;
  within : l.number ≤ l.floor;
  bound : l.floor ≤ 4294967296;
}

abbrev pub decreases-loop-other : goal.decreases-loop-other
decreases-loop-other l = 4294967296 - l.floor
