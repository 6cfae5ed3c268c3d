use Rattle.std.proofs.Common.{◌≡◌, drop, []}
use Rattle.std.specs.List.{fold}
use Rattle.ps_kernel.specs.Marks.{locals_of}
use Rattle.ps_captured.specs.InsideTables.{with_local}
use Rattle.ps_captured.proofs.keeping.own_of.Given as goal

-- what the rest adds ends as what all adds
abbrev pub invariant-loop-entry : goal.invariant-loop-entry
invariant-loop-entry l = fold with_local l.own (locals_of (drop l.entry-index l.group)) ≡ fold with_local [] (locals_of l.group)
