use Rattle.std.proofs.Common.{◌≡◌, ◌+◌, length}
use Rattle.std.specs.List.{fold}
use Rattle.ps_kernel.specs.declared.kernel.Kernel.{Kernel}
use Rattle.ps_captured.specs.InsideKeeping.{Chases, all_named, looked, no_entry, unmet, with_entry}
use Rattle.ps_captured.proofs.chase.reached.Given as goal

-- the table is that of the group, and all that was met was followed
abbrev pub invariant-loop-next : goal.invariant-loop-next
invariant-loop-next l = (looked l.members ≡ fold with_entry no_entry l.group) × ((k : Kernel) → l.named ≡ all_named k.lambdas → Chases k l.group l.lambda l.chase)

abbrev pub decreases-loop-next : goal.decreases-loop-next
decreases-loop-next l = unmet l.group l.chase.met + length l.chase.todo
