use Rattle.std.proofs.Common.{◌≡◌, length}
use Rattle.ps_read.specs.InsideMachine.{put}
use Rattle.ps_read.proofs.machine.add.Given as goal

abbrev pub invariant-loop-place : goal.invariant-loop-place
invariant-loop-place l = put l.done l.stack l.value ≡ put l.fn.done l.fn.stack l.fn.value

abbrev pub decreases-loop-place : goal.decreases-loop-place
decreases-loop-place l = length l.stack
