use Rattle.std.proofs.Common.{◌≡◌, ◌≤◌, ℕ, []}
use Rattle.ps_meaning.specs.Eval.{compile}
use Rattle.ps_static_eval.specs.InsideMachine.{at, left, rest, enters}
use Rattle.ps_static_eval.specs.InsideWeight.{total}
use Rattle.ps_static_eval.proofs.run.run.Given as goal

abbrev pub invariant-loop-alloc : goal.invariant-loop-alloc
invariant-loop-alloc g l = (l.machine.calls ≤ l.fn.machine.calls) × ((n : ℕ) → l.fn.machine.calls ≤ n → compile l.kernel (enters l.kernel n) l.e 0 (at (left l.fn.machine) []) ≡ rest l.kernel (enters l.kernel n) l.control l.given.items l.frames (left l.machine))

abbrev pub decreases-loop-alloc : goal.decreases-loop-alloc
decreases-loop-alloc g l = total l.kernel l.control l.frames l.machine.calls
