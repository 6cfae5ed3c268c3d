use Rattle.std.proofs.Common.{◌≡◌, ◌≤◌, ℕ}
use Rattle.ps_meaning.specs.Eval.{run_enters}
use Rattle.ps_evaluator.specs.InsideMachine.{now, rest, state_of}
use Rattle.ps_evaluator.proofs.run.run.Given as goal

abbrev pub invariant-loop-left : goal.invariant-loop-left
invariant-loop-left l = (n : ℕ) → l.fn.machine.calls ≤ n → (l.machine.calls ≤ n) × (now l.kernel (run_enters l.kernel n) l.fn.start (state_of l.fn.machine) ≡ rest l.kernel (run_enters l.kernel n) l.control l.frames.items (state_of l.machine))

abbrev pub decreases-loop-left : goal.decreases-loop-left
decreases-loop-left l = l.left
