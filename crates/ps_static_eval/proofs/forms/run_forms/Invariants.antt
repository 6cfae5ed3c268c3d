use Rattle.std.proofs.Common.{◌≡◌, ◌≤◌, ◌-◌, ℕ, [], drop, length}
use Rattle.ps_meaning.specs.Source.{all_forms}
use Rattle.ps_static_eval.specs.InsideMachine.{at, left, enters}
use Rattle.ps_static_eval.proofs.forms.run_forms.Given as goal

abbrev pub invariant-loop-i : goal.invariant-loop-i
invariant-loop-i g l = (l.machine.calls ≤ l.fn.machine.calls) × ((n : ℕ) → l.fn.machine.calls ≤ n → all_forms l.kernel (enters l.kernel n) l.forms (at (left l.fn.machine) []) ≡ all_forms l.kernel (enters l.kernel n) (drop l.i l.forms) (at (left l.machine) []))

abbrev pub decreases-loop-i : goal.decreases-loop-i
decreases-loop-i g l = length l.forms - l.i
