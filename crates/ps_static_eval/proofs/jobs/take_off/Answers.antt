use Rattle.std.proofs.Common.{◌≤◌, ℕ, sym, subst}
use Rattle.std.specs.Prelude.{IfOk}
use Rattle.ps_static_eval.specs.declared.machine.Control.TheVariants.{Take}
use Rattle.ps_static_eval.specs.InsideMachine.{Resumes, enters, left}
use Rattle.ps_static_eval.proofs.jobs.take_off.Goals as goal

pub returns-in-Waits-clause-same : goal.returns-in-Waits-clause-same
returns-in-Waits-clause-same g c =
    let k = c.args.kernel.now in
    subst (λ z. IfOk c.take_waiting.result (λ x. (n : ℕ) → c.args.machine.now.calls ≤ n → Resumes k (enters k n) Take c.args.given.now.items z c.args.frames.now (left c.args.machine.now) x c.take_waiting.new.given.items c.take_waiting.new.frames (left c.take_waiting.new.machine)))
    (sym c.in-Waits.is) c.take_waiting.ensures.same
