use Rattle.std.proofs.Common.{◌≤◌, ℕ, reverse}
use Rattle.ps_meaning.specs.Eval.{CompileEnter}
use Rattle.ps_slots.specs.declared.cell.Cell.TheVariants.{Waits}
use Rattle.ps_static_eval.specs.declared.machine.Control.TheVariants.{Take}
use Rattle.ps_static_eval.specs.InsideMachine.{Resumes, Turns, job_done, left, enters}
use Rattle.ps_static_eval.proofs.Joins.{if_ok_map}
use Rattle.ps_static_eval.proofs.FramesBegin.{waits_off}
use Rattle.ps_static_eval.proofs.jobs.take_waiting.Goals as goal

pub returns-in-Gather-clause-same : goal.returns-in-Gather-clause-same
returns-in-Gather-clause-same g c =
    let k = c.args.kernel.now in
    let given = c.args.given.now.items in
    let cells = c.args.frames.now in
    let m = (left c.args.machine.now) in
    if_ok_map (λ x. (f : CompileEnter) → Turns k f (job_done k f c.in-Gather.job c.in-Gather.at (reverse given)) cells m x c.do_job.new.given.items c.do_job.new.frames (left c.do_job.new.machine))
    (λ x. (n : ℕ) → c.args.machine.now.calls ≤ n → Resumes k (enters k n) Take given (Waits c.args.waiting) cells m x c.do_job.new.given.items c.do_job.new.frames (left c.do_job.new.machine)) c.do_job.result
    (λ x h n le. waits_off k n c.args.waiting c.in-Gather.job c.in-Gather.at given cells m x c.do_job.new.given.items c.do_job.new.frames (left c.do_job.new.machine) c.in-Gather.is le (h (enters k n))) c.do_job.ensures.same
