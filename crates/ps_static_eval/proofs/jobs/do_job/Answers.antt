use Rattle.std.proofs.Common.{◌≡◌, List, reverse, ap, sym, subst, ◌∙◌}
use Rattle.byte_store.specs.declared.pointer.Value.{Value}
use Rattle.ps_prims.specs.declared.stages.Stage.TheVariants.{Compile}
use Rattle.ps_prims.specs.Sorts.{first_order}
use Rattle.ps_meaning.specs.Eval.{operation}
use Rattle.ps_static_eval.specs.InsideMachine.{Turns, job_done, left}
use Rattle.ps_static_eval.proofs.Joins.{same_run}
use Rattle.ps_static_eval.proofs.FramesBegin.{becomes_turns}
use Rattle.ps_static_eval.proofs.jobs.do_job.Goals as goal

pub returns-in_ok-ending-in-Perform-clause-same : goal.returns-in_ok-ending-in-Perform-clause-same
returns-in_ok-ending-in-Perform-clause-same g c = λ f.
    let k = c.args.kernel.now in
    let vs : List Value = c.as_slice.result.now in
    let given = c.reverse.new.self.items in
    let m' = left c.operate.new.machine in
    let same : vs ≡ reverse c.args.given.now.items = c.as_slice.ensures.value ∙ c.reverse.ensures.items in
    same_run k f (job_done k f c.args.job c.args.at (reverse c.args.given.now.items)) (operation k Compile first_order c.args.at c.in-Perform.p vs) c.args.frames.now (left c.args.machine.now) c.control_of.result given c.args.frames.now m'
    (ap (λ j. job_done k f j c.args.at (reverse c.args.given.now.items)) c.in-Perform.is ∙ ap (λ z. operation k Compile first_order c.args.at c.in-Perform.p z) (sym same))
    (subst (λ z. Turns k f (operation k Compile first_order c.args.at c.in-Perform.p vs) c.args.frames.now (left c.args.machine.now) z given c.args.frames.now m') (sym c.control_of.ensures.same)
    (becomes_turns k f (operation k Compile first_order c.args.at c.in-Perform.p vs) c.in_ok-ending-in-Perform.ending c.args.frames.now (left c.args.machine.now) m' given c.in_ok-ending-in-Perform.ensures.same))
