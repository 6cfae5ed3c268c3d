use Rattle.std.proofs.Common.{List, ap, ◌∙◌, sym}
use Rattle.ps_prims.specs.declared.stages.Stage.TheVariants.{Run as AtRun}
use Rattle.ps_meaning.specs.Values.{run_values}
use Rattle.ps_runs.specs.Runs.{and_then}
use Rattle.ps_meaning.specs.Eval.{operation, run_entering, run_enters}
use Rattle.ps_meaning.proofs.LargerBoundsKeep.{unrolled}
use Rattle.ps_evaluator.specs.declared.machine.Control.TheVariants.{Do}
use Rattle.ps_evaluator.specs.declared.machine.Frame.{Frame}
use Rattle.ps_evaluator.specs.InsideMachine.{Becomes, Same, does, plug, state_of}
use Rattle.ps_evaluator.proofs.Joins.{if_ok_map}
use Rattle.ps_evaluator.proofs.acts.act.Goals as goal

pub returns-in-Enter-clause-same : goal.returns-in-Enter-clause-same
returns-in-Enter-clause-same c =
    let k = c.args.kernel.now in
    let s = state_of c.args.machine.now in
    if_ok_map (λ x. Becomes k (λ f. run_entering k f c.in-Enter.depth c.args.at c.in-Enter.procedure c.as_slice.result.now) c.args.machine.now x c.enter.new.machine)
    (λ x. (fs : List Frame) → Same k (Do c.args.job c.args.at c.args.operands) fs c.args.machine.now x fs c.enter.new.machine) c.enter.result
    (λ x h fs n le.
    let f = run_enters k n in
    ap (λ r. and_then r (plug k f fs)) (
    ap (λ j. does k f j c.args.at c.args.operands s) c.in-Enter.is
    ∙ unrolled k n c.in-Enter.depth c.args.at c.in-Enter.procedure c.args.operands s le
    ∙ ap (λ vs. run_entering k f c.in-Enter.depth c.args.at c.in-Enter.procedure vs s) (sym c.as_slice.ensures)
    ∙ h f)) c.enter.ensures.same

pub returns-clause-same : goal.returns-clause-same
returns-clause-same c =
    let k = c.args.kernel.now in
    let s = state_of c.args.machine.now in
    if_ok_map (λ x. Becomes k (λ f. operation k AtRun run_values c.args.at c.in-Perform.p c.as_slice-in-Perform.result.now) c.args.machine.now x c.operate.new.machine)
    (λ x. (fs : List Frame) → Same k (Do c.args.job c.args.at c.args.operands) fs c.args.machine.now x fs c.operate.new.machine) c.operate.result
    (λ x h fs n le.
    let f = run_enters k n in
    ap (λ r. and_then r (plug k f fs)) (
    ap (λ j. does k f j c.args.at c.args.operands s) c.in-Perform.is
    ∙ ap (λ vs. operation k AtRun run_values c.args.at c.in-Perform.p vs s) (sym c.as_slice-in-Perform.ensures)
    ∙ h f)) c.operate.ensures.same
