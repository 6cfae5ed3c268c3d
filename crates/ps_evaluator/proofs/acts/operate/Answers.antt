use Rattle.std.proofs.Common.{map, ap, ◌∙◌, sym}
use Rattle.ps_prims.specs.declared.stages.Stage.TheVariants.{Run as AtRun}
use Rattle.ps_meaning.specs.declared.values.RunValue.TheVariants.{Plain}
use Rattle.ps_meaning.specs.Values.{run_values}
use Rattle.ps_meaning.specs.Eval.{operation}
use Rattle.ps_evaluator.specs.InsideMachine.{Becomes, state_of}
use Rattle.ps_evaluator.proofs.Joins.{if_ok_map}
use Rattle.ps_evaluator.proofs.acts.operate.Goals as goal

pub returns-in-Some-clause-same : goal.returns-in-Some-clause-same
returns-in-Some-clause-same c =
    let k = c.args.kernel.now in
    if_ok_map
    (λ x. Becomes k (λ f. operation k AtRun run_values c.args.at c.args.p (map Plain c.as_slice.result.now)) c.args.machine.now x c.perform_plain.new.machine)
    (λ x. Becomes k (λ f. operation k AtRun run_values c.args.at c.args.p c.args.operands.now) c.args.machine.now x c.perform_plain.new.machine)
    c.perform_plain.result
    (λ x h f.
    ap (λ vs. operation k AtRun run_values c.args.at c.args.p vs (state_of c.args.machine.now)) (sym (rw c.in-Some.is at c.in_ok-values.ensures))
    ∙ ap (λ vs. operation k AtRun run_values c.args.at c.args.p (map Plain vs) (state_of c.args.machine.now)) (sym c.as_slice.ensures)
    ∙ h f)
    c.perform_plain.ensures.same
