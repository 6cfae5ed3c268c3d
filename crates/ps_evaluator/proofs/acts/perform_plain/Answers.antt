use Rattle.std.proofs.Common.{map, ap, ◌∙◌, sym}
use Rattle.ps_prims.specs.declared.stages.Stage.TheVariants.{Run as AtRun}
use Rattle.ps_meaning.specs.declared.values.RunValue.TheVariants.{Plain}
use Rattle.ps_meaning.specs.Eval.{belongs}
use Rattle.ps_evaluator.proofs.Performs.{misfit}
use Rattle.ps_evaluator.proofs.acts.perform_plain.Goals as goal

pub returns-in-CompileOnly-clause-same : goal.returns-in-CompileOnly-clause-same
returns-in-CompileOnly-clause-same c = λ f.
    misfit c.args.kernel.now c.args.at c.args.p (map Plain c.args.operands.now) c.args.machine.now
    (ap (λ z. belongs z AtRun) (sym (c.stages_of.ensures c.args.kernel.now.kinds) ∙ c.in-CompileOnly.is))
