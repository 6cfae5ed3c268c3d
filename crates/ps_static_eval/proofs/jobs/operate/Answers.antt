use Rattle.std.proofs.Common.{ap, ◌∙◌, sym}
use Rattle.ps_prims.specs.declared.stages.Stage.TheVariants.{Compile}
use Rattle.ps_meaning.specs.Eval.{belongs}
use Rattle.ps_static_eval.specs.InsideMachine.{left}
use Rattle.ps_static_eval.proofs.PrimitivesAreCounted.{misfit}
use Rattle.ps_static_eval.proofs.jobs.operate.Goals as goal

pub returns-in-RunOnly-clause-same : goal.returns-in-RunOnly-clause-same
returns-in-RunOnly-clause-same g c =
    misfit c.args.kernel.now c.args.at c.args.p c.args.operands.now (left c.args.machine.now)
    (ap (λ z. belongs z Compile) (sym (c.stages_of.ensures c.args.kernel.now.kinds) ∙ c.in-RunOnly.is))
