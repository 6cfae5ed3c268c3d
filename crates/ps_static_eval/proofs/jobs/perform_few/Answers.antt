use Rattle.ps_prims.specs.declared.stages.Stage.TheVariants.{Compile}
use Rattle.ps_prims.specs.Needs.{Takes, need}
use Rattle.ps_prims.specs.Performing.{state}
use Rattle.ps_static_eval.proofs.BlocksAreFew.{few_after}
use Rattle.ps_static_eval.proofs.jobs.perform_few.Goals as goal

pub returns-clause-few : goal.returns-clause-few
returns-clause-few g c =
    few_after c.args.kernel.now.kinds c.args.p c.args.operands.now (Takes (need c.args.p) Compile) c.perform.result (state c.args.store.now c.args.world.now c.args.events.now) (state c.perform.new.store c.perform.new.world c.perform.new.events)
    c.requires.kinds c.requires.belongs c.perform.ensures
