use Rattle.std.proofs.Common.{List, subst}
use Rattle.std.specs.Prelude.{IfOk}
use Rattle.ps_meaning.specs.declared.values.RunValue.{RunValue}
use Rattle.ps_evaluator.specs.declared.machine.Job.TheVariants.{Perform}
use Rattle.ps_evaluator.specs.InsideMachine.{Gathers}
use Rattle.ps_evaluator.proofs.turns.primitive.Goals as goal

pub returns : goal.returns
returns c = λ k. subst (λ (z : List RunValue). IfOk c.operands.result (λ x. Gathers k (Perform c.args.p) c.args.at z c.args.es.now c.args.depth c.args.frames.now.items x c.operands.new.frames.items)) c.new-none.ensures (c.operands.ensures k)
