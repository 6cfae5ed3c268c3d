use Rattle.std.proofs.Common.{ℕ, subst}
use Rattle.std.specs.Prelude.{IfOk}
use Rattle.ps_evaluator.specs.InsideMachine.{Calls}
use Rattle.ps_evaluator.proofs.turns.nested_call.Goals as goal

pub returns-in-Some : goal.returns-in-Some
returns-in-Some c = λ k. subst (λ (z : ℕ). IfOk c.call.result (λ x. Calls k c.args.at z c.args.f.now c.args.es.now c.args.depth c.args.frames.now.items x c.call.new.frames.items)) c.in-Some.ensures.1 (c.call.ensures k)
