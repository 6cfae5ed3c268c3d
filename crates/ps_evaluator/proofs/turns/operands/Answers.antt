use Rattle.std.proofs.Common.{refl}
use Rattle.ps_evaluator.specs.declared.machine.Frame.TheVariants.{Operands}
use Rattle.ps_evaluator.proofs.Joins.{gather}
use Rattle.ps_evaluator.proofs.turns.operands.Goals as goal

pub returns-in_ok-push-in-Some : goal.returns-in_ok-push-in-Some
returns-in_ok-push-in-Some c = λ k f. gather k f c.args.job c.args.at c.args.done c.args.es.now c.in-Some.e.now c.in-Some.rest.now c.args.depth c.args.frames.now.items c.push.new.self.items
    (Operands c.args.job c.args.at c.args.done c.in-Some.rest c.args.depth)
    c.in-Some.ensures.cases
    (λ v. refl)
    c.in_ok-push-in-Some.ensures.items
