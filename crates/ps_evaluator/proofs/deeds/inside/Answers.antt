use Rattle.std.proofs.Common.{[], ◌∷◌, ◌++◌, ap, ◌∙◌}
use Rattle.ps_evaluator.proofs.LocalsAreInTheState.{drops_first, needs_none}
use Rattle.ps_evaluator.proofs.deeds.inside.Goals as goal

pub returns-in_ok-machine-in-Some-Unbound-clause-same : goal.returns-in_ok-machine-in-Some-Unbound-clause-same
returns-in_ok-machine-in-Some-Unbound-clause-same c = λ k f. drops_first k f c.args.machine.now c.args.locals c.args.body c.args.depth c.pop.new.self.items c.args.frames.now.items c.in-Some-Unbound.count c.in_ok-machine-in-Some-Unbound.field-0
    (c.in-Some-Unbound.ensures.items ∙ ap (λ z. c.pop.new.self.items ++ z ∷ []) c.in-Some-Unbound.field-0-is) (rw (← c.as_slice.ensures) c.in_ok-machine-in-Some-Unbound.ensures)

pub returns-in_ok-push-in-Some-Back-clause-same : goal.returns-in_ok-push-in-Some-Back-clause-same
returns-in_ok-push-in-Some-Back-clause-same c = λ k f. needs_none k f c.args.machine.now c.args.locals c.args.body c.args.depth c.pop.new.self.items c.args.frames.now.items c.push.new.self.items c.in-Some-Back.before
    (c.in-Some-Back.ensures.items ∙ ap (λ z. c.pop.new.self.items ++ z ∷ []) c.in-Some-Back.field-0-is) c.in_ok-push-in-Some-Back.ensures.items
