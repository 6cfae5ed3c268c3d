use Rattle.ps_evaluator.proofs.LocalsAreInTheState.{puts_back}
use Rattle.ps_evaluator.proofs.deeds.inside_anew.Goals as goal

pub returns-clause-same : goal.returns-clause-same
returns-clause-same c = λ k f. puts_back k f c.args.machine.now c.args.locals c.args.body c.args.depth c.args.frames.now.items c.push.new.self.items c.replace-before.result c.replace-before.new.dest c.replace-before.ensures.value c.replace-before.ensures.after c.in_ok-push.ensures.items
