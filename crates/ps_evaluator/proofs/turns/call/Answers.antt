use Rattle.ps_evaluator.proofs.Joins.{down_call}
use Rattle.ps_evaluator.proofs.turns.call.Goals as goal

pub returns : goal.returns
returns c = λ k f. down_call k f c.args.at c.args.deep c.args.f.now c.args.es c.args.depth c.args.frames.now.items c.push.new.self.items c.in_ok-push.ensures.items
