use Rattle.ps_static_eval.proofs.ScopesAreHeld.{puts_on, puts_nowhere}
use Rattle.ps_static_eval.proofs.turns.put_local.Goals as goal

pub returns-then-put-clause-same : goal.returns-then-put-clause-same
returns-then-put-clause-same g c = λ k f vs m. puts_on k f c.args.x c.args.v c.args.frames.now c.put.new.self c.if-put.ensures c.args.at vs m

pub returns-else-put-clause-same : goal.returns-else-put-clause-same
returns-else-put-clause-same g c = λ k f vs m. puts_nowhere k f c.args.x c.args.v c.args.frames.now c.put.new.self c.args.at vs m c.if-put.ensures.0 c.if-put.ensures.1
