use Rattle.ps_meaning.specs.Eval.{run_enters}
use Rattle.ps_evaluator.proofs.Entering.{ends_as}
use Rattle.ps_evaluator.proofs.run.run.Goals as goal

pub returns : goal.returns
returns c = λ n le. ends_as c.args.kernel.now n c.args.start c.args.machine.now c.loop-left.control c.loop-left.frames.items c.loop-left.machine c.end_of.result (c.loop-left.invariant n le).1 (c.end_of.ensures c.args.kernel.now (run_enters c.args.kernel.now n))
