-- One more argument is written.
use Rattle.std.proofs.Common.{ℕ, get_or, None}
use Rattle.c_meaning.proofs.FramesFollow.{fills}
use Rattle.c_meaning.proofs.values.variables_of_call.Goals as goal

pub loop-i-preserved : goal.loop-i-preserved
loop-i-preserved c = fills (λ (k : ℕ). get_or c.args.locals.now k None) c.args.arguments.now c.loop-i.i c.args.more c.loop-i.variables.items c.variable.result c.loop-i.invariant c.variable.ensures c.loop-i-test.true
