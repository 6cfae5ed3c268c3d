-- The first of the variables that are left, and then the others.
use Rattle.std.proofs.Common.{◌+◌, ◌-◌, arith}
use Rattle.ps_base.proofs.Writing.{adds_then, adds_nothing}
use Rattle.c_emit.proofs.UnitLines.{variables_at, variables_none}
use Rattle.c_emit.proofs.text.put_variables.Goals as goal

pub loop-k-preserved : goal.loop-k-preserved
loop-k-preserved g c = λ t r h. c.loop-k.invariant t r (rw (variables_at c.loop-k.k (c.args.first + c.args.count) (omega arith)) (adds_then _ _ _ _ _ _ _ _ c.put_declared-so_far.ensures h))

pub returns : goal.returns
returns g c = c.loop-k.invariant _ _ (rw (variables_none c.loop-k.k (c.args.first + c.args.count - c.loop-k.k) (omega arith)) (adds_nothing _ _))
