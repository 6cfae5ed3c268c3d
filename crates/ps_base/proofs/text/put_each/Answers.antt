use Rattle.std.proofs.Common.{◌+◌, drop, arith, length-drop}
use Rattle.ps_base.proofs.Writing.{adds_then, adds_nothing, each_at, each_none}
use Rattle.ps_base.proofs.text.put_each.Goals as goal

pub loop-i-preserved : goal.loop-i-preserved
loop-i-preserved g c = λ t r h. c.loop-i.invariant t r (rw (each_at g.S.Style.text c.args.first c.loop-i.i c.args.items.now c.index-items-i.result (omega arith) c.index-items-i.is) (adds_then _ _ _ _ _ _ _ _ c.put_at-so_far.ensures h))

pub returns : goal.returns
returns g c = c.loop-i.invariant _ _ (rw (each_none g.S.Style.text (c.args.first + c.loop-i.i) (drop c.loop-i.i c.args.items.now) (omega (arith, length-drop c.loop-i.i c.args.items.now))) (adds_nothing _ _))
