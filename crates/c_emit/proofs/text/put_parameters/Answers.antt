-- No parameter, or the first one and then the others.
use Rattle.std.proofs.Common.{◌-◌, arith}
use Rattle.ps_base.proofs.Writing.{adds_then, adds_nothing}
use Rattle.c_emit.proofs.ParameterTexts.{no_parameters, some_parameters, parameters_at, parameters_none}
use Rattle.c_emit.proofs.text.put_parameters.Goals as goal

pub returns-then-count-eq0 : goal.returns-then-count-eq0
returns-then-count-eq0 g c = rw (no_parameters c.args.count (omega arith)) c.put.ensures

pub loop-k-init : goal.loop-k-init
loop-k-init g c = λ t r h. rw (some_parameters c.args.count (omega arith)) (adds_then _ _ _ _ _ _ _ _ c.put-so_far.ensures h)

pub loop-k-preserved : goal.loop-k-preserved
loop-k-preserved g c = λ t r h. c.loop-k.invariant t r (rw (parameters_at c.loop-k.k c.args.count (omega arith)) (adds_then _ _ _ _ _ _ _ _ c.put_parameter-so_far.ensures h))

pub returns : goal.returns
returns g c = c.loop-k.invariant _ _ (rw (parameters_none c.loop-k.k (c.args.count - c.loop-k.k) (omega arith)) (adds_nothing _ _))
