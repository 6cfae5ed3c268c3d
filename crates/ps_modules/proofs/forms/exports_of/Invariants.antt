use Rattle.std.proofs.Common.{[], ◌++◌}
use Rattle.ps_modules.specs.Shapes.{item}
use Rattle.ps_modules.specs.InsideShapes.{JoinedSo}
use Rattle.ps_modules.proofs.forms.exports_of.Given as goal

abbrev pub invariant-loop-d : goal.invariant-loop-d
invariant-loop-d l = JoinedSo [] (λ first rest. first ++ rest) (item l.fn.names) l.fn.ds [] l.exports l.d-index
