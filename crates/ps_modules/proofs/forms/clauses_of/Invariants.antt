use Rattle.ps_modules.specs.Shapes.{none, behind, clause}
use Rattle.ps_modules.specs.InsideShapes.{JoinedSo}
use Rattle.ps_modules.proofs.forms.clauses_of.Given as goal

abbrev pub invariant-loop-d : goal.invariant-loop-d
invariant-loop-d l = JoinedSo none behind (clause l.fn.names) l.fn.ds none l.clauses l.d-index
