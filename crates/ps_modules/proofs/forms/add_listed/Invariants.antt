use Rattle.ps_modules.specs.Shapes.{symbol, export}
use Rattle.ps_modules.specs.InsideShapes.{PutSo}
use Rattle.ps_modules.proofs.forms.add_listed.Given as goal

abbrev pub invariant-loop-d : goal.invariant-loop-d
invariant-loop-d l = PutSo (export l.fn.syntax) symbol l.fn.ds l.fn.exports l.exports l.d-index
