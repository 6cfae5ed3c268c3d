use Rattle.ps_modules.specs.Shapes.{symbol}
use Rattle.ps_modules.specs.InsideShapes.{PutSo}
use Rattle.ps_modules.proofs.forms.add_opened.Given as goal

abbrev pub invariant-loop-d : goal.invariant-loop-d
invariant-loop-d l = PutSo (λ n. n) symbol l.fn.ds l.fn.opens l.opens l.d-index
