use Rattle.ps_modules.specs.Shapes.{file}
use Rattle.ps_modules.specs.declared.shapes.Part.TheVariants as parts
use Rattle.ps_modules.specs.InsideShapes.{PutSo}
use Rattle.ps_modules.proofs.forms.add_files.Given as goal

abbrev pub invariant-loop-d : goal.invariant-loop-d
invariant-loop-d l = PutSo (λ f. parts.File f) (file l.fn.names) l.fn.ds l.fn.parts l.parts l.d-index
