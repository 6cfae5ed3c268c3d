-- No argument, or the first one and then the others.
use Rattle.ps_base.proofs.Writing.{adds_then, adds_nothing}
use Rattle.c_emit.proofs.ParameterTexts.{no_arguments, some_arguments}
use Rattle.c_emit.proofs.text.put_arguments.Goals as goal

pub returns-in-Some : goal.returns-in-Some
returns-in-Some g c = rw (some_arguments _ _ _ c.in-Some.ensures.cases.0) (adds_then _ _ _ _ _ _ _ _ c.put_variable-so_far.ensures c.put_each.ensures)

pub returns-in-None : goal.returns-in-None
returns-in-None g c = rw (no_arguments c.args.arguments.now c.in-None.ensures.cases) (adds_nothing _ _)
