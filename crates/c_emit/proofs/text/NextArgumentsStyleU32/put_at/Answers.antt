-- A comma, and then the variable.
use Rattle.c_ast.specs.Text.{next_argument}
use Rattle.ps_base.proofs.Writing.{adds_then}
use Rattle.c_emit.proofs.text.NextArgumentsStyleU32.put_at.Goals as goal

pub returns : goal.returns
unfolding next_argument
returns g c = search adds_then
