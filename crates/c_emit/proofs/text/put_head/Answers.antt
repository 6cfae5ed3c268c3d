-- The number and the parameters, one after another.
use Rattle.c_ast.specs.Text.{head_text}
use Rattle.ps_base.proofs.Writing.{adds_then}
use Rattle.c_emit.proofs.text.put_head.Goals as goal

pub returns : goal.returns
unfolding head_text
returns g c = search adds_then depth 12
