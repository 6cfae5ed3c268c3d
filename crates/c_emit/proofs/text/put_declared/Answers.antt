-- The pieces of the line, one after another.
use Rattle.c_ast.specs.Text.{line_text}
use Rattle.ps_base.proofs.Writing.{adds_then, join_assoc}
use Rattle.c_emit.proofs.text.put_declared.Goals as goal

pub returns : goal.returns
unfolding line_text
returns g c = simp join_assoc (search adds_then depth 12)
