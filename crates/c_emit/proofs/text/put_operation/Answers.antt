-- The target, and then the operands with the operator between them.
use Rattle.c_ast.specs.Text.{statement_text}
use Rattle.ps_base.proofs.Writing.{adds_then}
use Rattle.c_emit.proofs.TargetsComeFirst.{target_then}
use Rattle.c_emit.proofs.text.put_operation.Goals as goal

pub returns : goal.returns
unfolding statement_text
returns g c = rw target_then (search adds_then depth 12)
