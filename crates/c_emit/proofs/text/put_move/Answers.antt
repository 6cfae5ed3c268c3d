-- The target, and then the atom.
use Rattle.c_ast.specs.Text.{statement_text}
use Rattle.ps_base.proofs.Writing.{adds_then}
use Rattle.c_emit.proofs.TargetsComeFirst.{target_then}
use Rattle.c_emit.proofs.text.put_move.Goals as goal

pub returns : goal.returns
unfolding statement_text
returns g c = rw target_then (search adds_then depth 12)
