-- The target, and then the call.
use Rattle.std.specs.Prelude.{codes}
use Rattle.c_ast.specs.Text.{statement_text}
use Rattle.ps_base.proofs.Writing.{adds_then}
use Rattle.c_emit.proofs.TargetsComeFirst.{target_word_then}
use Rattle.c_emit.proofs.text.put_write.Goals as goal

pub returns : goal.returns
unfolding statement_text
returns g c = rw (target_word_then c.args.target (codes "ps_write(")) (search adds_then depth 12)
