-- The target, the function and its arguments, one after another.
use Rattle.std.specs.Prelude.{codes}
use Rattle.c_ast.specs.Text.{statement_text}
use Rattle.ps_base.proofs.Writing.{adds_then}
use Rattle.c_emit.proofs.TargetsComeFirst.{target_word_then}
use Rattle.c_emit.proofs.text.put_call.Goals as goal

pub returns : goal.returns
unfolding statement_text
returns g c = rw (target_word_then c.args.target (codes "ps_f")) (search adds_then depth 12)
