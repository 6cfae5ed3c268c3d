-- The statement, and then the end of its line.
use Rattle.c_ast.specs.Text.{lines_text, line_text}
use Rattle.ps_base.proofs.Writing.{adds_then, adds_last}
use Rattle.c_emit.proofs.text.StatementLinesStyleStatement.put_at.Goals as goal

pub returns : goal.returns
unfolding lines_text line_text
returns g c = search (adds_then, adds_last) depth 14
