use Rattle.std.proofs.Common.{arith}
use Rattle.std.proofs.lemmas.Option.{slice_get_past}
use Rattle.ps_command.specs.Lines.{name_text}
use Rattle.ps_command.proofs.lines.put_name.Goals as goal

pub returns-then-name-len : goal.returns-then-name-len
unfolding name_text
returns-then-name-len g c = rw c.text.ensures c.put.ensures

pub returns-else-name-len : goal.returns-else-name-len
unfolding name_text
returns-else-name-len g c = rw (slice_get_past c.args.names.now c.args.name.0 (omega arith)) c.put-else-name-len.ensures
