use Rattle.ps_base.proofs.Writing.{adds_then}
use Rattle.ps_command.specs.Lines.{width_text}
use Rattle.ps_command.proofs.lines.put_width.Goals as goal

pub returns : goal.returns
unfolding width_text
returns g c = search adds_then depth 12
