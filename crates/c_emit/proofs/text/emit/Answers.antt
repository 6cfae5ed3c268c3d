-- The prelude, the declarations, the definitions and the last line, one after another.
use Rattle.ps_base.proofs.Writing.{adds_then, adds_last, adds_from_start}
use Rattle.c_emit.proofs.UnitLines.{text_parts}
use Rattle.c_emit.proofs.text.emit.Goals as goal

pub returns : goal.returns
returns g c = rw text_parts (adds_from_start _ _ _ _ tt (search (adds_then, adds_last) depth 16))
