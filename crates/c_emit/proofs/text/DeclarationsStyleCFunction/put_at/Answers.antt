-- The head, and then the end of the declaration.
use Rattle.ps_base.proofs.Writing.{adds_then, adds_last}
use Rattle.c_emit.proofs.UnitLines.{declaration_parts}
use Rattle.c_emit.proofs.text.DeclarationsStyleCFunction.put_at.Goals as goal

pub returns : goal.returns
returns g c = rw declaration_parts (search (adds_then, adds_last) depth 12)
