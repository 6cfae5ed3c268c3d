-- The head, the variables, the statements and the end of the definition, one after another.
use Rattle.ps_base.proofs.Writing.{adds_then, adds_last}
use Rattle.c_emit.proofs.UnitLines.{definition_parts}
use Rattle.c_emit.proofs.text.DefinitionsStyleCFunction.put_at.Goals as goal

pub returns : goal.returns
returns g c = rw definition_parts (search (adds_then, adds_last) depth 16)
