-- The pieces of the text, one after another.
use Rattle.ps_base.proofs.Writing.{adds_then}
use Rattle.c_emit.proofs.text.put_parameter.Goals as goal

pub returns : goal.returns
returns g c = search adds_then
