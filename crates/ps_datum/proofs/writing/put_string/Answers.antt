use Rattle.ps_datum.proofs.TextsComeByParts.{adds_then}
use Rattle.ps_datum.proofs.writing.put_string.Goals as goal

pub returns : goal.returns
returns c = adds_then (adds_then c.put_byte-so_far.ensures c.put_all_escaped-so_far.ensures) c.put_byte.ensures
