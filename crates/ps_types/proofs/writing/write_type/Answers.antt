use Rattle.ps_base.proofs.Writing.{adds_from_start}
use Rattle.ps_types.proofs.writing.write_type.Goals as goal

pub returns : goal.returns
returns g c = adds_from_start _ _ _ _ _ c.put_type.ensures
