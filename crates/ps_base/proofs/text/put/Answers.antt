use Rattle.ps_base.proofs.Writing.{adds_written}
use Rattle.ps_base.proofs.text.put.Goals as goal

pub returns-in-Ok : goal.returns-in-Ok
returns-in-Ok g c = rw c.in-Ok.is (adds_written _ _ _ _ _ c.write_all.ensures)
