use Rattle.ps_base.proofs.Writing.{adds_nothing}
use Rattle.ps_types.proofs.TextsComeByParts.{space_at}
use Rattle.ps_types.proofs.writing.put_space.Goals as goal

pub returns-then-place-eq0 : goal.returns-then-place-eq0
returns-then-place-eq0 g c = rw c.if-place-eq0.true (adds_nothing _ _)

pub returns-else-place-eq0 : goal.returns-else-place-eq0
returns-else-place-eq0 g c = rw (space_at c.args.place c.if-place-eq0.false) c.put.ensures
