use Rattle.ps_reify.specs.InsideWork.{program_of}
use Rattle.ps_reify.proofs.WalkGoesOnAsMeant.{started_at, is_missing}
use Rattle.ps_reify.proofs.reifying.reify.Goals as goal

pub returns-then-not-begins : goal.returns-then-not-begins
returns-then-not-begins g c = is_missing (program_of c.in-Ok.image) _ c.missing_place.result c.in-Ok.ensures.program c.begins.result c.if-not-begins.true c.begins.ensures c.missing_place.ensures

pub run-requires-clause-walk : goal.run-requires-clause-walk
run-requires-clause-walk g c = started_at (program_of c.in-Ok.image) c.in-Ok-start.walk c.begins.result c.if-not-begins.false c.begins.ensures c.in-Ok.ensures.image.valid.main c.in-Ok-start.ensures
