use Rattle.ps_prims.proofs.DivisionsAreRounded.{rounded, undefined}
use Rattle.ps_prims.proofs.laws.divisions_are_rounded.Goals as goal

pub returns-clause-rounded : goal.returns-clause-rounded
returns-clause-rounded c = rounded

pub returns-clause-undefined : goal.returns-clause-undefined
returns-clause-undefined c = undefined
