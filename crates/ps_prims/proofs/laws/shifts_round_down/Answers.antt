use Rattle.ps_prims.proofs.ShiftsRoundDown.{round_down, undefined}
use Rattle.ps_prims.proofs.laws.shifts_round_down.Goals as goal

pub returns-clause-rounded : goal.returns-clause-rounded
returns-clause-rounded c = round_down

pub returns-clause-undefined : goal.returns-clause-undefined
returns-clause-undefined c = undefined
