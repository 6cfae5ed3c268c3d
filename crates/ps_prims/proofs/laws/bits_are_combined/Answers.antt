use Rattle.ps_prims.proofs.RowsActOnBits.{combined, turned_over}
use Rattle.ps_prims.proofs.laws.bits_are_combined.Goals as goal

pub returns-clause-combined : goal.returns-clause-combined
returns-clause-combined c = combined

pub returns-clause-turned : goal.returns-clause-turned
returns-clause-turned c = turned_over
