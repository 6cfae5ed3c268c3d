use Rattle.ps_meaning.proofs.LargerBoundsKeep.{unrolled}
use Rattle.ps_meaning.proofs.laws.calls_enter_procedures.Goals as goal

pub returns : goal.returns
returns c = unrolled
