use Rattle.ps_plain.proofs.Bounds.{unrolled}
use Rattle.ps_plain.proofs.laws.calls_enter_procedures.Goals as goal

pub returns : goal.returns
returns c = unrolled
