use Rattle.ps_read.proofs.BreachesBreakOff.{breaks_off}
use Rattle.ps_read.proofs.laws.first_breach_is_first.Goals as goal

pub returns : goal.returns
returns c = breaks_off
