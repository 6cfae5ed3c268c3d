use Rattle.ps_prims.proofs.RowsAreNatural.{rows_natural}
use Rattle.ps_prims.proofs.laws.rows_are_natural.Goals as goal

pub returns : goal.returns
returns g c = λ f values others alike. rows_natural f values others alike
