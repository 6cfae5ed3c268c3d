use Rattle.std.proofs.Common.{ap, arith, length}
use Rattle.ps_scope.specs.InsideTables.{Stacked}
use Rattle.ps_scope.proofs.Trails.{trails_length}
use Rattle.ps_scope.proofs.table.Table.mark.Goals as goal

pub returns-clause-within : goal.returns-clause-within
returns-clause-within c = omega (arith, c.self.invariant.within, trails_length c.self.inside.rows, ap (λ (s : Stacked). length s.trails) c.self.view_is)
