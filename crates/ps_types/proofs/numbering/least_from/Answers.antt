use Rattle.std.proofs.Common.{refl}
use Rattle.ps_types.specs.Writing.{variables}
use Rattle.ps_types.proofs.SearchesFindTheLeast.{finds_least}
use Rattle.ps_types.proofs.numbering.least_from.Goals as goal

pub returns : goal.returns
returns c = rw c.search_type.ensures (finds_least _ (variables c.args.t.now) refl refl)
