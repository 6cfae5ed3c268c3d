use Rattle.std.proofs.Common.{◌-◌, arith}
use Rattle.ps_groups.proofs.ListsByPlace.{last_at}
use Rattle.ps_groups.proofs.search.last.Goals as goal

pub returns-in-Some : goal.returns-in-Some
returns-in-Some c = last_at c.args.places.now (c.len-count.result - 1) c.in-Some.place.now (omega arith) c.in-Some.ensures.value
