use Rattle.std.proofs.Common.{◌≡◌, length}
use Rattle.ps_hygiene.specs.InsidePlaces.{structure_at, environment_at}
use Rattle.ps_hygiene.specs.Meanings.{means}
use Rattle.ps_hygiene.proofs.hygiene.Hygiene.means.Given as goal

abbrev pub invariant-stamps : goal.invariant-stamps
invariant-stamps l = record {
  means_so : means l.self.world l.self.here (structure_at l.self l.at) (environment_at l.self l.at) l.id.name l.stamps ≡ means l.self.world l.self.here (structure_at l.self l.fn.place) (environment_at l.self l.fn.place) l.id.name l.id.stamps;
}

abbrev pub decreases-stamps : goal.decreases-stamps
decreases-stamps l = length l.stamps
