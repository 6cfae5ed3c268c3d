use Rattle.std.proofs.Common.{◌≤◌, ◌-◌, length}
use Rattle.ps_edge.specs.Sources.{Taking}
use Rattle.ps_edge.proofs.source.read_text.Given as goal

abbrev pub invariant-reading : goal.invariant-reading
invariant-reading g l = record {
  within : length l.text.items ≤ l.limit;
  taking : Taking (g.I.Source.shows l.fn.source) (g.I.Source.shows l.source) l.text.items;
}

abbrev pub decreases-reading : goal.decreases-reading
decreases-reading g l = l.limit - length l.text.items
