use Rattle.std.proofs.Common.{length, ◌-◌, ◌≤◌, drop}
use Rattle.ps_edge.specs.Gatherings.{Hands}
use Rattle.ps_edge.proofs.gather_sink.give.Given as goal

-- the bytes up to this place were handed on
abbrev pub invariant-loop-at : goal.invariant-loop-at
invariant-loop-at g l = record {
  within : l.at ≤ length l.bytes;
  hands : Hands (g.O.Sink.shows l.fn.sink) (g.O.Sink.shows l.sink) (drop l.fn.from l.bytes) (drop l.at l.bytes);
}

abbrev pub decreases-loop-at : goal.decreases-loop-at
decreases-loop-at g l = length l.bytes - l.at
