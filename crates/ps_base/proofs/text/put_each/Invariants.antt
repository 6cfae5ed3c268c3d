use Rattle.std.proofs.Common.{◌+◌, drop, Result}
use Rattle.ps_base.specs.SinkStates.{SinkState}
use Rattle.ps_base.specs.declared.sink.SinkFault.{SinkFault}
use Rattle.ps_base.specs.Sinks.{Adds}
use Rattle.ps_base.specs.Texts.{each}
use Rattle.ps_base.proofs.text.put_each.Given as goal

-- what adds the rest has added all
abbrev pub invariant-loop-i : goal.invariant-loop-i
invariant-loop-i g l = (t : SinkState) (r : Result (Unit {0}) SinkFault) →
    Adds (g.O.Sink.shows l.out) l.so_far t r (each g.S.Style.text (l.first + l.i) (drop l.i l.items)) →
    Adds (g.O.Sink.shows l.fn.out) l.fn.so_far t r (each g.S.Style.text l.first l.items)
