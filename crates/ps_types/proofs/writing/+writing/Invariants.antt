use Rattle.std.proofs.Common.{map, Result}
use Rattle.ps_base.specs.SinkStates.{SinkState}
use Rattle.ps_base.specs.declared.sink.SinkFault.{SinkFault}
use Rattle.ps_base.specs.Sinks.{Adds}
use Rattle.ps_types.specs.Writing.{variables, spaced, text_in}
use Rattle.ps_types.proofs.TextsComeByParts.{spaced_from}
use Rattle.ps_types.proofs.writing.+writing.Given as goal

-- what adds the rest has added all
abbrev pub invariant-put_types-loop-i : goal.invariant-put_types-loop-i
invariant-put_types-loop-i g l = (t : SinkState) (r : Result (Unit {0}) SinkFault) →
    Adds (g.O.Sink.shows l.out) l.so_far t r (spaced_from l.i (map (text_in l.kinds l.names (variables l.whole)) l.types)) →
    Adds (g.O.Sink.shows l.fn.out) l.fn.so_far t r (spaced (map (text_in l.kinds l.names (variables l.whole)) l.types))
