use Rattle.std.proofs.Common.{length, Result}
use Rattle.ps_base.specs.SinkStates.{SinkState}
use Rattle.ps_base.specs.declared.sink.SinkFault.{SinkFault}
use Rattle.ps_base.specs.Sinks.{Writes}
use Rattle.ps_base.proofs.sink.write_all.Given as goal

-- what writes the rest has written all
abbrev pub invariant-loop-rest : goal.invariant-loop-rest
invariant-loop-rest g l = (t : SinkState) (r : Result (Unit {0}) SinkFault) → Writes (g.O.Sink.shows l.out) t l.rest r → Writes (g.O.Sink.shows l.fn.out) t l.bytes r

abbrev pub decreases-loop-rest : goal.decreases-loop-rest
decreases-loop-rest g l = length l.rest
