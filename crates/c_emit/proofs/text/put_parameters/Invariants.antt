-- The parameters that are left.
use Rattle.std.proofs.Common.{◌-◌, Result}
use Rattle.ps_base.specs.SinkStates.{SinkState}
use Rattle.ps_base.specs.declared.sink.SinkFault.{SinkFault}
use Rattle.ps_base.specs.Sinks.{Adds}
use Rattle.c_ast.specs.Text.{next_parameters, parameters_text}
use Rattle.c_emit.proofs.text.put_parameters.Given as goal

-- what adds the rest has added all
abbrev pub invariant-loop-k : goal.invariant-loop-k
invariant-loop-k g l = (t : SinkState) (r : Result (Unit {0}) SinkFault) →
    Adds (g.O.Sink.shows l.out) l.so_far t r (next_parameters l.k (l.count - l.k)) →
    Adds (g.O.Sink.shows l.fn.out) l.fn.so_far t r (parameters_text l.count)
