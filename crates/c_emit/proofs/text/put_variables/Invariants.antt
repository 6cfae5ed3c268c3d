-- The variables that are left.
use Rattle.std.proofs.Common.{◌+◌, ◌-◌, Result}
use Rattle.ps_base.specs.SinkStates.{SinkState}
use Rattle.ps_base.specs.declared.sink.SinkFault.{SinkFault}
use Rattle.ps_base.specs.Sinks.{Adds}
use Rattle.c_ast.specs.Text.{lines_text, variable_lines}
use Rattle.c_emit.proofs.text.put_variables.Given as goal

-- what adds the rest has added all
abbrev pub invariant-loop-k : goal.invariant-loop-k
invariant-loop-k g l = (t : SinkState) (r : Result (Unit {0}) SinkFault) →
    Adds (g.O.Sink.shows l.out) l.so_far t r (lines_text (variable_lines l.k (l.first + l.count - l.k))) →
    Adds (g.O.Sink.shows l.fn.out) l.fn.so_far t r (lines_text (variable_lines l.fn.first l.fn.count))
