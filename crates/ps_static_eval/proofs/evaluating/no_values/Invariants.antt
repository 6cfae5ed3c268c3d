use Rattle.std.proofs.Common.{◌≡◌, None, replicate}
use Rattle.ps_static_eval.proofs.evaluating.no_values.Given as goal

abbrev pub invariant-loop : goal.invariant-loop
invariant-loop l = l.globals ≡ replicate l.counter None
