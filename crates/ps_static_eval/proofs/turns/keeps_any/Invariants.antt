use Rattle.std.proofs.Common.{◌≡◌, drop}
use Rattle.std.specs.List.{list_any}
use Rattle.ps_meaning.specs.Eval.{keeps_locals}
use Rattle.ps_static_eval.proofs.turns.keeps_any.Given as goal

abbrev pub invariant-loop-entry : goal.invariant-loop-entry
invariant-loop-entry l = list_any (keeps_locals l.kernel) (drop l.entry-index l.group) ≡ list_any (keeps_locals l.kernel) l.group
