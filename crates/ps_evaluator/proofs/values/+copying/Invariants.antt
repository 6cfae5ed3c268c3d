use Rattle.std.proofs.Common.{◌≡◌, take}
use Rattle.ps_evaluator.proofs.values.+copying.Given as goal

abbrev pub invariant-copied-loop-binding : goal.invariant-copied-loop-binding
invariant-copied-loop-binding l = l.all ≡ take l.binding-index l.env
