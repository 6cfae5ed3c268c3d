use Rattle.std.proofs.Common.{◌≡◌, take}
use Rattle.ps_unify.proofs.copying.+copying.Given as goal

abbrev pub invariant-copied_all-loop-t : goal.invariant-copied_all-loop-t
invariant-copied_all-loop-t l = l.all ≡ take l.t-index l.types
