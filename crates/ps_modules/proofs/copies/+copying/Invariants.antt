use Rattle.std.proofs.Common.{◌≡◌, take}
use Rattle.ps_modules.proofs.copies.+copying.Given as goal

abbrev pub invariant-copied_data-loop-d : goal.invariant-copied_data-loop-d
invariant-copied_data-loop-d l = l.copies ≡ take l.d-index l.fn.ds
