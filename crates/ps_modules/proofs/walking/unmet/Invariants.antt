use Rattle.std.proofs.Common.{◌≡◌}
use Rattle.ps_modules.specs.InsideWalking.{all_unmet}
use Rattle.ps_modules.proofs.walking.unmet.Given as goal

abbrev pub invariant-loop-i : goal.invariant-loop-i
invariant-loop-i l = l.met ≡ all_unmet l._i
