use Rattle.std.proofs.Common.{◌≡◌, take}
use Rattle.ps_modules.specs.Walking.{opens_of}
use Rattle.ps_modules.proofs.walking.opens_of.Given as goal

abbrev pub invariant-loop-meant : goal.invariant-loop-meant
invariant-loop-meant l = l.opens ≡ opens_of (take l.meant-index l.fn.meants)
