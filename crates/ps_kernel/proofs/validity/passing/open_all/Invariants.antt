use Rattle.std.proofs.Common.{◌≡◌, map, drop}
use Rattle.std.specs.List.{fold}
use Rattle.ps_kernel.specs.InsideSteps.{opens_parameter}
use Rattle.ps_kernel.specs.InsideWalks.{step}
use Rattle.ps_kernel.proofs.validity.passing.open_all.Given as goal

-- the walk over the rest ends as that over all
abbrev pub invariant-loop-local : goal.invariant-loop-local
invariant-loop-local l = fold (step l.kernel) l.walk (map opens_parameter (drop l.local-index l.locals)) ≡ fold (step l.kernel) l.fn.walk (map opens_parameter l.locals)
