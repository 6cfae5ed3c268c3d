use Rattle.std.proofs.Common.{◌≡◌, length}
use Rattle.ps_bodies.specs.InsideBranches.{or_test}
use Rattle.ps_bodies.proofs.branches.or_test.Given as goal

-- the rest over what was made is all over the last
abbrev pub invariant-loop-label : goal.invariant-loop-label
invariant-loop-label l = or_test l.at l.local l.rest l.test ≡ or_test l.at l.local l.labels l.fn.test

abbrev pub decreases-loop-label : goal.decreases-loop-label
decreases-loop-label l = length l.rest
