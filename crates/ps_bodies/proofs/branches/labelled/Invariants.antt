use Rattle.std.proofs.Common.{◌≡◌, ◌++◌, length, map, reverse}
use Rattle.ps_bodies.specs.Branches.{labelled}
use Rattle.ps_bodies.proofs.branches.labelled.Given as goal

-- the front, and what was taken from behind
abbrev pub invariant-loop-labels : goal.invariant-loop-labels
invariant-loop-labels l = map labelled l.branches ++ reverse l.all.items ≡ map labelled l.fn.branches

abbrev pub decreases-loop-labels : goal.decreases-loop-labels
decreases-loop-labels l = length l.branches
