use Rattle.std.proofs.Common.{◌≡◌, length}
use Rattle.ps_bodies.specs.Branches.{ifs_of}
use Rattle.ps_bodies.proofs.branches.ifs_of.Given as goal

-- the rest over what was made is all over the last
abbrev pub invariant-loop-labels : goal.invariant-loop-labels
invariant-loop-labels l = ifs_of l.at l.local l.branches l.e ≡ ifs_of l.at l.local l.fn.branches l.fn.last

abbrev pub decreases-loop-labels : goal.decreases-loop-labels
decreases-loop-labels l = length l.branches
