use Rattle.std.proofs.Common.{◌≡◌, ◌++◌, drop, map}
use Rattle.ps_bodies.specs.Branches.{code_of}
use Rattle.ps_bodies.proofs.branches.codes_of.Given as goal

-- the codes so far stand before those of the rest
abbrev pub invariant-loop-label : goal.invariant-loop-label
invariant-loop-label l = l.all ++ map code_of (drop l.label-index l.labels) ≡ map code_of l.labels
