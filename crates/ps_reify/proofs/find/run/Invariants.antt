use Rattle.ps_reify.specs.InsideWork.{program_of, IsWalk}
use Rattle.ps_reify.proofs.WalkGoesOnAsMeant.{size}
use Rattle.ps_reify.proofs.find.run.Given as goal

abbrev pub invariant-loop-frame : goal.invariant-loop-frame
invariant-loop-frame g l = IsWalk (program_of l.image) l.walk

abbrev pub decreases-loop-frame : goal.decreases-loop-frame
decreases-loop-frame g l = size (program_of l.image) l.walk
