use Rattle.std.proofs.Common.{◌≡◌, ◌++◌, drop}
use Rattle.ps_survive.specs.Kept.{procedures}
use Rattle.ps_reify.specs.InsideWork.{program_of}
use Rattle.ps_reify.proofs.keep.procedures.Given as goal

abbrev pub invariant-loop-node : goal.invariant-loop-node
invariant-loop-node g l = l.list ++ procedures (program_of l.image) (drop l.node-index l.order) ≡ procedures (program_of l.image) l.order
