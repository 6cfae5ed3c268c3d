use Rattle.std.proofs.Common.{take}
use Rattle.ps_resolve.specs.InsideDefinitions.{AreParameters}
use Rattle.ps_resolve.proofs.definition.parameters.Given as goal

-- the parameters so far
abbrev pub invariant-loop-datum : goal.invariant-loop-datum
invariant-loop-datum l = AreParameters l.names (take l.datum-index l.words) l.parameters
