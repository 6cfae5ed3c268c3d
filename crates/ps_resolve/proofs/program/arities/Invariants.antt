use Rattle.std.proofs.Common.{◌≡◌, take}
use Rattle.ps_plain.specs.Forms.{arities_in}
use Rattle.ps_resolve.specs.InsideDefinitions.{heads_in}
use Rattle.ps_resolve.proofs.program.arities.Given as goal

-- the numbers so far
abbrev pub invariant-loop-definition : goal.invariant-loop-definition
invariant-loop-definition l = l.arities ≡ arities_in (heads_in (take l.definition-index l.definitions))
