-- The definitions that are left.
use Rattle.std.proofs.Common.{◌≡◌, ◌++◌, drop, map}
use Rattle.ps_convert.specs.Kernels.{definition_of}
use Rattle.ps_convert.proofs.conversion.definitions.Given as goal

abbrev pub invariant-loop-q : goal.invariant-loop-q
invariant-loop-q l = l.all ++ map (definition_of l.structure) (drop l.q-index l.qs) ≡ map (definition_of l.structure) l.qs
