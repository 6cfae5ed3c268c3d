-- The types so far are there.
use Rattle.std.proofs.Common.{◌≡◌, map, take}
use Rattle.ps_prims.specs.Schemes.{type_of}
use Rattle.ps_prims.proofs.schemes.types_of.Given as goal

abbrev pub invariant-loop-sort : goal.invariant-loop-sort
invariant-loop-sort l = l.types ≡ map type_of (take l.sort-index l.sorts)
