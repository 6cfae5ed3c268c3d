-- The types so far are there.
use Rattle.std.proofs.Common.{◌≡◌, map, take}
use Rattle.ps_prims.specs.Records.{fields}
use Rattle.ps_prims.specs.Schemes.{type_of_field}
use Rattle.ps_prims.proofs.schemes.types_of_fields.Given as goal

abbrev pub invariant-loop-f : goal.invariant-loop-f
invariant-loop-f l = l.types ≡ map (type_of_field (fields l.kinds l.k)) (take l.f-index l.order)
