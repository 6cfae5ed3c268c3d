use Rattle.std.proofs.Common.{◌≡◌, map, drop}
use Rattle.ps_plain.specs.Faults.{flaws}
use Rattle.ps_resolve.specs.InsideKinds.{write_shapes}
use Rattle.ps_resolve.proofs.shapes.write_shapes.Given as goal

-- the search of what is left gives the same
abbrev pub invariant-loop-datum : goal.invariant-loop-datum
invariant-loop-datum l = write_shapes (map (flaws l.names) (drop l.datum-index l.items)) ≡ write_shapes (map (flaws l.names) l.items)
