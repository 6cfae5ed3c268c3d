use Rattle.std.proofs.Common.{◌≡◌, map, drop}
use Rattle.ps_plain.specs.Faults.{flaws, expr_shapes}
use Rattle.ps_resolve.proofs.shapes.+shapes.Given as goal

-- the search of what is left gives the same
abbrev pub invariant-expr_shapes-loop-datum : goal.invariant-expr_shapes-loop-datum
invariant-expr_shapes-loop-datum l = expr_shapes (map (flaws l.names) (drop l.datum-index l.items)) ≡ expr_shapes (map (flaws l.names) l.items)
