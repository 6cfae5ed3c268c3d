use Rattle.std.proofs.Common.{◌≡◌, map, take, Some}
use Rattle.ps_plain.specs.Forms.{Part, part, all_some}
use Rattle.ps_resolve.specs.InsideValues.{scope_of}
use Rattle.ps_resolve.proofs.expr.+expr.Given as goal

-- what was read so far
abbrev pub invariant-exprs-loop-datum : goal.invariant-exprs-loop-datum
invariant-exprs-loop-datum l = all_some (map (λ (p : Part). p.expr (scope_of l.scope)) (map (part l.scope.names.now) (take l.datum-index l.parts))) ≡ Some l.exprs
