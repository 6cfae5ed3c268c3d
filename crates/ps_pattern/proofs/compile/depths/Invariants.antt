use Rattle.std.proofs.Common.{◌≡◌, map, take}
use Rattle.ps_pattern.proofs.compile.depths.Given as goal

abbrev pub invariant-loop-var : goal.invariant-loop-var
invariant-loop-var l = l.all ≡ map (λ v. v.depth) (take l.var-index l.vars)
