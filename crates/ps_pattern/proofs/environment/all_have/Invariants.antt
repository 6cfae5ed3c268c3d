use Rattle.std.proofs.Common.{◌≡◌, drop}
use Rattle.ps_pattern.specs.Filling.{all_are, counts}
use Rattle.ps_pattern.proofs.environment.all_have.Given as goal

abbrev pub invariant-loop-v : goal.invariant-loop-v
invariant-loop-v l = all_are l.n (counts l.through l.binds) ≡ all_are l.n (counts (drop l.v-index l.through) l.binds)
