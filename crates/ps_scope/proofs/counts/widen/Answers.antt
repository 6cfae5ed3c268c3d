use Rattle.std.proofs.Common.{◌∙◌, ◌∷◌, [], ap, arith, length, length-append, slice_index}
use Rattle.ps_scope.proofs.Counted.{one_more}
use Rattle.ps_scope.proofs.counts.widen.Goals as goal

pub loop-i-preserved : goal.loop-i-preserved
loop-i-preserved c = record {
  same = λ k. ap (λ xs. slice_index xs k) c.in_ok-push.ensures.ok ∙ one_more c.loop-i.counts k ∙ c.loop-i.invariant.same k;
  many = omega (arith, ap length c.in_ok-push.ensures.ok, length-append c.loop-i.counts (0 ∷ []), c.loop-i.invariant.many);
}
