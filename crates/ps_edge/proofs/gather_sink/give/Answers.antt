use Rattle.std.proofs.Common.{refl, arith, length-drop}
use Rattle.ps_edge.proofs.Gathered.{hands_from}
use Rattle.ps_edge.proofs.gather_sink.give.Goals as goal

pub loop-at-preserved : goal.loop-at-preserved
loop-at-preserved g c = record {
  within = omega (arith, c.in-Bytes.ensures.1, length-drop c.loop-at.at c.args.bytes.now, c.loop-at.invariant.within);
  hands = hands_from _ _ _ _ c.args.bytes.now c.loop-at.at c.in-Bytes.k _ refl c.loop-at.invariant.hands c.in-Bytes.ensures.2;
}
