use Rattle.std.proofs.Common.{◌≤◌, length, arith}
use Rattle.ps_evaluator.proofs.Joins.{down_rest}
use Rattle.ps_evaluator.proofs.turns.in_order.Goals as goal

pub returns : goal.returns
returns c = λ k f.
    let some : 1 ≤ length c.in-Some.rest.now = first_of (omega arith, grind (arith, c.is_empty.ensures, c.if-is_empty.false)) in
    down_rest k f c.args.at c.args.es.now c.in-Some.e.now c.in-Some.rest c.args.depth c.args.frames.now.items c.push.new.self.items c.in-Some.ensures.cases some c.in_ok-push.ensures.items
