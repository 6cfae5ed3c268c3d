use Rattle.std.proofs.Common.{◌≤◌, length, arith}
use Rattle.ps_static_eval.proofs.Joins.{order_first}
use Rattle.ps_static_eval.proofs.turns.in_order.Goals as goal

pub returns-clause-same : goal.returns-clause-same
returns-clause-same g c = λ k f m vs.
    let some : 1 ≤ length c.in-Some.rest.now = first_of (omega arith, grind (arith, c.is_empty.ensures, c.if-is_empty.false)) in
    order_first k f c.args.at c.args.es.now c.in-Some.e c.in-Some.rest c.args.frames.now c.wait.new.self vs m c.in-Some.ensures.cases some c.in_ok-wait.ensures
