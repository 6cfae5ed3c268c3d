use Rattle.ps_bodies.proofs.TestsFromBehind.{or_taken}
use Rattle.ps_bodies.proofs.branches.or_test.Goals as goal

pub loop-label-preserved : goal.loop-label-preserved
loop-label-preserved c =
    or_taken c.args.at c.args.local c.loop-label.rest.now c.in-Some.front.now c.in-Some.label.now c.loop-label.test c.in_ok-same.same
    c.expr_at-yes.result c.in_ok-test.test _
    c.in-Some.ensures.cases.0 c.in_ok-same.ensures c.expr_at-yes.ensures c.in_ok-test.ensures c.loop-label.invariant
