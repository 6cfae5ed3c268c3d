use Rattle.ps_bodies.proofs.TestsFromBehind.{one_of_made}
use Rattle.ps_bodies.proofs.branches.is_one_of.Goals as goal

pub returns-in_ok-test-in-Some : goal.returns-in_ok-test-in-Some
returns-in_ok-test-in-Some c =
    one_of_made c.args.at c.args.local c.args.labels.now c.in-Some.front.now c.in-Some.label.now c.in_ok-test-in-Some.test c.or_test.result
    c.in-Some.ensures.cases.0 c.in_ok-test-in-Some.ensures c.or_test.ensures
