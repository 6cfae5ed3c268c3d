use Rattle.std.proofs.Common.{ap, ◌∙◌}
use Rattle.ps_bodies.specs.Branches.{is_one_of}
use Rattle.ps_bodies.proofs.TestsFromBehind.{if_taken}
use Rattle.ps_bodies.proofs.branches.ifs_of.Goals as goal

pub loop-labels-preserved : goal.loop-labels-preserved
loop-labels-preserved c =
    if_taken c.args.at c.args.local c.loop-labels.branches c.pop.new.self c.in-Some.field-0 c.loop-labels.e c.in_ok-test.test c.in_ok-e.e _
    c.in-Some.ensures (c.in_ok-test.ensures ∙ ap (is_one_of c.args.at c.args.local) c.as_slice.ensures) c.in_ok-e.ensures
    c.loop-labels.invariant
