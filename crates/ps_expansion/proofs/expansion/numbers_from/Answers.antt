use Rattle.std.proofs.Common.{◌∙◌}
use Rattle.ps_expansion.proofs.ListsAreBuilt.{numbers_step}
use Rattle.ps_expansion.proofs.expansion.numbers_from.Goals as goal

pub loop-i-preserved : goal.loop-i-preserved
loop-i-preserved c = rw c.in_ok-push.ensures.ok (numbers_step c.loop-i.all c.args.first c.loop-i.i c.args.count c.loop-i-test.true ∙ c.loop-i.invariant)
