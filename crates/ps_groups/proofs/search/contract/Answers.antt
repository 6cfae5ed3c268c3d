use Rattle.ps_groups.proofs.StartsAreCut.{contracted, contracted_all, contracting}
use Rattle.ps_groups.proofs.search.contract.Goals as goal

pub returns-then-start-place : goal.returns-then-start-place
returns-then-start-place c = contracted c.args.place c.args.search.now c.loop-start.search c.loop-start.invariant c.in-Some.start c.in-Some.ensures c.if-start-place.true

pub loop-start-preserved : goal.loop-start-preserved
loop-start-preserved c = contracting c.args.place c.args.search.now c.loop-start.search c.loop-start.invariant c.in-Some.start c.in-Some.ensures c.if-start-place.false c.pop.result c.pop.new.self c.pop.ensures

pub returns : goal.returns
returns c = contracted_all c.args.place c.args.search.now c.loop-start.search c.loop-start.invariant c.in_default.ensures
