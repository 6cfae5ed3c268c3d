use Rattle.ps_meaning.specs.Literals.{laid}
use Rattle.ps_evaluator.proofs.Steps.{laid_more}
use Rattle.ps_evaluator.proofs.literals.+laying.Goals as goal

pub end_of_all-loop-part-preserved : goal.end_of_all-loop-part-preserved
end_of_all-loop-part-preserved t c = laid_more laid c.args.parts.now c.loop-part.part-index c.part-item.result c.args.start c.loop-part.end c.in_ok-end.end c.loop-part-test.true c.part-item.is c.loop-part.invariant c.in_ok-end.ensures
