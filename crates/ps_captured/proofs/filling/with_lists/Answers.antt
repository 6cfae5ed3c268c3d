use Rattle.ps_captured.proofs.ListsChangeNoText.{one_more}
use Rattle.ps_captured.proofs.filling.with_lists.Goals as goal

pub loop-lambda-preserved : goal.loop-lambda-preserved
loop-lambda-preserved c =
    one_more c.loop-lambda.lambdas c.pop.new.self c.loop-lambda.lists c.last_of-captured.new.lists c.loop-lambda.behind c.push.new.self c.in-Some.lambda c.last_of-captured.result c.with_list.result _ c.in-Some.ensures c.last_of-captured.ensures c.with_list.ensures c.in_ok-push.ensures.ok c.loop-lambda.invariant
