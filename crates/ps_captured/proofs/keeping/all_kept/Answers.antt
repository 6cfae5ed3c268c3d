use Rattle.std.proofs.Common.{◌≡◌, [], ◌∙◌}
use Rattle.std.specs.List.{fold}
use Rattle.ps_kernel.specs.Most.{most_depth}
use Rattle.ps_kernel.specs.Texts.{group_of}
use Rattle.ps_captured.specs.InsideKeeping.{all_named, no_place, placed, with_sight}
use Rattle.ps_captured.specs.InsideReading.{read_forms}
use Rattle.ps_captured.proofs.KeptIsWhatIsReached.{group_found, lists_go_on}
use Rattle.ps_captured.proofs.keeping.all_kept.Goals as goal

pub loop-lambda-preserved : goal.loop-lambda-preserved
loop-lambda-preserved c =
    let k = c.args.kernel.now in
    let t : placed c.in_ok-places.places ≡ fold with_sight no_place (read_forms k.lambdas most_depth [] k.forms) = cc (c.in_ok-places.ensures, c.as_slice-2.ensures, c.in_ok-seen.ensures, c.as_slice-lambdas.ensures, c.as_slice.ensures) in
    let g : c.at.result.now ≡ group_of k c.loop-lambda.lambda = c.at.ensures ∙ group_found k (placed c.in_ok-places.places) c.loop-lambda.lambda t in
    let d : c.as_slice-in-loop-lambda.result.now ≡ all_named k.lambdas = cc (c.as_slice-in-loop-lambda.ensures, c.in_ok-named.ensures, c.as_slice-lambdas.ensures) in
    lists_go_on k c.loop-lambda.lists c.at.result.now c.loop-lambda.lambda c.in_ok-list.list c.push.new.self c.loop-lambda.invariant g (c.in_ok-list.ensures k d) c.in_ok-push.ensures.ok
