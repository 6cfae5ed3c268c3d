use Rattle.std.proofs.Common.{◌≡◌, []}
use Rattle.std.specs.List.{fold}
use Rattle.ps_captured.specs.InsideKeeping.{with_member}
use Rattle.ps_captured.proofs.KeptIsWhatIsReached.{is_kept}
use Rattle.ps_captured.proofs.keeping.kept.Goals as goal

pub returns : goal.returns
returns c =
    let list : c.in_ok-list.list ≡ fold (with_member c.in_ok-own.own c.args.named.now) [] c.in_ok-order.order = cc (c.in_ok-list.ensures, c.locals.view_is, c.in_ok-add_members.ensures, c.new-locals.ensures, c.own.view_is, c.as_slice.ensures, c.order.view_is) in
    is_kept c.args.named.now c.args.group.now c.args.lambda c.in_ok-order.order c.in_ok-own.own c.in_ok-list.list c.in_ok-order.ensures c.in_ok-own.ensures list
