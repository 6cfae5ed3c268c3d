use Rattle.std.proofs.Common.{None, arith}
use Rattle.ps_groups.proofs.StartsAreCut.{on_ok}
use Rattle.ps_groups.proofs.SearchesTurn.{on_stack}
use Rattle.ps_groups.proofs.TurnsLeaveLess.{turned_leave, turned_follow}
use Rattle.ps_groups.proofs.search.turn.Goals as goal

pub leave-requires : goal.leave-requires
leave-requires c = let lt = on_stack c.args.rows.now None c.args.search.now c.args.frame c.requires.search in omega arith

pub returns-in-None : goal.returns-in-None
returns-in-None c = on_ok c.leave.result (turned_leave c.args.rows.now c.args.search.now c.args.frame c.requires.search c.in-None.ensures c.leave.new.search) c.leave.ensures

pub returns-in_ok-push-in-Some : goal.returns-in_ok-push-in-Some
returns-in_ok-push-in-Some c =
    on_ok c.follow.result
    (turned_follow c.args.rows.now c.requires.table c.args.search.now c.args.frame c.requires.search c.in-Some.node c.in-Some.ensures c.push.new.self c.in_ok-push-in-Some.ensures.ok c.follow.new.search)
    c.follow.ensures
