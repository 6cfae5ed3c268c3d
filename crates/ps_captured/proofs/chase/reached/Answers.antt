use Rattle.std.proofs.Common.{refl}
use Rattle.ps_captured.specs.InsideKeeping.{looked, named_at}
use Rattle.ps_captured.proofs.ChasesReachAll.{begins_so, ends_so, goes_further, shrinks}
use Rattle.ps_captured.proofs.chase.reached.Goals as goal

pub loop-next-init : goal.loop-next-init
loop-next-init c =
    (c.in_ok-members.ensures, λ k d. begins_so k c.args.group.now c.args.lambda (record { todo = c.in_ok-from_slice.field-0; done = c.new-2.result; met = c.new-3.result }) c.in_ok-from_slice.ensures c.new-2.ensures c.new-3.ensures)

pub loop-next-smaller : goal.loop-next-smaller
loop-next-smaller c =
    shrinks c.args.group.now (looked c.in_ok-members.members) c.loop-next.chase (record { todo = c.pop.new.self; done = c.push.new.self; met = c.loop-next.chase.met }) c.follow.new.chase c.in-Some.next (named_at c.args.named.now c.in-Some.next).names c.loop-next.invariant.0 c.in-Some.ensures refl c.in_ok-follow.ensures

pub loop-next-preserved : goal.loop-next-preserved
loop-next-preserved c =
    (c.loop-next.invariant.0, λ k d. goes_further k c.args.group.now c.args.lambda (looked c.in_ok-members.members) c.args.named.now c.loop-next.chase c.pop.new.self c.push.new.self c.follow.new.chase c.in-Some.next c.loop-next.invariant.0 d c.in-Some.ensures c.in_ok-push.ensures.ok c.in_ok-follow.ensures (c.loop-next.invariant.1 k d))

pub returns : goal.returns
returns c = λ k d. ends_so k c.args.group.now c.args.lambda c.loop-next.chase c.in_default.ensures.0 (c.loop-next.invariant.1 k d)
