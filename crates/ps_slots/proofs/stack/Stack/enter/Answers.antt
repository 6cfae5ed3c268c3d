use Rattle.std.proofs.Common.{length, ap}
use Rattle.ps_slots.proofs.LinksLead.{enters}
use Rattle.ps_slots.proofs.stack.Stack.enter.Goals as goal

pub invariant_of-self-2 : goal.invariant_of-self-2
invariant_of-self-2 g c =
    enters c.self.inside.cells.items c.push.new.self.items c.self.inside.base c.self.inside.tops.items c.self.invariant (length c.as_slice.result.now) c.in_ok-push.ensures.items (ap length c.as_slice.ensures.value)
