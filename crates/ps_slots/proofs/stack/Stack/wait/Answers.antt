use Rattle.ps_slots.proofs.LinksLead.{waits}
use Rattle.ps_slots.proofs.stack.Stack.wait.Goals as goal

pub invariant_of-self-2 : goal.invariant_of-self-2
invariant_of-self-2 g c = waits c.self.inside.cells.items c.push.new.self.items c.self.inside.base c.self.inside.tops.items c.self.invariant c.args.job c.in_ok-push.ensures.items
