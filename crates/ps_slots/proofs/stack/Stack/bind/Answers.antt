use Rattle.std.proofs.Common.{length, get_or, ap, ◌∙◌}
use Rattle.ps_slots.proofs.LinksLead.{binds}
use Rattle.ps_slots.proofs.stack.Stack.bind.Goals as goal

pub invariant_of-self-2 : goal.invariant_of-self-2
invariant_of-self-2 g c =
    binds c.self.inside.cells.items c.push.new.self.items c.self.inside.base c.self.inside.tops.items c.self.invariant c.make_room.new.tops.items c.set_top.new.tops.items c.args.x c.top_of-below.result (length c.as_slice-top.result.now) c.args.v
    c.make_room.ensures.same c.in_ok-make_room.ensures.room (c.top_of-below.ensures ∙ ap (λ z. get_or z c.args.x 0) c.as_slice.ensures.value)
    c.in_ok-push.ensures.items (ap length c.as_slice-top.ensures.value) c.set_top.ensures
