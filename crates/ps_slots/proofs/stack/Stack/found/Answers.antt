use Rattle.std.proofs.Common.{get_or, ap, ◌∙◌, arith}
use Rattle.ps_slots.proofs.LinksLead.{not_in_scope, is_in_slot}
use Rattle.ps_slots.proofs.stack.Stack.found.Goals as goal

pub returns-then-top-self : goal.returns-then-top-self
returns-then-top-self g c =
    rw (← c.self.view_is)
    (not_in_scope c.self.inside.cells.items c.self.inside.base c.self.inside.tops.items c.self.invariant c.args.x c.top_of-top.result (c.top_of-top.ensures ∙ ap (λ z. get_or z c.args.x 0) c.as_slice.ensures.value) c.if-top-self.true)

pub returns : goal.returns
returns g c =
    rw (← c.self.view_is)
    (rw (c.as_slice-2.ensures.value) at c.value_at.ensures
    ∙ is_in_slot c.self.inside.cells.items c.self.inside.base c.self.inside.tops.items c.self.invariant c.args.x c.top_of-top.result (c.top_of-top.ensures ∙ ap (λ z. get_or z c.args.x 0) c.as_slice.ensures.value) (omega (arith, c.if-top-self.false)))
