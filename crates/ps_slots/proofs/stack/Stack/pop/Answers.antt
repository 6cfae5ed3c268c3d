use Rattle.std.proofs.Common.{[], ◌∷◌, ◌++◌, ap, ◌∙◌}
use Rattle.ps_slots.proofs.LinksLead.{leaves_frame, leaves_local, leaves_waiting}
use Rattle.ps_slots.proofs.stack.Stack.pop.Goals as goal

pub invariant_of-self-in-Some-Entered : goal.invariant_of-self-in-Some-Entered
invariant_of-self-in-Some-Entered g c =
    leaves_frame c.pop.new.self.items c.self.inside.cells.items c.self.inside.base c.self.inside.tops.items c.self.invariant c.in-Some-Entered.below
    (c.in-Some-Entered.ensures.items ∙ ap (λ z. c.pop.new.self.items ++ z ∷ []) c.in-Some-Entered.field-0-is)

pub invariant_of-self-in-Some-Local : goal.invariant_of-self-in-Some-Local
invariant_of-self-in-Some-Local g c =
    leaves_local c.pop.new.self.items c.self.inside.cells.items c.self.inside.base c.self.inside.tops.items c.self.invariant c.in-Some-Local.x c.in-Some-Local.below c.in-Some-Local.v c.set_top.new.tops.items
    (c.in-Some-Local.ensures.items ∙ ap (λ z. c.pop.new.self.items ++ z ∷ []) c.in-Some-Local.field-0-is) c.set_top.ensures

pub invariant_of-self-in-Some-Waits : goal.invariant_of-self-in-Some-Waits
invariant_of-self-in-Some-Waits g c =
    leaves_waiting c.pop.new.self.items c.self.inside.cells.items c.self.inside.base c.self.inside.tops.items c.self.invariant c.in-Some-Waits.job
    (c.in-Some-Waits.ensures.items ∙ ap (λ z. c.pop.new.self.items ++ z ∷ []) c.in-Some-Waits.field-0-is)
