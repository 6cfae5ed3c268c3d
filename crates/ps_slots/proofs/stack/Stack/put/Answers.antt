use Rattle.std.proofs.Common.{◌≡◌, get_or, ap, sym, ◌∙◌, arith, refl, true}
use Rattle.ps_slots.proofs.LinksLead.{not_in_scope, slot_is_there, puts_value, stays_linked}
use Rattle.ps_slots.proofs.stack.Stack.put.Goals as goal

pub returns-then-top-self : goal.returns-then-top-self
returns-then-top-self g c =
    (rw (← c.self.view_is) (sym (not_in_scope c.self.inside.cells.items c.self.inside.base c.self.inside.tops.items c.self.invariant c.args.x c.top_of-top.result (c.top_of-top.ensures ∙ ap (λ z. get_or z c.args.x 0) c.as_slice.ensures.value) c.if-top-self.true)), refl)

pub invariant_of-self : goal.invariant_of-self
invariant_of-self g c =
    stays_linked c.self.inside.cells.items c.self.inside.base c.self.inside.tops.items c.self.invariant c.args.x c.top_of-top.result (c.top_of-top.ensures ∙ ap (λ z. get_or z c.args.x 0) c.as_slice.ensures.value)
    c.args.v c.put_at.new.cells.items (omega (arith, c.if-top-self.false)) c.put_at.ensures.puts

pub returns : goal.returns
returns g c =
    let at = c.top_of-top.ensures ∙ ap (λ z. get_or z c.args.x 0) c.as_slice.ensures.value in
    let there : c.put_at.result ≡ true = c.put_at.ensures.is ∙ slot_is_there c.self.inside.cells.items c.self.inside.base c.self.inside.tops.items c.self.invariant c.args.x c.top_of-top.result at (omega (arith, c.if-top-self.false)) in
    rw (there, ← c.self.view_is)
    (puts_value c.self.inside.cells.items c.self.inside.base c.self.inside.tops.items c.self.invariant c.args.x c.top_of-top.result at c.args.v c.put_at.new.cells.items (omega (arith, c.if-top-self.false)) c.put_at.ensures.puts)
