use Rattle.std.proofs.Common.{◌∙◌, arith}
use Rattle.ps_unify.proofs.BindingsStaySolved.{next_same, next_later}
use Rattle.ps_unify.proofs.subst.Subst.head.Goals as goal

pub overflow_add-from : goal.overflow_add-from
overflow_add-from c = grind (arith, c.in-Some.ensures.found.below, c.len-count.ensures.count)

pub loop-end-preserved : goal.loop-end-preserved
loop-end-preserved c =
    let at = c.in-Some.ensures.found in (
      next_same c.args.self.now c.loop-end.end.now c.in-Some.place c.in-Var.variable c.in-Some.next.now c.requires c.in-Var.is at ∙ c.loop-end.invariant.0,
      λ y j v is on. next_later c.args.self.now c.in-Some.place j c.in-Var.variable y c.in-Some.next.now v c.requires at is on,
    )
