use Rattle.std.proofs.Common.{[], ◌∷◌, ◌++◌, ap, ◌∙◌, arith}
use Rattle.ps_static_eval.proofs.FramesBegin.{begin_again, begin_below, begin_waiting}
use Rattle.ps_static_eval.proofs.TextsAreLighter.{cells_push}
use Rattle.ps_static_eval.proofs.jobs.below_locals.Goals as goal

pub loop-cell-preserved : goal.loop-cell-preserved
loop-cell-preserved g c = (
  λ k new b.
      c.loop-cell.invariant.0 k new
      (begin_below k c.pop.new.self c.loop-cell.frames new c.in-Local.field-0 c.in-Local.field-1 (c.in-Some.ensures ∙ ap (λ z. c.pop.new.self ++ z ∷ []) c.in-Local.is) b),
  omega (arith, cells_push c.pop.new.self c.loop-cell.frames c.in-Some.cell c.in-Some.ensures, c.loop-cell.invariant.1),
)

pub returns-in-Entered-clause-same : goal.returns-in-Entered-clause-same
returns-in-Entered-clause-same g c = λ k new push.
    c.loop-cell.invariant.0 k new (begin_again k c.pop.new.self c.loop-cell.frames new (c.in-Some.ensures ∙ ap (λ z. c.pop.new.self ++ z ∷ []) c.in-Entered.is) push)

pub returns-in-Waits-clause-same : goal.returns-in-Waits-clause-same
returns-in-Waits-clause-same g c = λ k again new back push.
    c.loop-cell.invariant.0 k new
    (begin_waiting k c.pop.new.self c.loop-cell.frames again new c.in-Waits.waiting (c.in-Some.ensures ∙ ap (λ z. c.pop.new.self ++ z ∷ []) c.in-Waits.is) back push)
