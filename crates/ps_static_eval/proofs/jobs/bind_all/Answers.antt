use Rattle.std.proofs.Common.{◌≡◌, [], ◌++◌, drop, sym, ap, ◌∙◌, append-nil, arith}
use Rattle.ps_static_eval.proofs.FramesBegin.{slots_none}
use Rattle.ps_static_eval.proofs.Joins.{empty_of}
use Rattle.ps_static_eval.proofs.jobs.bind_all.Goals as goal

pub returns-in-None-clause-same : goal.returns-in-None-clause-same
returns-in-None-clause-same g c =
    let none : c.loop-x.given.items ≡ [] = empty_of c.loop-x.given.items (omega (arith, c.loop-x.given.ok.0, c.in-None.ensures.cases.0)) in
    sym (append-nil c.loop-x.frames)
    ∙ ap (λ z. c.loop-x.frames ++ z) (sym (slots_none (drop c.loop-x.x-index c.args.parameters.now) c.loop-x.given.items none))
    ∙ c.loop-x.invariant.0
