use Rattle.std.proofs.Common.{◌≡◌, ◌++◌, ◌∷◌, [], length, take, get_or, ap, ◌∙◌, sym, None, arith}
use Rattle.std.proofs.lemmas.List.{length-take}
use Rattle.ps_meaning.specs.Source.{run_global, run_globals}
use Rattle.ps_evaluator.proofs.Steps.{globals_more}
use Rattle.ps_evaluator.proofs.programs.run_globals.Goals as goal

pub loop-g-preserved : goal.loop-g-preserved
loop-g-preserved c =
    let k = c.args.kernel.now in
    let vs = c.args.values.now in
    let len : length (take c.loop-g.g vs) ≡ c.loop-g.g = omega (arith, length-take c.loop-g.g vs) in
    c.in_ok-push.ensures.ok
    ∙ ap (λ z. z ++ c.run_global.result ∷ []) c.loop-g.invariant
    ∙ ap (λ z. run_globals k 0 (take c.loop-g.g vs) ++ z ∷ []) c.run_global.ensures
    ∙ ap (λ z. run_globals k 0 (take c.loop-g.g vs) ++ run_global z (get_or vs c.loop-g.g None) ∷ []) c.procedure_of.ensures
    ∙ sym (globals_more k vs c.loop-g.g None c.loop-g-test.true len)
