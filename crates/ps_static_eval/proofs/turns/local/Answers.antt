use Rattle.std.proofs.Common.{ap, sym, ◌∙◌}
use Rattle.std.specs.Prelude.{slice_get, is_some}
use Rattle.ps_runs.specs.Effects.{value_in}
use Rattle.ps_static_eval.proofs.ScopesAreHeld.{local_given, local_halts}
use Rattle.ps_static_eval.proofs.turns.local.Goals as goal

pub returns-in-Some-clause-same : goal.returns-in-Some-clause-same
returns-in-Some-clause-same g c = λ k f vs m t.
    local_halts k f c.args.x c.args.at c.args.frames.now vs m
    (ap is_some (sym (c.lambda_at.ensures ∙ ap (λ z. value_in (slice_get z c.args.x)) c.as_slice.ensures.value ∙ t.numbers.locals c.args.x) ∙ c.in-Some.is))

pub returns-in-None-clause-same : goal.returns-in-None-clause-same
returns-in-None-clause-same g c = λ k f vs m t.
    local_given k f c.args.x c.args.at c.args.frames.now vs m c.found.result c.given_or_wrong.result
    (ap is_some (sym (c.lambda_at.ensures ∙ ap (λ z. value_in (slice_get z c.args.x)) c.as_slice.ensures.value ∙ t.numbers.locals c.args.x) ∙ c.in-None.is))
    c.found.ensures (c.given_or_wrong.ensures.same k f vs c.args.frames.now m)
