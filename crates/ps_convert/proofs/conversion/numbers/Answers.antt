use Rattle.std.proofs.Common.{◌+◌, ◌-◌, ◌++◌, ◌∷◌, [], sym, ap, ◌∙◌, append_assoc}
use Rattle.ps_convert.specs.Kernels.{numbers_from}
use Rattle.ps_convert.proofs.Walks.{numbers_step}
use Rattle.ps_convert.proofs.conversion.numbers.Goals as goal

pub loop-number-preserved : goal.loop-number-preserved
loop-number-preserved c =
    let n = c.loop-number.number in
    let end = c.args.first + c.args.count in
    ap (λ xs. xs ++ numbers_from (n + 1) (end - (n + 1))) c.in_ok-push.ensures.ok
    ∙ append_assoc c.loop-number.all (n ∷ []) (numbers_from (n + 1) (end - (n + 1)))
    ∙ ap (λ xs. c.loop-number.all ++ xs) (sym (numbers_step n end c.loop-number-test.true))
    ∙ c.loop-number.invariant
