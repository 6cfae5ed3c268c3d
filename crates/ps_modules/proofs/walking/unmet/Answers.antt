use Rattle.std.proofs.Common.{rules, ◌≡◌, suc, ◌+◌, ◌++◌, ◌∷◌, [], false, sym, ap, ◌∙◌, arith}
use Rattle.ps_modules.specs.InsideWalking.{all_unmet}
use Rattle.ps_modules.proofs.StructuresAreMet.{unmet_more}
use Rattle.ps_modules.proofs.walking.unmet.Goals as goal

pub loop-i-preserved : goal.loop-i-preserved
loop-i-preserved c =
    let pushed : c.push.new.self ≡ c.loop-i.met ++ false ∷ [] = search rules in
    let one : suc c.loop-i._i ≡ c.loop-i._i + 1 = omega arith in
    pushed ∙ ap (λ ms. ms ++ false ∷ []) c.loop-i.invariant ∙ sym (unmet_more c.loop-i._i) ∙ ap all_unmet one
