use Rattle.std.proofs.Common.{◌≡◌, ap, subst, ◌∙◌}
use Rattle.std.specs.Prelude.{IfOk}
use Rattle.ps_prims.specs.InsideSorts.{named_operands}
use Rattle.ps_prims.specs.Schemes.{scheme_of_sorts}
use Rattle.ps_prims.proofs.OtherSchemesAreOfSorts.{others_of_sorts}
use Rattle.ps_prims.proofs.schemes.scheme_of.Goals as goal

pub returns-in_default : goal.returns-in_default
returns-in_default c =
    subst (λ x. IfOk c.scheme_of_sorts.result (λ s. s ≡ x))
    (ap (λ ss. scheme_of_sorts ss c.answer_of.result) c.named_operands.ensures ∙ ap (scheme_of_sorts (named_operands c.args.p)) (c.answer_of.ensures c.args.kinds.now)
    ∙ others_of_sorts c.args.kinds.now c.args.p c.in_default.not-Maker c.in_default.not-Predicate c.in_default.not-Accessor c.in_default.not-Modifier)
    c.scheme_of_sorts.ensures
