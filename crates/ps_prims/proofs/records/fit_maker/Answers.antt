use Rattle.std.proofs.Common.{length, sym, ap, ◌∙◌}
use Rattle.std.proofs.lemmas.List.{length-map}
use Rattle.ps_prims.specs.Sorts.{first_order}
use Rattle.ps_prims.proofs.OtherNumbersFitNoRow.{other_number}
use Rattle.ps_prims.proofs.records.fit_maker.Goals as goal

pub returns-then-order-args : goal.returns-then-order-args
returns-then-order-args c = sym (other_number first_order _ c.args.args.now (λ same. c.if-order-args.true (ap length c.maker_of-order.ensures ∙ sym (length-map _ _) ∙ sym same)))
