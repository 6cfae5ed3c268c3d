use Rattle.std.proofs.Common.{◌≡◌, ◌-◌, ◌≤◌, ◌+◌, length, ◌∙◌, arith}
use Rattle.ps_static_tables.proofs.TablesTellFirst.{define_more, do_more}
use Rattle.ps_static_tables.proofs.tables.procedures_of.Goals as goal

pub loop-i-preserved-in-Continue-1 : goal.loop-i-preserved-in-Continue-1
loop-i-preserved-in-Continue-1 c =
    let less : c.loop-i.i ≡ c.loop-i.i - 1 + 1 = omega arith in
    let fits : c.loop-i.i ≤ length c.args.forms.now = c.loop-i.invariant.0 in (
      omega arith,
      λ g. define_more g c.args.forms.now c.loop-i.i (c.loop-i.i - 1) c.index-forms-i.result c.in-Define.g c.in-Define.e c.lambda_in.result _ _ less fits c.index-forms-i.is c.in-Define.is c.lambda_in.ensures (c.in_ok-put-in-Define.ensures g)
          ∙ c.loop-i.invariant.1 g,
    )

pub loop-i-preserved : goal.loop-i-preserved
loop-i-preserved c =
    let less : c.loop-i.i ≡ c.loop-i.i - 1 + 1 = omega arith in
    let fits : c.loop-i.i ≤ length c.args.forms.now = c.loop-i.invariant.0 in
    (omega arith, λ g. do_more g c.args.forms.now c.loop-i.i (c.loop-i.i - 1) c.index-forms-i.result c.in-Do.field-0 _ less fits c.index-forms-i.is c.in-Do.is ∙ c.loop-i.invariant.1 g)
