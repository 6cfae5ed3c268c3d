use Rattle.std.proofs.Common.{map, take, subst, arith}
use Rattle.ps_resolve.specs.InsideHeads.{Knows, head_at}
use Rattle.ps_resolve.proofs.FaultForms.{shape_at, head_of_parts, heads_more, reads_more, no_heads}
use Rattle.ps_resolve.proofs.faults.procedures_of.Goals as goal

pub definition-definition-requires : goal.definition-definition-requires
definition-definition-requires c = shape_at c.args.names.now c.args.forms.now c.loop-form.form-index c.form-item.result c.loop-form-test.true c.form-item.is c.requires.shape

pub loop-form-preserved : goal.loop-form-preserved
loop-form-preserved c =
    let names = c.args.names.now in
    let forms = c.args.forms.now in
    let i = c.loop-form.form-index in
    let d = c.form-item.result in
    let x = c.definition-definition.result in
    let has = c.definition-definition.ensures in
    let knows = c.in_ok-add_procedure.ensures.knows (map (head_at names) (take i forms)) (head_at names d) c.loop-form.invariant.knows (head_of_parts names d x has) in
    record {
      knows = subst (λ hs. Knows hs c.add_procedure.new.procedures) (heads_more names forms i d c.loop-form-test.true c.form-item.is) knows;
      heads = λ rest. c.loop-form.invariant.heads (reads_more names forms i d c.loop-form-test.true c.form-item.is has.reads rest);
      few = omega (arith, c.in_ok-add_procedure.ensures.small, c.loop-form.invariant.few);
    }

pub returns-clause-heads : goal.returns-clause-heads
returns-clause-heads c = c.loop-form.invariant.heads (no_heads c.args.names.now c.args.forms.now c.loop-form.form-index c.loop-form-test.false)
