use Rattle.std.proofs.Common.{[], ◌∷◌, length, ap, arith}
use Rattle.std.proofs.lemmas.List.{length-append}
use Rattle.ps_resolve.specs.InsideHeads.{head_at, names_walk}
use Rattle.ps_resolve.proofs.FaultForms.{shape_at, head_of_parts, walk_found, walk_passed, walk_ended}
use Rattle.ps_resolve.proofs.faults.names_fault.Goals as goal

pub definition-definition-requires : goal.definition-definition-requires
definition-definition-requires c = shape_at c.args.names.now c.args.forms.now c.loop-form.form-index c.form-item.result c.loop-form-test.true c.form-item.is c.requires.shape

pub returns-in-Some : goal.returns-in-Some
returns-in-Some c = λ heads knows.
    let names = c.args.names.now in
    let forms = c.args.forms.now in
    let d = c.form-item.result in
    let x = c.definition-definition.result in
    let fault = c.in_ok-at.ensures.fault heads (head_at names d) knows (head_of_parts names d x c.definition-definition.ensures) in
    walk_found names forms c.loop-form.form-index d c.loop-form-test.true c.form-item.is heads c.loop-form.defined x c.definition-definition.ensures c.in_ok-at.field-0 fault (names_walk names heads [] forms) (c.loop-form.invariant.so_far heads knows) c.in-Some.at c.in-Some.is

pub loop-form-preserved : goal.loop-form-preserved
loop-form-preserved c =
    let names = c.args.names.now in
    let forms = c.args.forms.now in
    let d = c.form-item.result in
    let x = c.definition-definition.result in
    let old = c.loop-form.defined in
    let more = c.in_ok-at.ensures.defined c.in_default.is in
    record {
      so_far = λ heads knows.
          let fault = c.in_ok-at.ensures.fault heads (head_at names d) knows (head_of_parts names d x c.definition-definition.ensures) in
          walk_passed names forms c.loop-form.form-index d c.loop-form-test.true c.form-item.is heads old x c.definition-definition.ensures c.in_ok-at.field-0 fault (names_walk names heads [] forms) (c.loop-form.invariant.so_far heads knows) c.definition_fault.new.defined c.in_default.is more;
      few = let e = ap length more in omega (arith, e, length-append old (x.name.now ∷ []), c.loop-form.invariant.few);
    }

pub returns : goal.returns
returns c = λ heads knows. walk_ended c.args.names.now c.args.forms.now c.loop-form.form-index heads c.loop-form.defined (names_walk c.args.names.now heads [] c.args.forms.now) c.loop-form-test.false (c.loop-form.invariant.so_far heads knows)
