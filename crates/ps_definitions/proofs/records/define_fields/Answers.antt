use Rattle.std.proofs.Common.{◌∙◌, arith}
use Rattle.std.proofs.lemmas.Result.{err_from_is_err_and}
use Rattle.ps_expansion.specs.Does.{state_of}
use Rattle.ps_hygiene.proofs.Items.{item_at}
use Rattle.ps_definitions.proofs.FieldsAreDefined.{others_follow, one_stops}
use Rattle.ps_definitions.proofs.records.define_fields.Goals as goal

pub returns-in_err-define_field : goal.returns-in_err-define_field
returns-in_err-define_field c =
    let l = c.loop-field in
    let x = c.field-item.result in
    let is = item_at c.args.fields.now l.field-index x (omega arith) c.field-item.is in
    let q = err_from_is_err_and c.from_residual.result c.from_residual.ensures.1 in
    rw (q.1, q.2) (one_stops c.args.at c.args.kind l.number l.field-index c.args.fields.now x (state_of l.state) is c.in_err-define_field.field-0.0 _
    l.state.hygiene.here c.args.state.now.hygiene.here c.define_field.new.state c.define_field.new.state l.invariant.goes_on c.in_err-define_field.ensures)

pub loop-field-preserved : goal.loop-field-preserved
loop-field-preserved c =
    let l = c.loop-field in
    let x = c.field-item.result in
    let is = item_at c.args.fields.now l.field-index x (omega arith) c.field-item.is in
    let h = c.in_ok-define_field.ensures in
    record {
      same = h.same ∙ l.invariant.same;
      goes_on = others_follow c.args.at c.args.kind l.number l.field-index c.args.fields.now x (state_of l.state) is (state_of c.define_field.new.state) h.wanted
          ∙ l.invariant.goes_on;
    }
