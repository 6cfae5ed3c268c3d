use Rattle.std.proofs.Common.{sym, ◌∙◌, map}
use Rattle.std.specs.List.{list_any}
use Rattle.ps_plain.specs.Faults.{is_main}
use Rattle.ps_resolve.specs.InsideHeads.{head_at}
use Rattle.ps_resolve.proofs.FaultForms.{shape_at, head_of_parts, main_is, main_found, main_passed}
use Rattle.ps_resolve.proofs.faults.has_main.Goals as goal

pub definition-definition-requires : goal.definition-definition-requires
definition-definition-requires c = shape_at c.args.names.now c.args.forms.now c.loop-form.form-index c.form-item.result c.loop-form-test.true c.form-item.is c.requires

pub returns-then-is_main : goal.returns-then-is_main
returns-then-is_main c =
    let names = c.args.names.now in
    let d = c.form-item.result in
    let x = c.definition-definition.result in
    let is = sym (main_is names (head_at names d) x (head_of_parts names d x c.definition-definition.ensures)) ∙ sym c.is_main.ensures ∙ c.if-is_main.true in
    main_found names c.args.forms.now c.loop-form.form-index d c.loop-form-test.true c.form-item.is is (list_any is_main (map (head_at names) c.args.forms.now)) c.loop-form.invariant

pub loop-form-preserved : goal.loop-form-preserved
loop-form-preserved c =
    let names = c.args.names.now in
    let d = c.form-item.result in
    let x = c.definition-definition.result in
    let is = sym (main_is names (head_at names d) x (head_of_parts names d x c.definition-definition.ensures)) ∙ sym c.is_main.ensures ∙ c.if-is_main.false in
    main_passed names c.args.forms.now c.loop-form.form-index d c.loop-form-test.true c.form-item.is is (list_any is_main (map (head_at names) c.args.forms.now)) c.loop-form.invariant
