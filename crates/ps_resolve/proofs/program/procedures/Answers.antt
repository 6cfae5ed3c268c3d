use Rattle.std.proofs.Common.{rules, ◌∙◌, sym, ap, subst, Some, map}
use Rattle.std.proofs.lemmas.List.{take_all}
use Rattle.ps_base.specs.Names.{AreDistinct}
use Rattle.ps_plain.specs.Forms.{all_some}
use Rattle.ps_resolve.specs.InsideAnswers.{IsNotProgram, RefusesBy}
use Rattle.ps_resolve.specs.InsideDefinitions.{heads_in, procedure_among}
use Rattle.ps_resolve.proofs.Options.{more}
use Rattle.ps_resolve.proofs.Refusals.{refuses_list}
use Rattle.ps_resolve.proofs.Definitions.{among}
use Rattle.ps_resolve.proofs.program.procedures.Goals as goal

pub returns-in_err-procedure-clause-unread : goal.returns-in_err-procedure-clause-unread
returns-in_err-procedure-clause-unread c = λ u qs all.
    let is : IsNotProgram c.in_err-procedure.field-0.0 = search rules in
    let heads = heads_in c.args.definitions.now in
    let x = c.definition-item.result in
    let same = among c.args.names.now heads x c.in_ok-defined.defined c.as_slice.result.now c.in_ok-defined.ensures.are_names (c.as_slice.ensures ∙ c.in_ok-arities.ensures.are_arities) in
    refuses_list (procedure_among c.args.names.now heads) c.args.definitions.now c.loop-definition.definition-index x c.in_err-procedure.field-0.0 qs c.loop-definition-test.true c.definition-item.is is (subst (RefusesBy c.in_err-procedure.field-0.0) same c.in_err-procedure.ensures.by) all.procedures

pub loop-definition-preserved : goal.loop-definition-preserved
loop-definition-preserved c =
    let heads = heads_in c.args.definitions.now in
    let x = c.definition-item.result in
    let same = among c.args.names.now heads x c.in_ok-defined.defined c.as_slice.result.now c.in_ok-defined.ensures.are_names (c.as_slice.ensures ∙ c.in_ok-arities.ensures.are_arities) in
    more (procedure_among c.args.names.now heads) c.args.definitions.now c.loop-definition.definition-index x c.loop-definition-test.true c.definition-item.is c.loop-definition.procedures c.in_ok-procedure.field-0 c.loop-definition.invariant (sym same ∙ c.in_ok-procedure.ensures.by)
    ∙ ap Some (sym c.in_ok-push.ensures.ok)

pub returns-clause-read : goal.returns-clause-read
returns-clause-read c = record {
  is_distinct = subst AreDistinct c.in_ok-defined.ensures.are_names c.in_ok-defined.ensures.is_distinct;
  procedures = ap (λ z. all_some (map (procedure_among c.args.names.now (heads_in c.args.definitions.now)) z)) (sym (take_all c.loop-definition.definition-index c.args.definitions.now c.loop-definition-test.false)) ∙ c.loop-definition.invariant;
}
