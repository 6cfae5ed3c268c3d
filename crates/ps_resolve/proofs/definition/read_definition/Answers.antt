use Rattle.std.proofs.Common.{rules, subst, sym}
use Rattle.std.proofs.lemmas.List.{take_rest}
use Rattle.ps_resolve.specs.InsideAnswers.{IsNotProgram}
use Rattle.ps_resolve.specs.InsideDefinitions.{AreParameters}
use Rattle.ps_resolve.proofs.Heads.{AreParameters-of_head, head-of_parameters, procedure-of_name}
use Rattle.ps_resolve.proofs.definition.read_definition.Goals as goal

pub returns-in_err-parameters-clause-unread : goal.returns-in_err-parameters-clause-unread
returns-in_err-parameters-clause-unread c = λ u h e fine.
    let is : IsNotProgram c.in_err-parameters.field-0.0 = search rules in
    let arm = c.in-Some-len1-up-default in
    c.in_err-parameters.ensures.unread is h.parameters (subst (λ z. AreParameters c.args.names.now z h.parameters) (sym (take_rest arm.field-0-0.now 1)) (AreParameters-of_head c.args.names.now c.args.form.now arm.field-0-0.now arm.body.now arm.ensures arm.len_at_least h e fine))

pub returns-clause-read : goal.returns-clause-read
returns-clause-read c =
    let arm = c.in-Some-len1-up-default in
    let are = subst (λ z. AreParameters c.args.names.now z c.in_ok-parameters.parameters) (take_rest arm.field-0-0.now 1) c.in_ok-parameters.ensures.read in
    record {
      head = head-of_parameters c.args.names.now c.args.form.now arm.field-0-0.now arm.body.now arm.ensures arm.len_at_least c.first-item.result c.first-item.is c.in-Some.name.now c.in-Some.ensures.1 c.in-Some.ensures.2 c.in_ok-parameters.parameters are;
      is_head = record { distinct = are.is_distinct; few = are.few };
      procedure = procedure-of_name c.args.names.now c.args.form.now arm.field-0-0.now arm.body.now arm.ensures arm.len_at_least c.first-item.result c.first-item.is c.in-Some.number c.in-Some.ensures.0;
    }
