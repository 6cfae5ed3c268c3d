use Rattle.std.proofs.Common.{◌≡◌, None, sym, ap, ◌∙◌, map}
use Rattle.ps_plain.specs.Forms.{scope_in}
use Rattle.ps_plain.specs.Faults.{flaws, or_else, body_names}
use Rattle.ps_resolve.specs.InsideHeads.{arity_at}
use Rattle.ps_resolve.proofs.FaultScopes.{same_body}
use Rattle.ps_resolve.proofs.faults.definition_fault.Goals as goal

pub returns-clause-fault : goal.returns-clause-fault
returns-clause-fault c = λ heads h knows is.
    let names = c.args.names.now in
    let body = c.args.definition.now.body.now in
    let none : c.in_ok-at.field-0 ≡ None = c.in_default.is in
    let same = same_body (record { parameters = c.head_fault.new.parameters; procedures = c.args.procedures.now.names; arities = c.as_slice.result.now }) (scope_in heads h) (record {
      parameters = c.in_ok-at.ensures.parameters none h.parameters is.parameters;
      arities = λ w. ap (λ z. arity_at c.args.procedures.now.names z w) c.as_slice.ensures ∙ knows.same w;
    }) names body in
    c.body_names.ensures ∙ same ∙ ap (λ z. or_else z (body_names (scope_in heads h) (map (flaws names) body))) (sym none ∙ c.in_ok-at.ensures.fault)
