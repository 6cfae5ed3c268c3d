use Rattle.std.proofs.Common.{rules, subst, sym}
use Rattle.ps_base.specs.Names.{IsNew}
use Rattle.ps_resolve.specs.InsideAnswers.{IsNotProgram}
use Rattle.ps_resolve.proofs.Definitions.{new_name}
use Rattle.ps_resolve.proofs.program.defined.Goals as goal

pub returns-in_err-add_new-clause-refused : goal.returns-in_err-add_new-clause-refused
returns-in_err-add_new-clause-refused c = λ u distinct.
    let is : IsNotProgram c.in_err-add_new.field-0.0 = search rules in
    let x = c.definition-item.result in
    c.in_err-add_new.ensures.refused is (subst (λ z. IsNew z x.name.now) (sym c.loop-definition.invariant.so_far) (new_name c.args.definitions.now c.loop-definition.definition-index x c.loop-definition-test.true c.definition-item.is distinct))
