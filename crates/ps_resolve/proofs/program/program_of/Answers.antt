use Rattle.std.proofs.Common.{rules, ap, length, arith, subst}
use Rattle.ps_plain.specs.Forms.{IsProgram}
use Rattle.ps_plain.proofs.Programs.{program_valid, program_small}
use Rattle.ps_resolve.specs.InsideAnswers.{IsNotProgram}
use Rattle.ps_resolve.specs.InsideDefinitions.{AreProcedures}
use Rattle.ps_resolve.proofs.Programs.{good, few-definitions, made, procedures-of_program}
use Rattle.ps_resolve.proofs.program.program_of.Goals as goal
use Rattle.ps_resolve.proofs.program.program_of.Goals.{In_ok-procedures}

pub returns-in_err-definitions-clause-unresolved : goal.returns-in_err-definitions-clause-unresolved
returns-in_err-definitions-clause-unresolved c = λ u p is.
    let bad : IsNotProgram c.in_err-definitions.field-0.0 = search rules in
    let heads = good c.args.names.now c.args.forms.now c.in-Some.before.now c.in-Some.main.now c.in-Some.after.now c.in-Some.ensures p is in
    c.in_err-definitions.ensures.unread bad heads.heads heads.are heads.good

pub procedures-requires : goal.procedures-requires
procedures-requires c =
    let few = few-definitions c.args.names.now c.args.forms.now c.in-Some.before.now c.in-Some.main.now c.in-Some.after.now c.in-Some.ensures c.in_ok-definitions.definitions c.in_ok-definitions.ensures.read in
    let same = ap length c.as_slice.ensures in
    omega (arith, few, same, c.requires)

pub returns-in_err-procedures-clause-unresolved : goal.returns-in_err-procedures-clause-unresolved
returns-in_err-procedures-clause-unresolved c = λ u p is.
    let bad : IsNotProgram c.in_err-procedures.field-0.0 = search rules in
    let all = procedures-of_program c.args.names.now c.args.forms.now c.in-Some.before.now c.in-Some.main.now c.in-Some.after.now c.in-Some.ensures c.in_ok-definitions.definitions c.in_ok-definitions.ensures.read p is in
    c.in_err-procedures.ensures.unread bad p.procedures (rw c.as_slice.ensures all)

-- what was made is the program
is_program : (c : In_ok-procedures) → IsProgram c.args.names.now c.args.forms.now (record { procedures = c.in_ok-procedures.procedures })
is_program c =
    made c.args.names.now c.args.forms.now c.in-Some.before.now c.in-Some.main.now c.in-Some.after.now c.in-Some.ensures c.in_ok-definitions.definitions c.in_ok-definitions.ensures.read c.in_ok-procedures.procedures
    (subst (λ xs. AreProcedures c.args.names.now xs c.in_ok-procedures.procedures) c.as_slice.ensures c.in_ok-procedures.ensures.read)

pub returns-clause-resolved : goal.returns-clause-resolved
returns-clause-resolved c = is_program (goal.at.returns-clause-resolved c).In_ok-procedures

pub returns-clause-valid : goal.returns-clause-valid
returns-clause-valid c = program_valid c.args.names.now c.args.forms.now (record { procedures = c.in_ok-procedures.procedures }) (is_program (goal.at.returns-clause-valid c).In_ok-procedures)

pub returns-clause-small : goal.returns-clause-small
returns-clause-small c = program_small c.args.names.now c.args.forms.now (record { procedures = c.in_ok-procedures.procedures }) (is_program (goal.at.returns-clause-small c).In_ok-procedures)
