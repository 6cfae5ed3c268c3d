use Rattle.std.proofs.Common.{sym, subst, ◌∙◌}
use Rattle.ps_resolve.specs.InsideAnswers.{IsNotProgram}
use Rattle.ps_resolve.proofs.program.resolve.Goals as goal

-- data without a fault are a program
pub unreachable-requires : goal.unreachable-requires
unreachable-requires c =
    let none = sym c.in_ok-place.ensures ∙ c.in_default.is in
    let found = (c.faults_tell_programs.ensures c.args.names.now c.args.forms.now).0 none in
    let bad = subst IsNotProgram (sym c.in-Err-NotProgram.field-0-is) tt in
    c.in-Err-NotProgram.ensures.unresolved bad found.0 found.1
