use Rattle.std.proofs.Common.{sym, subst}
use Rattle.byte_store.specs.Agree.{Agree, Shallow}
use Rattle.ps_plain.specs.Meaning.{Source}
use Rattle.c_ast.specs.WellFormed.{IsWellFormed}
use Rattle.c_meaning.specs.Machine.{CRun}
use Rattle.c_emit.proofs.UnitsAreFormed.{well-formed}
use Rattle.c_emit.proofs.UnitsDoTheSame.{agrees, is_shallow}
use Rattle.c_emit.proofs.unit.build.Goals as goal

pub returns-clause-formed : goal.returns-clause-formed
returns-clause-formed c = subst IsWellFormed (sym c.in_ok-unit.ensures) (well-formed c.args.program.now c.requires.valid c.requires.small)

pub returns-clause-agree : goal.returns-clause-agree
returns-clause-agree c = λ w. subst (λ u. Agree (Source c.args.program.now w) (CRun u w)) (sym c.in_ok-unit.ensures) (agrees c.args.program.now c.requires.valid w)

pub returns-clause-shallow : goal.returns-clause-shallow
returns-clause-shallow c = λ w. subst (λ u. Shallow 1 (Source c.args.program.now w) (CRun u w)) (sym c.in_ok-unit.ensures) (is_shallow c.args.program.now c.requires.valid w)
