use Rattle.std.proofs.Common.{Some, refl}
use Rattle.ps_modules.specs.Openings.{given_by, names_of}
use Rattle.ps_modules.proofs.Gathering.{item_is}
use Rattle.ps_modules.proofs.NamesAreTaken.{gives_more, gives_other, gives_end, was_taken, not_taken}
use Rattle.ps_modules.proofs.openings.take_exports.Goals as goal

pub returns-then-not-branch : goal.returns-then-not-branch
returns-then-not-branch c = gives_other (λ es. given_by (Some c.args.structure) (names_of es)) _ _ _ _ c.loop-export.invariant _ c.loop-export-test.true (item_is _ _ _ c.loop-export-test.true) _ refl
    (not_taken _ _ _ c.if-not-branch.true c.in_ok-take.ensures)

pub loop-export-preserved : goal.loop-export-preserved
loop-export-preserved c = gives_more (λ es. given_by (Some c.args.structure) (names_of es)) _ _ _ _ c.loop-export.invariant _ c.loop-export-test.true (item_is _ _ _ c.loop-export-test.true) _ refl _
    (was_taken _ _ _ c.if-not-branch.false c.in_ok-take.ensures)

pub returns : goal.returns
returns c = gives_end (λ es. given_by (Some c.args.structure) (names_of es)) c.args.exports.now _ _ c.loop-export.export-index c.loop-export.invariant refl c.loop-export-test.false
