use Rattle.std.proofs.Common.{w64}
use Rattle.std.proofs.lemmas.Int.{to_z-of_z}
use Rattle.ps_evaluator.proofs.Joins.{selects_body, selects_nothing}
use Rattle.ps_evaluator.proofs.turns.select.Goals as goal

pub returns-in-Some : goal.returns-in-Some
returns-in-Some c = λ k f. selects_body k f c.args.at c.args.kind c.args.branches.now c.args.last.now c.args.depth c.args.v.now c.label_of.result c.in-Some.label c.body_for.result.now (c.label_of.ensures k) c.in-Some.is
    (let t = rw c.in-Some.is at c.label_of.type_inv in rw (to_z-of_z w64 c.in-Some.label (record { sfits = t.1.1.1.1.0.1 })) at c.body_for.ensures)

pub returns-in-None : goal.returns-in-None
returns-in-None c = λ k f. selects_nothing k f c.args.at c.args.kind c.args.branches.now c.args.last.now c.args.depth c.args.v.now c.label_of.result (c.label_of.ensures k) c.in-None.is
