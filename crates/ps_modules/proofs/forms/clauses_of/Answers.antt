use Rattle.std.proofs.Common.{rules, ◌≡◌, [], arith}
use Rattle.ps_modules.specs.Shapes.{none, clause, clauses, behind}
use Rattle.ps_modules.proofs.Gathering.{joined_from, same_clauses, joined_goes_on, joined_breaks, joined_ends, adds_says, behind_assoc, behind_none, none_behind}
use Rattle.ps_modules.proofs.forms.clauses_of.Goals as goal

pub loop-d-init : goal.loop-d-init
loop-d-init c =
    let o : c.new-opens.result ≡ [] = search rules in
    let p : c.new-parts.result ≡ [] = search rules in
    joined_from none behind _ _ none _ (same_clauses _ _ _ _ o p)

pub loop-d-preserved : goal.loop-d-preserved
loop-d-preserved c = joined_goes_on behind behind_assoc _ _ _ _ _ _ c.loop-d.invariant _ c.loop-d-test.true c.d-item.is _ c.in_ok-add_clause.ensures

pub returns-in_err-add_clause : goal.returns-in_err-add_clause
returns-in_err-add_clause c =
    let all = adds_says (clause c.args.names.now c.d-item.result) (clauses c.args.names.now c.args.ds.now) (behind c.loop-d.clauses) c.add_clause.new.clauses c.in_err-add_clause.field-0.0
    (joined_breaks behind behind_assoc _ _ _ _ _ _ c.loop-d.invariant _ c.loop-d-test.true c.d-item.is) c.in_err-add_clause.ensures in
    search rules

pub returns : goal.returns
returns c = joined_ends behind behind_assoc _ _ _ _ _ c.loop-d.invariant none_behind behind_none (omega arith)
