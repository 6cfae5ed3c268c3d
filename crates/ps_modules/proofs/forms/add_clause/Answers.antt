use Rattle.std.proofs.Common.{rules}
use Rattle.ps_modules.specs.Shapes.{clause, clause_of, fronted, behind}
use Rattle.ps_modules.proofs.Gathering.{then_ok, then_stops, says_adds, adds_same}
use Rattle.ps_modules.proofs.forms.add_clause.Goals as goal

pub returns-in_err-front : goal.returns-in_err-front
returns-in_err-front c =
    let d = c.args.d.now in
    let all = says_adds (fronted d) (clause c.args.names.now d) (behind c.args.clauses.now) c.args.clauses.now c.in_err-front.field-0.0 (λ p h. then_stops (fronted d) (λ f. clause_of c.args.names.now f.0 f.1) p h) c.in_err-front.ensures in
    search rules

pub returns : goal.returns
returns c =
    let d = c.args.d.now in
    adds_same _ _ (behind c.args.clauses.now) c.add_parts.new.clauses c.add_parts.result (then_ok (fronted d) _ (λ f. clause_of c.args.names.now f.0 f.1) c.in_ok-front.ensures) c.add_parts.ensures
