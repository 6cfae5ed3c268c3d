use Rattle.std.proofs.Common.{List, ℕ, ap, ◌∙◌, sym}
use Rattle.std.specs.Prelude.{nat_le, nat_lt, ◌&&◌}
use Rattle.ps_kernel.specs.Most.{most_labels}
use Rattle.ps_derived.specs.declared.types.Label.{Label}
use Rattle.ps_bodies.specs.Branches.{code_in}
use Rattle.ps_bodies.specs.InsideBranches.{codes_behind}
use Rattle.ps_bodies.proofs.LabelsAreFewAndDiffer.{next_clause, bad_clause, last_clause}
use Rattle.ps_bodies.proofs.kinds.are_labels.Goals as goal

pub returns-then-not-are_new : goal.returns-then-not-are_new
returns-then-not-are_new c =
    bad_clause (code_in c.args.kind) c.args.clauses.now c.loop-clause.clause-index c.clause-item.result c.loop-clause.codes
    c.add_codes.new.codes c.in_ok-are_new.are_new c.loop-clause-test.true c.clause-item.is
    (ap (λ (ls : List Label). codes_behind (code_in c.args.kind) ls c.loop-clause.codes) (sym c.as_slice.ensures)
    ∙ c.in_ok-are_new.ensures) c.if-not-are_new.true c.loop-clause.invariant

pub loop-clause-preserved : goal.loop-clause-preserved
loop-clause-preserved c =
    next_clause (code_in c.args.kind) c.args.clauses.now c.loop-clause.clause-index c.clause-item.result c.loop-clause.codes
    c.add_codes.new.codes c.in_ok-are_new.are_new _ c.loop-clause-test.true c.clause-item.is
    (ap (λ (ls : List Label). codes_behind (code_in c.args.kind) ls c.loop-clause.codes) (sym c.as_slice.ensures)
    ∙ c.in_ok-are_new.ensures) c.if-not-are_new.false c.loop-clause.invariant

pub returns : goal.returns
returns c =
    c.are_few.ensures ∙ ap (λ (n : ℕ). nat_lt 0 n && nat_le n most_labels) c.len.ensures
    ∙ last_clause (code_in c.args.kind) c.args.clauses.now c.loop-clause.clause-index c.loop-clause.codes c.loop-clause-test.false
    c.loop-clause.invariant
