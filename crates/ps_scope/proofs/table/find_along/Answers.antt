use Rattle.std.proofs.Common.{◌≡◌, ◌∙◌, ◌-◌, List, ℕ, sym, ap, arith, Some, None, slice_get}
use Rattle.std.specs.Option.{option_copied}
use Rattle.ps_scope.specs.Environments.{word, defined}
use Rattle.ps_scope.specs.InsideTables.{trail_at, trails}
use Rattle.ps_scope.proofs.Trails.{parent_below, row_found, row_passed, row_missing}
use Rattle.ps_scope.proofs.table.find_along.Goals as goal

pub returns-in-None : goal.returns-in-None
returns-in-None c =
    let e : slice_get c.args.rows.now (c.rows.below - 1) ≡ None = sym c.at.ensures ∙ ap option_copied c.in-None.is in
    sym (c.rows.invariant ∙ row_missing c.args.rows.now c.requires c.rows.below c.rows-test.true c.args.owner (word c.args.name c.args.stamps.now) e)

pub returns-then-is_same : goal.returns-then-is_same
returns-then-is_same c =
    let e : slice_get c.args.rows.now (c.rows.below - 1) ≡ Some c.in-Some.row.now = sym c.at.ensures ∙ ap option_copied c.in-Some.is in
    sym (c.rows.invariant ∙ row_found c.args.rows.now c.requires c.rows.below c.rows-test.true c.args.owner (word c.args.name c.args.stamps.now) c.in-Some.row.now e (sym c.is_same.ensures ∙ c.if-is_same.true))

pub rows-smaller : goal.rows-smaller
rows-smaller c =
    let e : slice_get c.args.rows.now (c.rows.below - 1) ≡ Some c.in-Some.row.now = sym c.at.ensures ∙ ap option_copied c.in-Some.is in
    parent_below c.args.rows.now c.requires c.rows.below c.rows-test.true c.in-Some.row.now e

pub rows-preserved : goal.rows-preserved
rows-preserved c =
    let e : slice_get c.args.rows.now (c.rows.below - 1) ≡ Some c.in-Some.row.now = sym c.at.ensures ∙ ap option_copied c.in-Some.is in
    c.rows.invariant ∙ row_passed c.args.rows.now c.requires c.rows.below c.rows-test.true c.args.owner (word c.args.name c.args.stamps.now) c.in-Some.row.now e (sym c.is_same.ensures ∙ c.if-is_same.false)

pub returns : goal.returns
returns c =
    let w : List ℕ = word c.args.name c.args.stamps.now in
    let z : c.rows.below ≡ 0 = omega arith in
    sym (c.rows.invariant ∙ ap (λ n. defined (trail_at (trails c.args.rows.now) n) c.args.owner w) z ∙ ap (λ es. defined es c.args.owner w) c.requires.none)
