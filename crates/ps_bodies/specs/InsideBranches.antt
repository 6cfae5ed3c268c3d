-- Private: what the code tells of the labels of a `case` that it has met, and of the tests that it has built from behind.
use Rattle.std.specs.Prelude.{ℤ, ℕ, Bool, true, false, List, [], ◌∷◌, ◌++◌, Option, Some, None, if◌then◌else◌}
use Rattle.ps_base.specs.declared.faults.Place.{Place}
use Rattle.ps_derived.specs.declared.types.Label.{Label}
use Rattle.ps_kernel.specs.Rules.{is_among}
use Rattle.ps_kernel.specs.Texts.{expr_at}
use Rattle.ps_kernel.specs.declared.expr.Constant.TheVariants as c
use Rattle.ps_kernel.specs.declared.expr.Expr.{Expr}
use Rattle.ps_kernel.specs.declared.expr.ExprKind.TheVariants as k
use Rattle.ps_bodies.specs.Branches.{is_same}

-- ---- labels

abbrev pub with_code : List ℤ → ℤ → List ℤ
with_code seen c = if is_among c seen then seen else seen ++ c ∷ []

-- a code more, where there is one and it is new
abbrev pub then_codes : (List ℤ → Option (List ℤ)) → List ℤ → Option ℤ → Option (List ℤ)
then_codes rest seen None = None
then_codes rest seen (Some c) = if is_among c seen then None else rest (seen ++ c ∷ [])

-- the codes before, and behind them those of labels, where each has one and all are new
abbrev pub codes_behind : (Label → Option ℤ) → List Label → List ℤ → Option (List ℤ)
codes_behind f [] seen = Some seen
codes_behind f (l ∷ ls) seen = then_codes (codes_behind f ls) seen (f l)

abbrev pub when_told : Bool → List ℤ → Option (List ℤ)
when_told true codes = Some codes
when_told false codes = None

-- ---- tests

-- whether the key is one of these, and otherwise a test
abbrev pub or_test : Place → ℕ → List Label → Expr → Expr
or_test at x [] test = test
or_test at x (l ∷ ls) test = expr_at at (k.If (is_same at x l) (expr_at at (k.Constant (c.Boolean true))) (or_test at x ls test))
