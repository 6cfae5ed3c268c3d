-- Induction over expressions, and the clauses of a fold.
-- For: `program_is_valid`, `program_is_sound` and the laws of runs
use Rattle.std.proofs.Common.{◌≡◌, ℕ, ℤ, List, [], ◌∷◌, map, sym, ap, ◌∙◌, subst}
use Rattle.std.specs.List.{AllByRecursion}
use Rattle.ps_base.specs.declared.faults.Place.{Place}
use Rattle.ps_plain.specs.declared.program.Expr.{Expr, map-Expr, fold-Expr, fold_out-Expr, ind-Expr, roll-Expr}
use Rattle.ps_plain.specs.declared.program.Expr.TheOpen.{Expr-F}
use Rattle.ps_plain.specs.declared.program.Expr.TheVariants as exprs
use Rattle.ps_plain.specs.declared.program.Operator.{Operator}
use Rattle.ps_plain.specs.declared.program.Comparison.{Comparison}

all-of : (P : Expr → Type 0) (xs : List ((e : Expr) × P e)) → AllByRecursion P (map (λ e. e.0) xs)
all-of P [] = tt
all-of P (x ∷ xs) = (x.1, all-of P xs)

pub induction : (P : Expr → Type 0) → ((p : Place) (i : ℤ) → P (exprs.Integer p i)) → ((p : Place) (k : ℕ) → P (exprs.Parameter p k)) → ((p : Place) (o : Operator) (a b : Expr) → P a → P b → P (exprs.Operation p o a b))
    → ((p at : Place) (q : Comparison) (a b c d : Expr) → P a → P b → P c → P d → P (exprs.If p at q a b c d)) → ((p at : Place) (f : ℕ) (es : List Expr) → AllByRecursion P es → P (exprs.Call p at f es)) → ((p : Place) → P (exprs.ReadByte p)) → (e : Expr) → P e
induction P onInteger onParameter onOperation onIf onCall onRead = ind-Expr P step
  where
    step : (x : Expr-F Expr) (y : Expr-F ((e : Expr) × P e)) → map-Expr ((e : Expr) × P e) Expr (λ e. e.0) y ≡ x → P (roll-Expr x)
    step x (Expr-F.Integer p i) is = subst (λ z. P (roll-Expr z)) is (subst P (sym (exprs.rolls-Integer p i)) (onInteger p i))
    step x (Expr-F.Parameter p k) is = subst (λ z. P (roll-Expr z)) is (subst P (sym (exprs.rolls-Parameter p k)) (onParameter p k))
    step x (Expr-F.Operation p o a b) is = subst (λ z. P (roll-Expr z)) is (subst P (sym (exprs.rolls-Operation p o a.0 b.0)) (onOperation p o a.0 b.0 a.1 b.1))
    step x (Expr-F.If p at q a b c d) is = subst (λ z. P (roll-Expr z)) is (subst P (sym (exprs.rolls-If p at q a.0 b.0 c.0 d.0)) (onIf p at q a.0 b.0 c.0 d.0 a.1 b.1 c.1 d.1))
    step x (Expr-F.Call p at f es) is = subst (λ z. P (roll-Expr z)) is (subst P (sym (exprs.rolls-Call p at f (map (λ e. e.0) es))) (onCall p at f (map (λ e. e.0) es) (all-of P es)))
    step x (Expr-F.ReadByte p) is = subst (λ z. P (roll-Expr z)) is (subst P (sym (exprs.rolls-ReadByte p)) (onRead p))

module _ {A : Type 0} (step : Expr-F A → A) where
  pub fold-integer : (p : Place) (i : ℤ) → fold-Expr A step (exprs.Integer p i) ≡ step (Expr-F.Integer p i)
  fold-integer p i = fold_out-Expr A step (exprs.Integer p i) ∙ ap (λ z. step (map-Expr Expr A (fold-Expr A step) z)) (exprs.outs-Integer p i)

  pub fold-parameter : (p : Place) (k : ℕ) → fold-Expr A step (exprs.Parameter p k) ≡ step (Expr-F.Parameter p k)
  fold-parameter p k = fold_out-Expr A step (exprs.Parameter p k) ∙ ap (λ z. step (map-Expr Expr A (fold-Expr A step) z)) (exprs.outs-Parameter p k)

  pub fold-operation : (p : Place) (o : Operator) (a b : Expr) → fold-Expr A step (exprs.Operation p o a b) ≡ step (Expr-F.Operation p o (fold-Expr A step a) (fold-Expr A step b))
  fold-operation p o a b = fold_out-Expr A step (exprs.Operation p o a b) ∙ ap (λ z. step (map-Expr Expr A (fold-Expr A step) z)) (exprs.outs-Operation p o a b)

  pub fold-if : (p at : Place) (q : Comparison) (a b c d : Expr) → fold-Expr A step (exprs.If p at q a b c d) ≡ step (Expr-F.If p at q (fold-Expr A step a) (fold-Expr A step b) (fold-Expr A step c) (fold-Expr A step d))
  fold-if p at q a b c d = fold_out-Expr A step (exprs.If p at q a b c d) ∙ ap (λ z. step (map-Expr Expr A (fold-Expr A step) z)) (exprs.outs-If p at q a b c d)

  pub fold-call : (p at : Place) (f : ℕ) (es : List Expr) → fold-Expr A step (exprs.Call p at f es) ≡ step (Expr-F.Call p at f (map (fold-Expr A step) es))
  fold-call p at f es = fold_out-Expr A step (exprs.Call p at f es) ∙ ap (λ z. step (map-Expr Expr A (fold-Expr A step) z)) (exprs.outs-Call p at f es)

  pub fold-read : (p : Place) → fold-Expr A step (exprs.ReadByte p) ≡ step (Expr-F.ReadByte p)
  fold-read p = fold_out-Expr A step (exprs.ReadByte p) ∙ ap (λ z. step (map-Expr Expr A (fold-Expr A step) z)) (exprs.outs-ReadByte p)
