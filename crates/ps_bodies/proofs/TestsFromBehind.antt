-- Tests that are built from the last to the first.
-- For: is_one_of, or_test, ifs_of
use Rattle.std.proofs.Common.{◌≡◌, ℕ, true, List, [], ◌∷◌, ◌++◌, refl, ap, sym, ◌∙◌, Result, Ok, Err}
use Rattle.std.specs.Prelude.{MatchResult}
use Rattle.ps_base.specs.declared.faults.Place.{Place}
use Rattle.ps_derived.specs.declared.types.Label.{Label}
use Rattle.ps_kernel.specs.Texts.{expr_at}
use Rattle.ps_kernel.specs.declared.expr.Constant.TheVariants as c
use Rattle.ps_kernel.specs.declared.expr.Expr.{Expr}
use Rattle.ps_kernel.specs.declared.expr.ExprKind.TheVariants as k
use Rattle.ps_expansion.specs.declared.stop.Stop.{Stop}
use Rattle.ps_expansion.specs.declared.stop.Stop.TheVariants.{NoMemory}
use Rattle.ps_bodies.specs.declared.branches.Branch.{Branch}
use Rattle.ps_bodies.specs.Branches.{is_same, is_one_of, ifs_of}
use Rattle.ps_bodies.specs.InsideBranches.{or_test}

module _ (at : Place) (x : ℕ) where
  abbrev if_same : Label → Expr → Expr
  if_same l e = expr_at at (k.If (is_same at x l) (expr_at at (k.Constant (c.Boolean true))) e)

  pub or_last : (ls : List Label) (l : Label) (e : Expr) → or_test at x (ls ++ l ∷ []) e ≡ or_test at x ls (if_same l e)
  or_last [] l e = refl
  or_last (m ∷ ls) l e = ap (if_same m) (or_last ls l e)

  pub one_of_last : (ls : List Label) (l : Label) → is_one_of at x (ls ++ l ∷ []) ≡ or_test at x ls (is_same at x l)
  one_of_last [] l = refl
  one_of_last (m ∷ []) l = refl
  one_of_last (m ∷ n ∷ ls) l = ap (if_same m) (one_of_last (n ∷ ls) l)

  abbrev if_one_of : Branch → Expr → Expr
  if_one_of b e = expr_at at (k.If (is_one_of at x b.labels) b.body e)

  pub ifs_last : (bs : List Branch) (b : Branch) (e : Expr) → ifs_of at x (bs ++ b ∷ []) e ≡ ifs_of at x bs (if_one_of b e)
  ifs_last [] b e = refl
  ifs_last (d ∷ bs) b e = ap (if_one_of d) (ifs_last bs b e)

  -- one more is taken from behind
  pub or_taken : (rest front : List Label) (l : Label) (e same sure f : Expr) (all : Expr) → rest ≡ front ++ l ∷ [] → same
      ≡ is_same at x l → sure ≡ expr_at at (k.Constant (c.Boolean true))
      → f ≡ expr_at at (k.If same sure e) → or_test at x rest e ≡ all → or_test at x front f ≡ all
  or_taken rest front l e same sure f all is s y g inv =
      ap (or_test at x front)
      (g ∙ ap (λ (z : Expr). expr_at at (k.If z sure e)) s ∙ ap (λ (z : Expr). expr_at at (k.If (is_same at x l) z e)) y)
      ∙ sym (or_last front l e) ∙ sym (ap (λ (ls : List Label). or_test at x ls e) is) ∙ inv

  pub one_of_made : (ls front : List Label) (l : Label) (test : Expr) (r : Result Expr Stop) → ls ≡ front ++ l ∷ [] → test ≡ is_same at x l
      → MatchResult r (λ e. e ≡ or_test at x front test) (λ e. e ≡ NoMemory)
      → MatchResult r (λ e. e ≡ is_one_of at x ls) (λ e. e ≡ NoMemory)
  one_of_made ls front l test (Ok e) is t made = made ∙ ap (or_test at x front) t ∙ sym (one_of_last front l) ∙ sym (ap (is_one_of at x) is)
  one_of_made ls front l test (Err e) is t made = made

  pub if_taken : (bs rest : List Branch) (b : Branch) (e test f : Expr) (all : Expr) → bs ≡ rest ++ b ∷ [] → test ≡ is_one_of at x b.labels
      → f ≡ expr_at at (k.If test b.body e) → ifs_of at x bs e ≡ all → ifs_of at x rest f ≡ all
  if_taken bs rest b e test f all is t g inv =
      ap (ifs_of at x rest) (g ∙ ap (λ (z : Expr). expr_at at (k.If z b.body e)) t)
      ∙ sym (ifs_last rest b e) ∙ sym (ap (λ (cs : List Branch). ifs_of at x cs e) is) ∙ inv
