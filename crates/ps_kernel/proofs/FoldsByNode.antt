-- The clauses of a fold of an expression, a node each.
-- For: each proof above that reads an expression node by node
use Rattle.std.proofs.Common.{◌≡◌, ℕ, List, map, ap, ◌∙◌}
use Rattle.ps_base.specs.declared.faults.Place.{Place}
use Rattle.ps_base.specs.declared.language.PrimName.{PrimName}
use Rattle.ps_kernel.specs.declared.expr.Constant.{Constant}
use Rattle.ps_kernel.specs.declared.expr.CaseKind.{CaseKind}
use Rattle.ps_kernel.specs.declared.expr.GroupEntry.{GroupEntry}
use Rattle.ps_kernel.specs.declared.expr.Expr.{Expr, fold-Expr, fold-roll-Expr, fold_out-Expr, out-Expr}
use Rattle.ps_kernel.specs.declared.expr.ExprKind.{ExprKind, map-ExprKind, fold-ExprKind, fold_out-ExprKind, out-ExprKind}
use Rattle.ps_kernel.specs.declared.expr.ExprKind.TheOpen.{ExprKind-F, Expr-F, Labelled-F}
use Rattle.ps_kernel.specs.declared.expr.ExprKind.TheVariants as k
use Rattle.ps_kernel.specs.declared.expr.Labelled.{Labelled, fold-Labelled, fold_out-Labelled, out-Labelled}
use Rattle.ps_kernel.specs.Texts.{expr_at}

module _ {A B C : Type 0} (s : ExprKind-F A B C → A) (t : Expr-F A B C → B) (u : Labelled-F A B C → C) where
  abbrev each : ExprKind → A
  each = fold-ExprKind A B C s t u

  abbrev all : Expr → B
  all = fold-Expr A B C s t u

  abbrev branch : Labelled → C
  branch = fold-Labelled A B C s t u

  -- the fold of an expression is that of its kind
  pub fold-expr : (p : Place) (x : ExprKind) → all (expr_at p x) ≡ t (record { place = p; kind = each x })
  fold-expr p x = fold-roll-Expr A B C s t u (record { place = p; kind = x })

  -- the same of any expression
  pub fold-at : (e : Expr) → all e ≡ t (record { place = (out-Expr e).place; kind = each (out-Expr e).kind })
  fold-at e = fold_out-Expr A B C s t u e

  -- the fold of a branch is that of its expression
  pub fold-branch : (b : Labelled) → branch b ≡ u (record { labels = (out-Labelled b).labels; body = all (out-Labelled b).body })
  fold-branch b = fold_out-Labelled A B C s t u b

  fold-by : (x : ExprKind) (y : ExprKind-F ExprKind Expr Labelled) → out-ExprKind x ≡ y → each x ≡ s (map-ExprKind ExprKind Expr Labelled A B C each all branch y)
  fold-by x y is = fold_out-ExprKind A B C s t u x ∙ ap (λ z. s (map-ExprKind ExprKind Expr Labelled A B C each all branch z)) is

  pub fold-constant : (c : Constant) → each (k.Constant c) ≡ s (ExprKind-F.Constant c)
  fold-constant c = fold-by (k.Constant c) (ExprKind-F.Constant c) (k.outs-Constant c)

  pub fold-local : (x : ℕ) → each (k.Local x) ≡ s (ExprKind-F.Local x)
  fold-local x = fold-by (k.Local x) (ExprKind-F.Local x) (k.outs-Local x)

  pub fold-global : (g : ℕ) → each (k.Global g) ≡ s (ExprKind-F.Global g)
  fold-global g = fold-by (k.Global g) (ExprKind-F.Global g) (k.outs-Global g)

  pub fold-lambda : (l : ℕ) → each (k.Lambda l) ≡ s (ExprKind-F.Lambda l)
  fold-lambda l = fold-by (k.Lambda l) (ExprKind-F.Lambda l) (k.outs-Lambda l)

  pub fold-if : (a b c : Expr) → each (k.If a b c) ≡ s (ExprKind-F.If (all a) (all b) (all c))
  fold-if a b c = fold-by (k.If a b c) (ExprKind-F.If a b c) (k.outs-If a b c)

  pub fold-let : (x : ℕ) (a b : Expr) → each (k.Let x a b) ≡ s (ExprKind-F.Let x (all a) (all b))
  fold-let x a b = fold-by (k.Let x a b) (ExprKind-F.Let x a b) (k.outs-Let x a b)

  pub fold-letrec : (g : List GroupEntry) (b : Expr) → each (k.Letrec g b) ≡ s (ExprKind-F.Letrec g (all b))
  fold-letrec g b = fold-by (k.Letrec g b) (ExprKind-F.Letrec g b) (k.outs-Letrec g b)

  pub fold-begin : (es : List Expr) → each (k.Begin es) ≡ s (ExprKind-F.Begin (map all es))
  fold-begin es = fold-by (k.Begin es) (ExprKind-F.Begin es) (k.outs-Begin es)

  pub fold-set : (g : ℕ) (a : Expr) → each (k.SetGlobal g a) ≡ s (ExprKind-F.SetGlobal g (all a))
  fold-set g a = fold-by (k.SetGlobal g a) (ExprKind-F.SetGlobal g a) (k.outs-SetGlobal g a)

  pub fold-set-local : (x : ℕ) (a : Expr) → each (k.SetLocal x a) ≡ s (ExprKind-F.SetLocal x (all a))
  fold-set-local x a = fold-by (k.SetLocal x a) (ExprKind-F.SetLocal x a) (k.outs-SetLocal x a)

  pub fold-case : (kind : CaseKind) (a : Expr) (bs : List Labelled) (e : Expr) → each (k.Case kind a bs e) ≡ s (ExprKind-F.Case kind (all a) (map branch bs) (all e))
  fold-case kind a bs e = fold-by (k.Case kind a bs e) (ExprKind-F.Case kind a bs e) (k.outs-Case kind a bs e)

  pub fold-call : (f : Expr) (es : List Expr) → each (k.Call f es) ≡ s (ExprKind-F.Call (all f) (map all es))
  fold-call f es = fold-by (k.Call f es) (ExprKind-F.Call f es) (k.outs-Call f es)

  pub fold-proper : (f : Expr) (es : List Expr) → each (k.ProperCall f es) ≡ s (ExprKind-F.ProperCall (all f) (map all es))
  fold-proper f es = fold-by (k.ProperCall f es) (ExprKind-F.ProperCall f es) (k.outs-ProperCall f es)

  pub fold-primitive : (p : PrimName) (es : List Expr) → each (k.Primitive p es) ≡ s (ExprKind-F.Primitive p (map all es))
  fold-primitive p es = fold-by (k.Primitive p es) (ExprKind-F.Primitive p es) (k.outs-Primitive p es)
