-- Induction on expressions: what holds of an expression where it holds of its parts holds of every expression.
-- For: each law of rules
use Rattle.std.proofs.Common.{◌≡◌, List, [], ◌∷◌, map, sym, subst}
use Rattle.ps_base.specs.declared.faults.Place.{Place}
use Rattle.ps_types.proofs.TypesAreTerms.{every}
use Rattle.ps_kernel.specs.declared.expr.Expr.{Expr, ind-Expr, roll-Expr}
use Rattle.ps_kernel.specs.declared.expr.ExprKind.{ExprKind, map-ExprKind, roll-ExprKind}
use Rattle.ps_kernel.specs.declared.expr.ExprKind.TheOpen.{ExprKind-F, Labelled-F}
use Rattle.ps_kernel.specs.declared.expr.Labelled.{Labelled, roll-Labelled, out-roll-Labelled}
use Rattle.ps_kernel.specs.Marks.{body_of}

-- an expression by its place and its parts
abbrev pub node : Place → ExprKind-F ExprKind Expr Labelled → Expr
node at x = roll-Expr (record { place = at; kind = roll-ExprKind x })

-- P holds of each expression that is a part
abbrev pub parts : (Expr → Type 0) → ExprKind-F ExprKind Expr Labelled → Type 0
parts P (ExprKind-F.Constant c) = Unit {0}
parts P (ExprKind-F.Local x) = Unit {0}
parts P (ExprKind-F.Global d) = Unit {0}
parts P (ExprKind-F.Lambda l) = Unit {0}
parts P (ExprKind-F.If a b c) = P a × P b × P c
parts P (ExprKind-F.Let x a b) = P a × P b
parts P (ExprKind-F.Letrec g b) = P b
parts P (ExprKind-F.Begin es) = every P es
parts P (ExprKind-F.SetGlobal d a) = P a
parts P (ExprKind-F.SetLocal x a) = P a
parts P (ExprKind-F.Case kind a bs e) = P a × every (λ b. P (body_of b)) bs × P e
parts P (ExprKind-F.Call f es) = P f × every P es
parts P (ExprKind-F.ProperCall f es) = P f × every P es
parts P (ExprKind-F.Primitive p es) = every P es

module _ (P : Expr → Type 0) where
  abbrev AtKind : ExprKind → Type 0
  AtKind k = (at : Place) → P (roll-Expr (record { place = at; kind = k }))

  abbrev AtBranch : Labelled → Type 0
  AtBranch b = P (body_of b)

  abbrev K : Type 0
  K = (k : ExprKind) × AtKind k

  abbrev E : Type 0
  E = (e : Expr) × P e

  abbrev B : Type 0
  B = (b : Labelled) × AtBranch b

  abbrev kind : K → ExprKind
  kind e = e.0

  abbrev expr : E → Expr
  expr e = e.0

  abbrev branch : B → Labelled
  branch b = b.0

  firsts : (es : List E) → every P (map expr es)
  firsts [] = tt
  firsts (e ∷ es) = (e.1, firsts es)

  bodies : (bs : List B) → every AtBranch (map branch bs)
  bodies [] = tt
  bodies (b ∷ bs) = (b.1, bodies bs)

  parts_of : (y : ExprKind-F K E B) → parts P (map-ExprKind K E B ExprKind Expr Labelled kind expr branch y)
  parts_of (ExprKind-F.Constant c) = tt
  parts_of (ExprKind-F.Local x) = tt
  parts_of (ExprKind-F.Global d) = tt
  parts_of (ExprKind-F.Lambda l) = tt
  parts_of (ExprKind-F.If a b c) = (a.1, b.1, c.1)
  parts_of (ExprKind-F.Let x a b) = (a.1, b.1)
  parts_of (ExprKind-F.Letrec g b) = b.1
  parts_of (ExprKind-F.Begin es) = firsts es
  parts_of (ExprKind-F.SetGlobal d a) = a.1
  parts_of (ExprKind-F.SetLocal x a) = a.1
  parts_of (ExprKind-F.Case k a bs e) = (a.1, bodies bs, e.1)
  parts_of (ExprKind-F.Call f es) = (f.1, firsts es)
  parts_of (ExprKind-F.ProperCall f es) = (f.1, firsts es)
  parts_of (ExprKind-F.Primitive p es) = firsts es

  kind_step : ((at : Place) (x : ExprKind-F ExprKind Expr Labelled) → parts P x → P (node at x))
      → (x : ExprKind-F ExprKind Expr Labelled) (y : ExprKind-F K E B) → map-ExprKind K E B ExprKind Expr Labelled kind expr branch y ≡ x → AtKind (roll-ExprKind x)
  kind_step h x y is at = subst (λ z. P (node at z)) is (h at (map-ExprKind K E B ExprKind Expr Labelled kind expr branch y) (parts_of y))

  branch_step : (x : Labelled-F ExprKind Expr Labelled) (e : E) → e.0 ≡ x.body → AtBranch (roll-Labelled x)
  branch_step x e is = subst (λ (z : Labelled-F ExprKind Expr Labelled). P z.body) (sym (out-roll-Labelled x)) (subst P is e.1)

  pub by_parts : ((at : Place) (x : ExprKind-F ExprKind Expr Labelled) → parts P x → P (node at x)) → (e : Expr) → P e
  by_parts h = ind-Expr AtKind P AtBranch (kind_step h)
      (λ x y is. subst (λ z. P (roll-Expr z)) is (y.kind.1 y.place))
      (λ x y is. branch_step x y.body (λ i. (is i).body))

  pub every_holds : ((e : Expr) → P e) → (es : List Expr) → every P es
  every_holds h [] = tt
  every_holds h (e ∷ es) = (h e, every_holds h es)
