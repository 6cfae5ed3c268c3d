-- Two folds over one tree, whose steps keep a relation, give related results.
-- For: the laws of bounds, budgets and cells of `ps_meaning`
use Rattle.std.proofs.Common.{◌≡◌, refl, ap, sym, ◌∙◌, subst, List}
use Rattle.std.proofs.lemmas.Simd.{map-map}
use Rattle.ps_kernel.specs.declared.expr.Expr.{Expr, map-Expr, fold-Expr, fold-roll-Expr, ind-Expr, roll-Expr}
use Rattle.ps_kernel.specs.declared.expr.ExprKind.{ExprKind, map-ExprKind, fold-ExprKind, fold-roll-ExprKind, roll-ExprKind}
use Rattle.ps_kernel.specs.declared.expr.ExprKind.TheOpen.{ExprKind-F, Expr-F, Labelled-F}
use Rattle.ps_kernel.specs.declared.expr.Labelled.{Labelled, map-Labelled, fold-Labelled, fold-roll-Labelled, roll-Labelled}

-- two values that are related
abbrev pub Both : {A B : Type 0} → (A → B → Type 0) → Type 0
Both {A} {B} R = (a : A) × (b : B) × R a b

module _ {A A' A'' B B' B'' C C' C'' : Type 0} (f : A → B) (f' : A' → B') (f'' : A'' → B'') (g : B → C) (g' : B' → C') (g'' : B'' → C'') where
  fuse : (y : ExprKind-F A A' A'') → map-ExprKind B B' B'' C C' C'' g g' g'' (map-ExprKind A A' A'' B B' B'' f f' f'' y) ≡ map-ExprKind A A' A'' C C' C'' (λ a. g (f a)) (λ a. g' (f' a)) (λ a. g'' (f'' a)) y
  fuse (ExprKind-F.Constant c) = refl
  fuse (ExprKind-F.Local x) = refl
  fuse (ExprKind-F.Global x) = refl
  fuse (ExprKind-F.Lambda x) = refl
  fuse (ExprKind-F.If a b c) = refl
  fuse (ExprKind-F.Let x a b) = refl
  fuse (ExprKind-F.Letrec x b) = refl
  fuse (ExprKind-F.Begin es) = ap ExprKind-F.Begin (map-map g' f' es)
  fuse (ExprKind-F.SetGlobal x a) = refl
  fuse (ExprKind-F.SetLocal x a) = refl
  fuse (ExprKind-F.Case k a bs e) = ap (λ (cs : List C''). ExprKind-F.Case k (g' (f' a)) cs (g' (f' e))) (map-map g'' f'' bs)
  fuse (ExprKind-F.Call a es) = ap (ExprKind-F.Call (g' (f' a))) (map-map g' f' es)
  fuse (ExprKind-F.ProperCall a es) = ap (ExprKind-F.ProperCall (g' (f' a))) (map-map g' f' es)
  fuse (ExprKind-F.Primitive p es) = ap (ExprKind-F.Primitive p) (map-map g' f' es)

module _ {A A' A'' B B' B'' : Type 0} (R : A → B → Type 0) (R' : A' → B' → Type 0) (R'' : A'' → B'' → Type 0)
    (s : ExprKind-F A A' A'' → A) (s' : Expr-F A A' A'' → A') (s'' : Labelled-F A A' A'' → A'')
    (t : ExprKind-F B B' B'' → B) (t' : Expr-F B B' B'' → B') (t'' : Labelled-F B B' B'' → B'') where
  abbrev left : ExprKind-F (Both R) (Both R') (Both R'') → A
  left y = s (map-ExprKind (Both R) (Both R') (Both R'') A A' A'' (λ e. e.0) (λ e. e.0) (λ e. e.0) y)

  abbrev right : ExprKind-F (Both R) (Both R') (Both R'') → B
  right y = t (map-ExprKind (Both R) (Both R') (Both R'') B B' B'' (λ e. e.1) (λ e. e.1) (λ e. e.1) y)

  abbrev left' : Expr-F (Both R) (Both R') (Both R'') → A'
  left' y = s' (map-Expr (Both R) (Both R') (Both R'') A A' A'' (λ e. e.0) (λ e. e.0) (λ e. e.0) y)

  abbrev right' : Expr-F (Both R) (Both R') (Both R'') → B'
  right' y = t' (map-Expr (Both R) (Both R') (Both R'') B B' B'' (λ e. e.1) (λ e. e.1) (λ e. e.1) y)

  abbrev left'' : Labelled-F (Both R) (Both R') (Both R'') → A''
  left'' y = s'' (map-Labelled (Both R) (Both R') (Both R'') A A' A'' (λ e. e.0) (λ e. e.0) (λ e. e.0) y)

  abbrev right'' : Labelled-F (Both R) (Both R') (Both R'') → B''
  right'' y = t'' (map-Labelled (Both R) (Both R') (Both R'') B B' B'' (λ e. e.1) (λ e. e.1) (λ e. e.1) y)

  abbrev of_kind : ExprKind → A
  of_kind = fold-ExprKind A A' A'' s s' s''

  abbrev of_expr : Expr → A'
  of_expr = fold-Expr A A' A'' s s' s''

  abbrev of_branch : Labelled → A''
  of_branch = fold-Labelled A A' A'' s s' s''

  abbrev to_kind : ExprKind → B
  to_kind = fold-ExprKind B B' B'' t t' t''

  abbrev to_expr : Expr → B'
  to_expr = fold-Expr B B' B'' t t' t''

  abbrev to_branch : Labelled → B''
  to_branch = fold-Labelled B B' B'' t t' t''

  abbrev P : ExprKind → Type 0
  P k = R (of_kind k) (to_kind k)

  abbrev P' : Expr → Type 0
  P' e = R' (of_expr e) (to_expr e)

  abbrev P'' : Labelled → Type 0
  P'' b = R'' (of_branch b) (to_branch b)

  -- what the induction knows of a part
  abbrev Q : Type 0
  Q = (k : ExprKind) × P k

  abbrev Q' : Type 0
  Q' = (e : Expr) × P' e

  abbrev Q'' : Type 0
  Q'' = (b : Labelled) × P'' b

  abbrev both : Q → Both R
  both e = (of_kind e.0, to_kind e.0, e.1)

  abbrev both' : Q' → Both R'
  both' e = (of_expr e.0, to_expr e.0, e.1)

  abbrev both'' : Q'' → Both R''
  both'' e = (of_branch e.0, to_branch e.0, e.1)

  module _ (step : (y : ExprKind-F (Both R) (Both R') (Both R'')) → R (left y) (right y))
      (step' : (y : Expr-F (Both R) (Both R') (Both R'')) → R' (left' y) (right' y))
      (step'' : (y : Labelled-F (Both R) (Both R') (Both R'')) → R'' (left'' y) (right'' y)) where
    kind_step : (x : ExprKind-F ExprKind Expr Labelled) → (y : ExprKind-F Q Q' Q'') → map-ExprKind Q Q' Q'' ExprKind Expr Labelled (λ e. e.0) (λ e. e.0) (λ e. e.0) y ≡ x → P (roll-ExprKind x)
    kind_step x y is =
        let z : ExprKind-F (Both R) (Both R') (Both R'') = map-ExprKind Q Q' Q'' (Both R) (Both R') (Both R'') both both' both'' y in
        let a : of_kind (roll-ExprKind x) ≡ left z =
        fold-roll-ExprKind A A' A'' s s' s'' x ∙ ap (λ z. s (map-ExprKind ExprKind Expr Labelled A A' A'' of_kind of_expr of_branch z)) (sym is) ∙ ap s (fuse (λ e. e.0) (λ e. e.0) (λ e. e.0) of_kind of_expr of_branch y ∙ sym (fuse both both' both'' (λ e. e.0) (λ e. e.0) (λ e. e.0) y)) in
        let b : to_kind (roll-ExprKind x) ≡ right z =
        fold-roll-ExprKind B B' B'' t t' t'' x ∙ ap (λ z. t (map-ExprKind ExprKind Expr Labelled B B' B'' to_kind to_expr to_branch z)) (sym is) ∙ ap t (fuse (λ e. e.0) (λ e. e.0) (λ e. e.0) to_kind to_expr to_branch y ∙ sym (fuse both both' both'' (λ e. e.1) (λ e. e.1) (λ e. e.1) y)) in
        subst (λ w. R w (to_kind (roll-ExprKind x))) (sym a) (subst (R (left z)) (sym b) (step z))

    expr_step : (x : Expr-F ExprKind Expr Labelled) → (y : Expr-F Q Q' Q'') → map-Expr Q Q' Q'' ExprKind Expr Labelled (λ e. e.0) (λ e. e.0) (λ e. e.0) y ≡ x → P' (roll-Expr x)
    expr_step x y is =
        let z : Expr-F (Both R) (Both R') (Both R'') = map-Expr Q Q' Q'' (Both R) (Both R') (Both R'') both both' both'' y in
        let a : of_expr (roll-Expr x) ≡ left' z =
        fold-roll-Expr A A' A'' s s' s'' x ∙ ap (λ z. s' (map-Expr ExprKind Expr Labelled A A' A'' of_kind of_expr of_branch z)) (sym is) in
        let b : to_expr (roll-Expr x) ≡ right' z =
        fold-roll-Expr B B' B'' t t' t'' x ∙ ap (λ z. t' (map-Expr ExprKind Expr Labelled B B' B'' to_kind to_expr to_branch z)) (sym is) in
        subst (λ w. R' w (to_expr (roll-Expr x))) (sym a) (subst (R' (left' z)) (sym b) (step' z))

    branch_step : (x : Labelled-F ExprKind Expr Labelled) → (y : Labelled-F Q Q' Q'') → map-Labelled Q Q' Q'' ExprKind Expr Labelled (λ e. e.0) (λ e. e.0) (λ e. e.0) y ≡ x → P'' (roll-Labelled x)
    branch_step x y is =
        let z : Labelled-F (Both R) (Both R') (Both R'') = map-Labelled Q Q' Q'' (Both R) (Both R') (Both R'') both both' both'' y in
        let a : of_branch (roll-Labelled x) ≡ left'' z =
        fold-roll-Labelled A A' A'' s s' s'' x ∙ ap (λ z. s'' (map-Labelled ExprKind Expr Labelled A A' A'' of_kind of_expr of_branch z)) (sym is) in
        let b : to_branch (roll-Labelled x) ≡ right'' z =
        fold-roll-Labelled B B' B'' t t' t'' x ∙ ap (λ z. t'' (map-Labelled ExprKind Expr Labelled B B' B'' to_kind to_expr to_branch z)) (sym is) in
        subst (λ w. R'' w (to_branch (roll-Labelled x))) (sym a) (subst (R'' (left'' z)) (sym b) (step'' z))

    pub related : (e : Expr) → R' (fold-Expr A A' A'' s s' s'' e) (fold-Expr B B' B'' t t' t'' e)
    related = ind-Expr P P' P'' kind_step expr_step branch_step
