-- What the rules say of an expression, node by node.
-- For: each law of rules
use Rattle.std.proofs.Common.{◌≡◌, ℕ, List, [], ◌∷◌, map, refl, sym, ap, ◌∙◌, subst}
use Rattle.ps_base.specs.declared.faults.Place.{Place}
use Rattle.ps_types.specs.declared.types.Ty.{Ty}
use Rattle.ps_types.specs.declared.types.Ty.TheVariants as ty
use Rattle.ps_kernel.specs.declared.expr.Expr.{Expr, map-Expr, rec-roll-Expr}
use Rattle.ps_kernel.specs.declared.expr.ExprKind.{ExprKind, map-ExprKind, rec-ExprKind, rec-roll-ExprKind, roll-ExprKind}
use Rattle.ps_kernel.specs.declared.expr.ExprKind.TheOpen.{ExprKind-F, Expr-F, Labelled-F}
use Rattle.ps_kernel.specs.declared.expr.Labelled.{Labelled, map-Labelled, rec-Labelled, rec-roll-Labelled, out-Labelled, roll-out-Labelled}
use Rattle.ps_kernel.specs.declared.kernel.Kernel.{Kernel}
use Rattle.ps_kernel.specs.declared.survivors.NumberedBlock.{NumberedBlock}
use Rattle.ps_kernel.specs.Marks.{body_of}
use Rattle.ps_kernel.specs.Texts.{expr_at}
use Rattle.ps_typing.specs.Rules.{Typing, Text, Rule, joined, noted, each_typed, all_typed, sequence_typed, IsOperation, key_type, typed, typed_expr, typed_branch, types}
use Rattle.ps_typing.proofs.TreesByParts.{node}

module _ {X Y : Type 0} (h : Y → Rule) (w : X → Y) where
  each_at : (es : List X) (ts : List Ty) → each_typed (λ p. h (w p)) es ts ≡ each_typed h (map w es) ts
  each_at [] [] = refl
  each_at [] (t ∷ ts) = refl
  each_at (e ∷ es) [] = refl
  each_at (e ∷ es) (t ∷ ts) = λ r. joined (h (w e) t) (each_at es ts r)

  all_at : (es : List X) (u : Ty) → all_typed (λ p. h (w p)) es u ≡ all_typed h (map w es) u
  all_at [] u = refl
  all_at (e ∷ es) u = λ r. joined (h (w e) u) (all_at es u r)

  sequence_at : (es : List X) (u : Ty) → sequence_typed (λ p. h (w p)) es u ≡ sequence_typed h (map w es) u
  sequence_at [] u = refl
  sequence_at (e ∷ []) u = refl
  sequence_at (e ∷ f ∷ es) u = λ r is. (t : Ty) × joined (h (w e) t) (sequence_at (f ∷ es) u r) is

module _ (k : Kernel) (blocks : List NumberedBlock) (text : Text) (T : Typing) (mentions : ℕ → Ty → Type 0) where
  abbrev rule : (X Y Z : Type 0) → (X → ExprKind) → (Y → Expr) → (Z → Labelled) → (X → Rule) → (Y → Rule) → (Z → Rule) → ExprKind-F X Y Z → Rule
  rule = typed k blocks text T mentions

  natural : (X Y Z : Type 0) (v : X → ExprKind) (w : Y → Expr) (b : Z → Labelled) (i : ExprKind → Rule) (h : Expr → Rule) (g : Labelled → Rule) (x : ExprKind-F X Y Z)
      → rule X Y Z v w b (λ p. i (v p)) (λ p. h (w p)) (λ p. g (b p)) x ≡ rule ExprKind Expr Labelled (λ y. y) (λ y. y) (λ y. y) i h g (map-ExprKind X Y Z ExprKind Expr Labelled v w b x)
  natural X Y Z v w b i h g (ExprKind-F.Constant c) = refl
  natural X Y Z v w b i h g (ExprKind-F.Local x) = refl
  natural X Y Z v w b i h g (ExprKind-F.Global d) = refl
  natural X Y Z v w b i h g (ExprKind-F.Lambda l) = refl
  natural X Y Z v w b i h g (ExprKind-F.If p q r) = refl
  natural X Y Z v w b i h g (ExprKind-F.Let x p q) = refl
  natural X Y Z v w b i h g (ExprKind-F.Letrec es q) = refl
  natural X Y Z v w b i h g (ExprKind-F.Begin es) = λ r u. sequence_at h w es u r
  natural X Y Z v w b i h g (ExprKind-F.SetGlobal d p) = refl
  natural X Y Z v w b i h g (ExprKind-F.SetLocal x p) = refl
  natural X Y Z v w b i h g (ExprKind-F.Case kind p bs q) = λ r u is. joined (h (w p) (key_type kind)) (joined (all_at g b bs u r) (h (w q) u)) is
  natural X Y Z v w b i h g (ExprKind-F.Call f es) = λ r u is. (ts : List Ty) × joined (h (w f) (ty.Proc ts u)) (each_at h w es ts r) is
  natural X Y Z v w b i h g (ExprKind-F.ProperCall f es) = λ r u is. (ts : List Ty) × joined (h (w f) (ty.Proc ts u)) (each_at h w es ts r) is
  natural X Y Z v w b i h g (ExprKind-F.Primitive p es) = λ r u is. (ts : List Ty) × IsOperation k.kinds p ts u × each_at h w es ts r is

  natural_expr : (X Y Z : Type 0) (v : X → ExprKind) (w : Y → Expr) (b : Z → Labelled) (i : ExprKind → Rule) (h : Expr → Rule) (g : Labelled → Rule) (x : Expr-F X Y Z)
      → typed_expr k blocks text T mentions X Y Z v w b (λ p. i (v p)) (λ p. h (w p)) (λ p. g (b p)) x
      ≡ typed_expr k blocks text T mentions ExprKind Expr Labelled (λ y. y) (λ y. y) (λ y. y) i h g (map-Expr X Y Z ExprKind Expr Labelled v w b x)
  natural_expr X Y Z v w b i h g x = refl

  natural_branch : (X Y Z : Type 0) (v : X → ExprKind) (w : Y → Expr) (b : Z → Labelled) (i : ExprKind → Rule) (h : Expr → Rule) (g : Labelled → Rule) (x : Labelled-F X Y Z)
      → typed_branch k blocks text T mentions X Y Z v w b (λ p. i (v p)) (λ p. h (w p)) (λ p. g (b p)) x
      ≡ typed_branch k blocks text T mentions ExprKind Expr Labelled (λ y. y) (λ y. y) (λ y. y) i h g (map-Labelled X Y Z ExprKind Expr Labelled v w b x)
  natural_branch X Y Z v w b i h g x = refl

  abbrev all : Expr → Rule
  all = types k blocks text T mentions

  abbrev kind_types : ExprKind → Rule
  kind_types = rec-ExprKind Rule Rule Rule rule (typed_expr k blocks text T mentions) (typed_branch k blocks text T mentions)

  abbrev branch_types : Labelled → Rule
  branch_types = rec-Labelled Rule Rule Rule rule (typed_expr k blocks text T mentions) (typed_branch k blocks text T mentions)

  at_branch : (b : Labelled) → branch_types b ≡ all (body_of b)
  at_branch b = ap branch_types (sym (roll-out-Labelled b)) ∙ rec-roll-Labelled Rule Rule Rule rule (typed_expr k blocks text T mentions) (typed_branch k blocks text T mentions) natural_branch (out-Labelled b)

  -- what the rules say of one layer
  abbrev pub Layer : ExprKind-F ExprKind Expr Labelled → Rule
  Layer = typed k blocks text T mentions ExprKind Expr Labelled (λ y. y) (λ y. y) (λ y. y) kind_types all (λ b. all (body_of b))

  at_kind : (x : ExprKind-F ExprKind Expr Labelled) → kind_types (roll-ExprKind x) ≡ Layer x
  at_kind x = rec-roll-ExprKind Rule Rule Rule rule (typed_expr k blocks text T mentions) (typed_branch k blocks text T mentions) natural x
      ∙ (λ r. rule ExprKind Expr Labelled (λ y. y) (λ y. y) (λ y. y) kind_types all (λ b. at_branch b r) x)

  at_types : (at : Place) (x : ExprKind-F ExprKind Expr Labelled) → all (node at x) ≡ (λ u is. noted u (Layer x u) is)
  at_types at x = rec-roll-Expr Rule Rule Rule rule (typed_expr k blocks text T mentions) (typed_branch k blocks text T mentions) natural_expr (record { place = at; kind = roll-ExprKind x })
      ∙ (λ r u is. noted u (at_kind x r u) is)

  pub opened : (at : Place) (x : ExprKind-F ExprKind Expr Labelled) (u : Ty) (is : List Ty) → all (node at x) u is → noted u (Layer x u) is
  opened at x u is h = subst (λ (p : Rule). p u is) (at_types at x) h

  pub made : (at : Place) (x : ExprKind-F ExprKind Expr Labelled) (u : Ty) (is : List Ty) → noted u (Layer x u) is → all (node at x) u is
  made at x u is h = subst (λ (p : Rule). p u is) (sym (at_types at x)) h

  -- the same where the expression is given by its kind
  pub opened_at : (at : Place) (q : ExprKind) (x : ExprKind-F ExprKind Expr Labelled) → roll-ExprKind x ≡ q → (u : Ty) (is : List Ty) → all (expr_at at q) u is → noted u (Layer x u) is
  opened_at at q x e u is h = opened at x u is (subst (λ (z : ExprKind). all (expr_at at z) u is) (sym e) h)

  pub made_at : (at : Place) (q : ExprKind) (x : ExprKind-F ExprKind Expr Labelled) → roll-ExprKind x ≡ q → (u : Ty) (is : List Ty) → noted u (Layer x u) is → all (expr_at at q) u is
  made_at at q x e u is h = subst (λ (z : ExprKind). all (expr_at at z) u is) e (made at x u is h)
