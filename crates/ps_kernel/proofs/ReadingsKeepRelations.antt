-- What is kept by each step of a reading holds of the marks of every piece.
-- For: `lambdas_have_places`, `bodies_are_scoped` and `cases_unfold`
--
-- A relation is between the marks of a piece, read to some levels with some locals in scope, and those of the same piece,
-- read with others in scope and to d levels more.
use Rattle.std.proofs.Common.{◌≡◌, ℕ, zero, suc, ◌≤◌, Bool, true, false, List, [], ◌∷◌, ◌++◌, length, map, Option, Some, None, slice_get, refl, subst, ◌+◌, arith}
use Rattle.ps_base.specs.declared.faults.Place.{Place}
use Rattle.ps_kernel.specs.declared.expr.Constant.{Constant}
use Rattle.ps_kernel.specs.declared.expr.Constant.TheVariants as c
use Rattle.ps_kernel.specs.declared.expr.GroupEntry.{GroupEntry}
use Rattle.ps_kernel.specs.declared.expr.Expr.{Expr, out-Expr}
use Rattle.ps_kernel.specs.declared.expr.ExprKind.{ExprKind, out-ExprKind}
use Rattle.ps_kernel.specs.declared.expr.ExprKind.TheOpen.{ExprKind-F}
use Rattle.ps_kernel.specs.declared.expr.Labelled.{Labelled}
use Rattle.ps_kernel.specs.declared.kernel.Form.{Form}
use Rattle.ps_kernel.specs.declared.kernel.Kernel.{Kernel}
use Rattle.ps_kernel.specs.declared.kernel.Lambda.{Lambda}
use Rattle.ps_kernel.specs.Most.{most_depth}
use Rattle.ps_kernel.specs.Marks.{Mark, Node, TooDeep, Stands, BindsParameter, BindsLet, BindsEntry, Mentions, Sets, Reads, Assigns, Quotes, Sequence, Replaces, Performs, Chooses, Piece, Whole, Choice, AnyOf, Same, Atom, place_of, choice_of, test_of, labels_of, body_of, locals_of, constant_marks, sequence_marks, part_marks, body_marks, lambda_marks, group_marks, kind_marks, layer, marks}
use Rattle.ps_kernel.specs.Texts.{expr_of, form_marks}

-- a mark that says nothing of locals, lambdas and levels
abbrev pub is_plain : Mark → Bool
is_plain TooDeep = false
is_plain (Stands l g) = false
is_plain (BindsParameter x) = false
is_plain (BindsLet x) = false
is_plain (BindsEntry e) = false
is_plain (Mentions x scope) = false
is_plain (Sets x scope) = false
is_plain m = true

abbrev pub Relation : Type 1
Relation = List ℕ → List Mark → List ℕ → List Mark → Type 0

-- what a relation keeps; inside of a letrec something may be known of its group
pub record Kept (k : Kernel) (d : ℕ) (Shared : List GroupEntry → Type 0) (R : Relation) : Type 0 where
  pub alone : Shared []
  pub nothing : (s t : List ℕ) → R s [] t []
  pub append : (s t : List ℕ) (a b c d : List Mark) → R s a t c → R s b t d → R s (a ++ b) t (c ++ d)
  pub deep : (s t : List ℕ) (tail : Bool) (p : Piece) → R s (TooDeep ∷ []) t (marks k d tail t p)
  pub plain : (s t : List ℕ) (m : Mark) → is_plain m ≡ true → R s (m ∷ []) t (m ∷ [])
  pub mentions : (s t : List ℕ) (x : ℕ) → R s (Mentions x s ∷ []) t (Mentions x t ∷ [])
  pub sets : (s t : List ℕ) (x : ℕ) → R s (Sets x s ∷ []) t (Sets x t ∷ [])
  pub parameters : (s t xs : List ℕ) (ms ns : List Mark) → R (xs ++ s) ms (xs ++ t) ns → R s (map BindsParameter xs ++ ms) t (map BindsParameter xs ++ ns)
  pub lets : (s t : List ℕ) (x : ℕ) (ms ns : List Mark) → R (x ∷ s) ms (x ∷ t) ns → R s (BindsLet x ∷ ms) t (BindsLet x ∷ ns)
  pub letrecs : (n : ℕ) → n ≤ most_depth → (s t : List ℕ) (g : List GroupEntry) (ms ns : List Mark)
      → (Shared g → R (locals_of g ++ s) (group_marks k (marks k n) (locals_of g ++ s) g g ++ ms) (locals_of g ++ t) ns)
      → R s (map BindsEntry g ++ (group_marks k (marks k n) (locals_of g ++ s) g g ++ ms)) t (map BindsEntry g ++ ns)
  pub lambdas : (n : ℕ) → n ≤ most_depth → (s t : List ℕ) (l : ℕ) (g : List GroupEntry) → Shared g → (ms : List Mark) → R s (body_marks (marks k n) s (slice_get k.lambdas l)) t ms
      → R s (Stands l g ∷ body_marks (marks k n) s (slice_get k.lambdas l)) t (Stands l g ∷ ms)

module _ (k : Kernel) (d : ℕ) (Shared : List GroupEntry → Type 0) (R : Relation) (kept : Kept k d Shared R) where
  module _ (n m : ℕ) (small : n ≤ most_depth) (inner : (tail : Bool) (s t : List ℕ) (p : Piece) → R s (marks k n tail s p) t (marks k m tail t p)) where
    before : (s t : List ℕ) (x : Mark) (ms ns : List Mark) → is_plain x ≡ true → R s ms t ns → R s (x ∷ ms) t (x ∷ ns)
    before s t x ms ns h r = kept.append s t (x ∷ []) ms (x ∷ []) ns (kept.plain s t x h) r

    constant : (s t : List ℕ) (at : Place) (q : Constant) → R s (constant_marks at q) t (constant_marks at q)
    constant s t at (c.Integer i) = kept.nothing s t
    constant s t at (c.Boolean b) = kept.nothing s t
    constant s t at (c.Char b) = kept.nothing s t
    constant s t at c.Unit = kept.nothing s t
    constant s t at c.NullAddress = kept.nothing s t
    constant s t at (c.Quoted q) = kept.plain s t (Quotes at q) refl

    parts : (s t : List ℕ) (es : List Expr) → R s (part_marks (marks k n) s es) t (part_marks (marks k m) t es)
    parts s t [] = kept.nothing s t
    parts s t (e ∷ es) = kept.append s t (marks k n false s (Whole e)) (part_marks (marks k n) s es) (marks k m false t (Whole e)) (part_marks (marks k m) t es) (inner false s t (Whole e)) (parts s t es)

    sequence : (tail : Bool) (s t : List ℕ) (es : List Expr) → R s (sequence_marks (marks k n) tail s es) t (sequence_marks (marks k m) tail t es)
    sequence tail s t [] = kept.nothing s t
    sequence tail s t (e ∷ []) = inner tail s t (Whole e)
    sequence tail s t (e ∷ d ∷ es) = kept.append s t (marks k n false s (Whole e)) (sequence_marks (marks k n) tail s (d ∷ es)) (marks k m false t (Whole e)) (sequence_marks (marks k m) tail t (d ∷ es)) (inner false s t (Whole e)) (sequence tail s t (d ∷ es))

    body : (s t : List ℕ) (b : Option Lambda) → R s (body_marks (marks k n) s b) t (body_marks (marks k m) t b)
    body s t None = kept.nothing s t
    body s t (Some b) = kept.parameters s t b.parameters (marks k n true (b.parameters ++ s) (Whole b.body)) (marks k m true (b.parameters ++ t) (Whole b.body)) (inner true (b.parameters ++ s) (b.parameters ++ t) (Whole b.body))

    lambda : (s t : List ℕ) (g : List GroupEntry) → Shared g → (l : ℕ) → R s (lambda_marks k (marks k n) s g l) t (lambda_marks k (marks k m) t g l)
    lambda s t g h l = kept.lambdas n small s t l g h (body_marks (marks k m) t (slice_get k.lambdas l)) (body s t (slice_get k.lambdas l))

    group : (s t : List ℕ) (g : List GroupEntry) → Shared g → (es : List GroupEntry) → R s (group_marks k (marks k n) s g es) t (group_marks k (marks k m) t g es)
    group s t g h [] = kept.nothing s t
    group s t g h (e ∷ es) = kept.append s t (lambda_marks k (marks k n) s g e.lambda) (group_marks k (marks k n) s g es) (lambda_marks k (marks k m) t g e.lambda) (group_marks k (marks k m) t g es) (lambda s t g h e.lambda) (group s t g h es)

    two : (a b : Bool) (s t : List ℕ) (p q : Piece) → R s (marks k n a s p ++ marks k n b s q) t (marks k m a t p ++ marks k m b t q)
    two a b s t p q = kept.append s t (marks k n a s p) (marks k n b s q) (marks k m a t p) (marks k m b t q) (inner a s t p) (inner b s t q)

    three : (a b : Bool) (s t : List ℕ) (p q r : Piece) → R s (marks k n a s p ++ (marks k n b s q ++ marks k n b s r)) t (marks k m a t p ++ (marks k m b t q ++ marks k m b t r))
    three a b s t p q r = kept.append s t (marks k n a s p) (marks k n b s q ++ marks k n b s r) (marks k m a t p) (marks k m b t q ++ marks k m b t r) (inner a s t p) (two b b s t q r)

    call : (s t : List ℕ) (f : Expr) (es : List Expr) → R s (marks k n false s (Whole f) ++ part_marks (marks k n) s es) t (marks k m false t (Whole f) ++ part_marks (marks k m) t es)
    call s t f es = kept.append s t (marks k n false s (Whole f)) (part_marks (marks k n) s es) (marks k m false t (Whole f)) (part_marks (marks k m) t es) (inner false s t (Whole f)) (parts s t es)

    kind : (tail : Bool) (s t : List ℕ) (at : Place) (y : ExprKind-F ExprKind Expr Labelled) → R s (kind_marks k (marks k n) tail s at y) t (kind_marks k (marks k m) tail t at y)
    kind tail s t at (ExprKind-F.Constant q) = constant s t at q
    kind tail s t at (ExprKind-F.Local x) = kept.mentions s t x
    kind tail s t at (ExprKind-F.Global g) = kept.plain s t (Reads at g) refl
    kind tail s t at (ExprKind-F.Lambda l) = lambda s t [] kept.alone l
    kind tail s t at (ExprKind-F.If a b d) = three false tail s t (Whole a) (Whole b) (Whole d)
    kind tail s t at (ExprKind-F.Let x a b) =
        kept.append s t (marks k n false s (Whole a)) (BindsLet x ∷ marks k n tail (x ∷ s) (Whole b)) (marks k m false t (Whole a)) (BindsLet x ∷ marks k m tail (x ∷ t) (Whole b)) (inner false s t (Whole a))
        (kept.lets s t x (marks k n tail (x ∷ s) (Whole b)) (marks k m tail (x ∷ t) (Whole b)) (inner tail (x ∷ s) (x ∷ t) (Whole b)))
    kind tail s t at (ExprKind-F.Letrec g b) =
        let u = locals_of g ++ s in
        let v = locals_of g ++ t in
        kept.letrecs n small s t g (marks k n tail u (Whole b)) (group_marks k (marks k m) v g g ++ marks k m tail v (Whole b))
        (λ h. kept.append u v (group_marks k (marks k n) u g g) (marks k n tail u (Whole b)) (group_marks k (marks k m) v g g) (marks k m tail v (Whole b)) (group u v g h g) (inner tail u v (Whole b)))
    kind tail s t at (ExprKind-F.Begin es) = before s t (Sequence (length es)) (sequence_marks (marks k n) tail s es) (sequence_marks (marks k m) tail t es) refl (sequence tail s t es)
    kind tail s t at (ExprKind-F.SetGlobal g a) = before s t (Assigns at g) (marks k n false s (Whole a)) (marks k m false t (Whole a)) refl (inner false s t (Whole a))
    kind tail s t at (ExprKind-F.SetLocal x a) = kept.append s t (Sets x s ∷ []) (marks k n false s (Whole a)) (Sets x t ∷ []) (marks k m false t (Whole a)) (kept.sets s t x) (inner false s t (Whole a))
    kind tail s t at (ExprKind-F.Case q a bs e) = before s t (Chooses q bs) (marks k n false s (Whole a) ++ marks k n tail s (choice_of at bs e)) (marks k m false t (Whole a) ++ marks k m tail t (choice_of at bs e)) refl (two false tail s t (Whole a) (choice_of at bs e))
    kind tail s t at (ExprKind-F.Call f es) = call s t f es
    kind tail s t at (ExprKind-F.ProperCall f es) = before s t (Replaces tail) (marks k n false s (Whole f) ++ part_marks (marks k n) s es) (marks k m false t (Whole f) ++ part_marks (marks k m) t es) refl (call s t f es)
    kind tail s t at (ExprKind-F.Primitive p es) = before s t (Performs at p (length es)) (part_marks (marks k n) s es) (part_marks (marks k m) t es) refl (parts s t es)

    layers : (tail : Bool) (s t : List ℕ) (p : Piece) → R s (layer k (marks k n) tail s p) t (layer k (marks k m) tail t p)
    layers tail s t (Whole e) = kind tail s t (out-Expr e).place (out-ExprKind (out-Expr e).kind)
    layers tail s t (Choice at b bs e) = three false tail s t (test_of at (labels_of b)) (Whole (body_of b)) (choice_of at bs e)
    layers tail s t (AnyOf at ls) = three false tail s t (Same at) (Atom at) (test_of at ls)
    layers tail s t (Same at) = two false false s t (Atom at) (Atom at)
    layers tail s t (Atom at) = kept.nothing s t

  pub reads : (n m : ℕ) → m ≡ n + d → n ≤ most_depth → (tail : Bool) (s t : List ℕ) (p : Piece) → R s (marks k n tail s p) t (marks k m tail t p)
  unfolding marks
  reads zero m is small tail s t p = let e : d ≡ m = omega (arith, is) in subst (λ (z : ℕ). R s (TooDeep ∷ []) t (marks k z tail t p)) e (kept.deep s t tail p)
  reads (suc n) zero is small tail s t p = absurd (omega (arith, is))
  reads (suc n) (suc m) is small tail s t p =
      kept.append s t (Node (place_of p) ∷ []) (layer k (marks k n) tail s p) (Node (place_of p) ∷ []) (layer k (marks k m) tail t p) (kept.plain s t (Node (place_of p)) refl)
      (layers n m (omega arith) (reads n m (omega (arith, is)) (omega arith)) tail s t p)

  -- the bodies of lambdas, and forms
  pub reads_body : (n m : ℕ) → m ≡ n + d → n ≤ most_depth → (s t : List ℕ) (b : Option Lambda) → R s (body_marks (marks k n) s b) t (body_marks (marks k m) t b)
  reads_body n m is small s t b = body n m small (reads n m is small) s t b

  pub reads_forms : d ≡ 0 → (n : ℕ) → n ≤ most_depth → (fs : List Form) → R [] (form_marks k n fs) [] (form_marks k n fs)
  reads_forms none n small [] = kept.nothing [] []
  reads_forms none n small (f ∷ fs) = kept.append [] [] (marks k n false [] (Whole (expr_of f))) (form_marks k n fs) (marks k n false [] (Whole (expr_of f))) (form_marks k n fs) (reads n n (omega (arith, none)) small false [] [] (Whole (expr_of f))) (reads_forms none n small fs)
