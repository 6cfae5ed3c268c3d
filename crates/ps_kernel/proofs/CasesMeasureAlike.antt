-- A case has the measure of what it unfolds to.
-- For: `cases_unfold`
use Rattle.std.proofs.Common.{◌≡◌, ℕ, zero, suc, ◌≤◌, ℤ, Bool, true, false, List, [], ◌∷◌, ◌++◌, map, slice_get, refl, sym, ap, ◌∙◌, arith}
use Rattle.std.specs.Prelude.{nat_abs}
use Rattle.ps_base.specs.declared.faults.Place.{Place}
use Rattle.ps_kernel.specs.declared.expr.CaseKind.{CaseKind}
use Rattle.ps_kernel.specs.declared.expr.CaseKind.TheVariants as kinds
use Rattle.ps_kernel.specs.declared.expr.Constant.TheVariants as constants
use Rattle.ps_kernel.specs.declared.expr.GroupEntry.{GroupEntry}
use Rattle.ps_kernel.specs.declared.expr.Expr.{Expr, out-roll-Expr}
use Rattle.ps_kernel.specs.declared.expr.ExprKind.{ExprKind, out-ExprKind}
use Rattle.ps_kernel.specs.declared.expr.ExprKind.TheOpen.{ExprKind-F, Expr-F}
use Rattle.ps_kernel.specs.declared.expr.ExprKind.TheVariants as v
use Rattle.ps_kernel.specs.declared.expr.Labelled.{Labelled}
use Rattle.ps_kernel.specs.declared.kernel.Kernel.{Kernel}
use Rattle.ps_kernel.specs.Most.{most_depth}
use Rattle.ps_kernel.specs.Marks.{Mark, Node, TooDeep, Stands, BindsParameter, BindsLet, BindsEntry, Replaces, Piece, Whole, Choice, AnyOf, Same, Atom, place_of, choice_of, test_of, labels_of, body_of, locals_of, body_marks, group_marks, kind_marks, layer, marks}
use Rattle.ps_kernel.specs.Texts.{expr_at}
use Rattle.ps_kernel.specs.Unfold.{comparison, constant_of, equals, is_one, ifs, unfolded, measured}
use Rattle.ps_kernel.proofs.ReadingsKeepRelations.{Kept, reads}

measured_append : (a b : List Mark) → measured (a ++ b) ≡ measured a ++ measured b
measured_append [] b = refl
measured_append (Node at ∷ a) b = ap (λ (ms : List Mark). Node at ∷ ms) (measured_append a b)
measured_append (TooDeep ∷ a) b = ap (λ (ms : List Mark). TooDeep ∷ ms) (measured_append a b)
measured_append (Replaces tail ∷ a) b = ap (λ (ms : List Mark). Replaces tail ∷ ms) (measured_append a b)
measured_append (m ∷ a) b = measured_append a b

-- two texts of one measure
record Even (s : List ℕ) (ms : List Mark) (t : List ℕ) (ns : List Mark) : Type 0 where
  same : measured ms ≡ measured ns

even_append : (s t : List ℕ) (a b c d : List Mark) → Even s a t c → Even s b t d → Even s (a ++ b) t (c ++ d)
even_append s t a b c d p q = record { same = measured_append a b ∙ ap (λ (ms : List Mark). ms ++ measured b) p.same ∙ ap (λ (ms : List Mark). measured c ++ ms) q.same ∙ sym (measured_append c d) }

even_behind : (s t u v : List ℕ) (b ms ns : List Mark) → Even u ms v ns → Even s (b ++ ms) t (b ++ ns)
even_behind s t u v b ms ns p = record { same = measured_append b ms ∙ ap (λ (xs : List Mark). measured b ++ xs) p.same ∙ sym (measured_append b ns) }

module _ (k : Kernel) where
  too_deep : (s t : List ℕ) (tail : Bool) (p : Piece) → Even s (TooDeep ∷ []) t (marks k 0 tail t p)
  unfolding marks
  too_deep s t tail p = record { same = refl }

  evens : Kept k 0 (λ g. Unit {0}) Even
  evens = record {
    alone = tt;
    nothing = λ s t. record { same = refl };
    append = even_append;
    deep = too_deep;
    plain = λ s t m h. record { same = refl };
    mentions = λ s t x. record { same = refl };
    sets = λ s t x. record { same = refl };
    parameters = λ s t xs ms ns r. even_behind s t (xs ++ s) (xs ++ t) (map BindsParameter xs) ms ns r;
    lets = λ s t x ms ns r. even_behind s t (x ∷ s) (x ∷ t) (BindsLet x ∷ []) ms ns r;
    letrecs = λ n small s t g ms ns r. even_behind s t (locals_of g ++ s) (locals_of g ++ t) (map BindsEntry g) (group_marks k (marks k n) (locals_of g ++ s) g g ++ ms) ns (r tt);
    lambdas = λ n small s t l g h ms r. even_behind s t s t (Stands l g ∷ []) (body_marks (marks k n) s (slice_get k.lambdas l)) ms r;
  }

  -- what is in scope changes no measure
  even : (n : ℕ) → n ≤ most_depth → (tail : Bool) (s t : List ℕ) (p : Piece) → measured (marks k n tail s p) ≡ measured (marks k n tail t p)
  even n small tail s t p = (reads k 0 (λ (g : List GroupEntry). Unit {0}) Even evens n n (omega arith) small tail s t p).same

  at_node : (n : ℕ) (tail : Bool) (s : List ℕ) (at : Place) (x : ExprKind) (y : ExprKind-F ExprKind Expr Labelled) → out-ExprKind x ≡ y → marks k (suc n) tail s (Whole (expr_at at x)) ≡ Node at ∷ kind_marks k (marks k n) tail s at y
  unfolding marks
  at_node n tail s at x y is =
      ap (λ (z : Expr-F ExprKind Expr Labelled). Node z.place ∷ kind_marks k (marks k n) tail s z.place (out-ExprKind z.kind)) (out-roll-Expr (record { place = at; kind = x }))
      ∙ ap (λ (z : ExprKind-F ExprKind Expr Labelled). Node at ∷ kind_marks k (marks k n) tail s at z) is

  at_zero : (tail : Bool) (s : List ℕ) (p : Piece) → marks k 0 tail s p ≡ TooDeep ∷ []
  unfolding marks
  at_zero tail s p = refl

  at_piece : (n : ℕ) (tail : Bool) (s : List ℕ) (p : Piece) → marks k (suc n) tail s p ≡ Node (place_of p) ∷ layer k (marks k n) tail s p
  unfolding marks
  at_piece n tail s p = refl

  -- at the last level all are alike
  both_zero : (a b : Bool) (s t : List ℕ) (p q : Piece) → measured (marks k 0 a s p) ≡ measured (marks k 0 b t q)
  both_zero a b s t p q = ap measured (at_zero a s p) ∙ sym (ap measured (at_zero b t q))

  module _ (at : Place) (kind : CaseKind) (hidden : ℕ) where
    -- an expression that has no parts, and no mark of a measure but its own
    of_atom : (n : ℕ) (tail : Bool) (s t : List ℕ) (x : ExprKind) (y : ExprKind-F ExprKind Expr Labelled) → out-ExprKind x ≡ y → ((m : ℕ) → measured (kind_marks k (marks k m) tail s at y) ≡ [])
        → measured (marks k n tail s (Whole (expr_at at x))) ≡ measured (marks k n tail t (Atom at))
    of_atom zero tail s t x y is h = both_zero tail tail s t (Whole (expr_at at x)) (Atom at)
    of_atom (suc n) tail s t x y is h = ap measured (at_node n tail s at x y is) ∙ ap (λ (ms : List Mark). Node at ∷ ms) (h n) ∙ sym (ap measured (at_piece n tail t (Atom at)))

    of_label : (l : ℤ) (n : ℕ) (tail : Bool) (s t : List ℕ) → measured (marks k n tail s (Whole (expr_at at (v.Constant (constant_of kind l))))) ≡ measured (marks k n tail t (Atom at))
    of_label l n tail s t = by kind
      where
        by : (q : CaseKind) → measured (marks k n tail s (Whole (expr_at at (v.Constant (constant_of q l))))) ≡ measured (marks k n tail t (Atom at))
        by kinds.Integer = of_atom n tail s t (v.Constant (constants.Integer l)) (ExprKind-F.Constant (constants.Integer l)) (v.outs-Constant (constants.Integer l)) (λ m. refl)
        by kinds.Char = of_atom n tail s t (v.Constant (constants.Char (nat_abs l))) (ExprKind-F.Constant (constants.Char (nat_abs l))) (v.outs-Constant (constants.Char (nat_abs l))) (λ m. refl)

    of_equals : (l : ℤ) (n : ℕ) (tail : Bool) (s t : List ℕ) → measured (marks k n tail s (Whole (equals at kind hidden l))) ≡ measured (marks k n tail t (Same at))
    of_equals l zero tail s t = both_zero tail tail s t (Whole (equals at kind hidden l)) (Same at)
    of_equals l (suc n) tail s t =
        let x = expr_at at (v.Local hidden) in
        let q = expr_at at (v.Constant (constant_of kind l)) in
        let a = marks k n false s (Whole x) in
        let b = marks k n false s (Whole q) in
        let c = marks k n false t (Atom at) in
        ap measured (at_node n tail s at (v.Primitive (comparison kind) (x ∷ q ∷ [])) (ExprKind-F.Primitive (comparison kind) (x ∷ q ∷ [])) (v.outs-Primitive (comparison kind) (x ∷ q ∷ [])))
        ∙ ap (λ (ms : List Mark). Node at ∷ ms) (measured_append a (b ++ []) ∙ ap (λ (ms : List Mark). ms ++ measured (b ++ [])) (of_atom n false s t (v.Local hidden) (ExprKind-F.Local hidden) (v.outs-Local hidden) (λ m. refl))
        ∙ ap (λ (ms : List Mark). measured c ++ ms) (measured_append b [] ∙ none (measured b) ∙ of_label l n false s t) ∙ sym (measured_append c c))
        ∙ sym (ap measured (at_piece n tail t (Same at)))
      where
        none : (ms : List Mark) → ms ++ [] ≡ ms
        none [] = refl
        none (m ∷ ms) = ap (λ (xs : List Mark). m ∷ xs) (none ms)

    -- three pieces, one behind the other
    three : (a b c d e f : List Mark) → measured a ≡ measured d → measured b ≡ measured e → measured c ≡ measured f → measured (a ++ (b ++ c)) ≡ measured (d ++ (e ++ f))
    three a b c d e f p q r =
        measured_append a (b ++ c) ∙ ap (λ (ms : List Mark). measured a ++ ms) (measured_append b c) ∙ ap (λ (ms : List Mark). ms ++ (measured b ++ measured c)) p ∙ ap (λ (ms : List Mark). measured d ++ (ms ++ measured c)) q
        ∙ ap (λ (ms : List Mark). measured d ++ (measured e ++ ms)) r ∙ ap (λ (ms : List Mark). measured d ++ ms) (sym (measured_append e f)) ∙ sym (measured_append d (e ++ f))

    of_test : (n : ℕ) (tail : Bool) (s t : List ℕ) (ls : List ℤ) → measured (marks k n tail s (Whole (is_one at kind hidden ls))) ≡ measured (marks k n tail t (test_of at ls))
    of_test n tail s t [] = of_atom n tail s t (v.Constant (constants.Boolean false)) (ExprKind-F.Constant (constants.Boolean false)) (v.outs-Constant (constants.Boolean false)) (λ m. refl)
    of_test n tail s t (l ∷ []) = of_equals l n tail s t
    of_test zero tail s t (l ∷ m ∷ ls) = both_zero tail tail s t (Whole (is_one at kind hidden (l ∷ m ∷ ls))) (AnyOf at (m ∷ ls))
    of_test (suc n) tail s t (l ∷ m ∷ ls) =
        let yes = expr_at at (v.Constant (constants.Boolean true)) in
        let rest = is_one at kind hidden (m ∷ ls) in
        ap measured (at_node n tail s at (v.If (equals at kind hidden l) yes rest) (ExprKind-F.If (equals at kind hidden l) yes rest) (v.outs-If (equals at kind hidden l) yes rest))
        ∙ ap (λ (ms : List Mark). Node at ∷ ms) (three (marks k n false s (Whole (equals at kind hidden l))) (marks k n tail s (Whole yes)) (marks k n tail s (Whole rest)) (marks k n false t (Same at)) (marks k n tail t (Atom at)) (marks k n tail t (test_of at (m ∷ ls)))
        (of_equals l n false s t) (of_atom n tail s t (v.Constant (constants.Boolean true)) (ExprKind-F.Constant (constants.Boolean true)) (v.outs-Constant (constants.Boolean true)) (λ m. refl)) (of_test n tail s t (m ∷ ls)))
        ∙ sym (ap measured (at_piece n tail t (AnyOf at (m ∷ ls))))

    of_ifs : (n : ℕ) → n ≤ most_depth → (tail : Bool) (s t : List ℕ) (bs : List Labelled) (e : Expr) → measured (marks k n tail s (Whole (ifs at kind hidden bs e))) ≡ measured (marks k n tail t (choice_of at bs e))
    of_ifs n small tail s t [] e = even n small tail s t (Whole e)
    of_ifs zero small tail s t (b ∷ bs) e = both_zero tail tail s t (Whole (ifs at kind hidden (b ∷ bs) e)) (Choice at b bs e)
    of_ifs (suc n) small tail s t (b ∷ bs) e =
        let test = is_one at kind hidden (labels_of b) in
        let rest = ifs at kind hidden bs e in
        ap measured (at_node n tail s at (v.If test (body_of b) rest) (ExprKind-F.If test (body_of b) rest) (v.outs-If test (body_of b) rest))
        ∙ ap (λ (ms : List Mark). Node at ∷ ms) (three (marks k n false s (Whole test)) (marks k n tail s (Whole (body_of b))) (marks k n tail s (Whole rest)) (marks k n false t (test_of at (labels_of b))) (marks k n tail t (Whole (body_of b))) (marks k n tail t (choice_of at bs e))
        (of_test n false s t (labels_of b)) (even n (omega arith) tail s t (Whole (body_of b))) (of_ifs n (omega arith) tail s t bs e))
        ∙ sym (ap measured (at_piece n tail t (Choice at b bs e)))

    pub case_unfolds : (a : Expr) (bs : List Labelled) (e : Expr) (n : ℕ) → n ≤ most_depth → (tail : Bool) (s : List ℕ) → measured (marks k n tail s (Whole (unfolded at kind hidden a bs e))) ≡ measured (marks k n tail s (Whole (expr_at at (v.Case kind a bs e))))
    case_unfolds a bs e zero small tail s = both_zero tail tail s s (Whole (unfolded at kind hidden a bs e)) (Whole (expr_at at (v.Case kind a bs e)))
    case_unfolds a bs e (suc n) small tail s =
        let x = marks k n false s (Whole a) in
        ap measured (at_node n tail s at (v.Let hidden a (ifs at kind hidden bs e)) (ExprKind-F.Let hidden a (ifs at kind hidden bs e)) (v.outs-Let hidden a (ifs at kind hidden bs e)))
        ∙ ap (λ (ms : List Mark). Node at ∷ ms) (measured_append x (BindsLet hidden ∷ marks k n tail (hidden ∷ s) (Whole (ifs at kind hidden bs e))) ∙ ap (λ (ms : List Mark). measured x ++ ms) (of_ifs n (omega arith) tail (hidden ∷ s) s bs e) ∙ sym (measured_append x (marks k n tail s (choice_of at bs e))))
        ∙ sym (ap measured (at_node n tail s at (v.Case kind a bs e) (ExprKind-F.Case kind a bs e) (v.outs-Case kind a bs e)))
