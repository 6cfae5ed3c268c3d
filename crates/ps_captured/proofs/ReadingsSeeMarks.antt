-- A reading sees what the marks of a text show.
-- For: `first_fixed_set` and `capture`
use Rattle.std.proofs.Common.{◌≡◌, ℕ, ℤ, zero, suc, Bool, true, false, List, [], ◌∷◌, ◌++◌, map, Option, Some, None, slice_get, refl, sym, ap, subst, ◌∙◌}
use Rattle.std.specs.List.{fold}
use Rattle.std.proofs.lemmas.List.{append-nil, append_assoc}
use Rattle.ps_base.specs.declared.faults.Place.{Place}
use Rattle.ps_kernel.specs.declared.expr.Constant.{Constant}
use Rattle.ps_kernel.specs.declared.expr.Constant.TheVariants as c
use Rattle.ps_kernel.specs.declared.expr.GroupEntry.{GroupEntry}
use Rattle.ps_kernel.specs.declared.expr.Expr.{Expr, out-Expr}
use Rattle.ps_kernel.specs.declared.expr.ExprKind.{ExprKind, out-ExprKind}
use Rattle.ps_kernel.specs.declared.expr.ExprKind.TheOpen.{ExprKind-F}
use Rattle.ps_kernel.specs.declared.expr.Labelled.{Labelled}
use Rattle.ps_kernel.specs.declared.kernel.Kernel.{Kernel}
use Rattle.ps_kernel.specs.declared.kernel.Lambda.{Lambda}
use Rattle.ps_kernel.specs.declared.kernel.Form.{Form}
use Rattle.ps_kernel.specs.Most.{most_depth}
use Rattle.ps_kernel.specs.Marks.{Mark, Stands, BindsParameter, BindsLet, BindsEntry, Piece, Whole, Choice, AnyOf, Same, Atom, choice_of, test_of, labels_of, body_of, locals_of, constant_marks, sequence_marks, part_marks, body_marks, lambda_marks, group_marks, kind_marks, marks}
use Rattle.ps_kernel.specs.Texts.{lambda_text, expr_of, form_marks}
use Rattle.ps_captured.specs.FixedSets.{of_lambdas, text_of}
use Rattle.ps_captured.specs.InsideReading.{Sight, Stood, Bound, Assigned, shown, next, seen_in, Part, Entire, Branch, branch_of, put, put_bound, put_entry, read_parts, read_body, read_lambda, read_group, read_layer, read, read_forms, sights_of, sights_of_form}

abbrev behind : Place → List Mark → Place
behind at [] = at
behind at (m ∷ ms) = behind (next at m) ms

over : (at : Place) (a b : List Mark) → seen_in at (a ++ b) ≡ seen_in at a ++ seen_in (behind at a) b
over at [] b = refl
over at (m ∷ a) b = ap (λ (ss : List Sight). shown at m ++ ss) (over (next at m) a b) ∙ sym (append_assoc (shown at m) (seen_in (next at m) a) (seen_in (behind (next at m) a) b))

-- a reading adds what marks show
abbrev pub Sees : (List Sight → List Sight) → List Mark → Type 0
Sees f ms = (ss : List Sight) (at : Place) → f ss ≡ ss ++ seen_in at ms

nothing : Sees (λ ss. ss) []
nothing ss at = sym (append-nil ss)

two : (f g : List Sight → List Sight) (a b : List Mark) → Sees f a → Sees g b → Sees (λ ss. g (f ss)) (a ++ b)
two f g a b p q ss at =
    q (f ss) (behind at a) ∙ ap (λ (xs : List Sight). xs ++ seen_in (behind at a) b) (p ss at) ∙ append_assoc ss (seen_in at a) (seen_in (behind at a) b) ∙ ap (λ (xs : List Sight). ss ++ xs) (sym (over at a b))

module _ (k : Kernel) where
  module _ (n : ℕ) where
    abbrev inner : List Sight → Part → List Sight
    inner = read k.lambdas n

    binds : (xs : List ℕ) → Sees (λ ss. fold put_bound ss xs) (map BindsParameter xs)
    binds [] = nothing
    binds (x ∷ xs) = two (λ ss. put_bound ss x) (λ ss. fold put_bound ss xs) (BindsParameter x ∷ []) (map BindsParameter xs) (λ ss at. refl) (binds xs)

    enters : (g : List GroupEntry) → Sees (λ ss. fold put_entry ss g) (map BindsEntry g)
    enters [] = nothing
    enters (e ∷ g) = two (λ ss. put_entry ss e) (λ ss. fold put_entry ss g) (BindsEntry e ∷ []) (map BindsEntry g) (λ ss at. refl) (enters g)

    module _ (sees : (tail : Bool) (scope : List ℕ) (e : Expr) → Sees (λ ss. inner ss (Entire e)) (marks k n tail scope (Whole e))) where
      parts : (scope : List ℕ) (es : List Expr) → Sees (λ ss. read_parts inner ss es) (part_marks (marks k n) scope es)
      parts scope [] = nothing
      parts scope (e ∷ es) = two (λ ss. inner ss (Entire e)) (λ ss. read_parts inner ss es) (marks k n false scope (Whole e)) (part_marks (marks k n) scope es) (sees false scope e) (parts scope es)

      sequence : (tail : Bool) (scope : List ℕ) (es : List Expr) → Sees (λ ss. read_parts inner ss es) (sequence_marks (marks k n) tail scope es)
      sequence tail scope [] = nothing
      sequence tail scope (e ∷ []) = sees tail scope e
      sequence tail scope (e ∷ f ∷ es) = two (λ ss. inner ss (Entire e)) (λ ss. read_parts inner ss (f ∷ es)) (marks k n false scope (Whole e)) (sequence_marks (marks k n) tail scope (f ∷ es)) (sees false scope e) (sequence tail scope (f ∷ es))

      pub body : (scope : List ℕ) (m : Option Lambda) → Sees (λ ss. read_body inner ss m) (body_marks (marks k n) scope m)
      body scope None = nothing
      body scope (Some m) = two (λ ss. fold put_bound ss m.parameters) (λ ss. inner ss (Entire m.body)) (map BindsParameter m.parameters) (marks k n true (m.parameters ++ scope) (Whole m.body)) (binds m.parameters) (sees true (m.parameters ++ scope) m.body)

      lambda : (scope : List ℕ) (g : List GroupEntry) (l : ℕ) → Sees (λ ss. read_lambda k.lambdas inner ss g l) (lambda_marks k (marks k n) scope g l)
      lambda scope g l = two (λ ss. put ss (Stood l g)) (λ ss. read_body inner ss (slice_get k.lambdas l)) (Stands l g ∷ []) (body_marks (marks k n) scope (slice_get k.lambdas l)) (λ ss at. refl) (body scope (slice_get k.lambdas l))

      group : (scope : List ℕ) (g es : List GroupEntry) → Sees (λ ss. read_group k.lambdas inner ss g es) (group_marks k (marks k n) scope g es)
      group scope g [] = nothing
      group scope g (e ∷ es) = two (λ ss. read_lambda k.lambdas inner ss g e.lambda) (λ ss. read_group k.lambdas inner ss g es) (lambda_marks k (marks k n) scope g e.lambda) (group_marks k (marks k n) scope g es) (lambda scope g e.lambda) (group scope g es)

      call : (scope : List ℕ) (f : Expr) (es : List Expr) → Sees (λ ss. read_parts inner (inner ss (Entire f)) es) (marks k n false scope (Whole f) ++ part_marks (marks k n) scope es)
      call scope f es = two (λ ss. inner ss (Entire f)) (λ ss. read_parts inner ss es) (marks k n false scope (Whole f)) (part_marks (marks k n) scope es) (sees false scope f) (parts scope es)

      constant : (at : Place) (q : Constant) → Sees (λ ss. ss) (constant_marks at q)
      constant at (c.Integer i) = nothing
      constant at (c.Boolean b) = nothing
      constant at (c.Char b) = nothing
      constant at c.Unit = nothing
      constant at c.NullAddress = nothing
      constant at (c.Quoted q) = λ ss here. nothing ss here

      module _ (chooses : (tail : Bool) (scope : List ℕ) (at : Place) (bs : List Labelled) (e : Expr) → Sees (λ ss. inner ss (branch_of bs e)) (marks k n tail scope (choice_of at bs e))) where
        kind : (tail : Bool) (scope : List ℕ) (at : Place) (y : ExprKind-F ExprKind Expr Labelled) (ss : List Sight) → read_layer k.lambdas inner ss at y ≡ ss ++ seen_in at (kind_marks k (marks k n) tail scope at y)
        kind tail scope at (ExprKind-F.Constant q) ss = constant at q ss at
        kind tail scope at (ExprKind-F.Local x) ss = refl
        kind tail scope at (ExprKind-F.Global g) ss = nothing ss at
        kind tail scope at (ExprKind-F.Lambda l) ss = lambda scope [] l ss at
        kind tail scope at (ExprKind-F.If a b d) ss =
            two (λ ss. inner ss (Entire a)) (λ ss. inner (inner ss (Entire b)) (Entire d)) (marks k n false scope (Whole a)) (marks k n tail scope (Whole b) ++ marks k n tail scope (Whole d)) (sees false scope a)
            (two (λ ss. inner ss (Entire b)) (λ ss. inner ss (Entire d)) (marks k n tail scope (Whole b)) (marks k n tail scope (Whole d)) (sees tail scope b) (sees tail scope d)) ss at
        kind tail scope at (ExprKind-F.Let x a b) ss =
            two (λ ss. inner ss (Entire a)) (λ ss. inner (put ss (Bound x)) (Entire b)) (marks k n false scope (Whole a)) (BindsLet x ∷ marks k n tail (x ∷ scope) (Whole b)) (sees false scope a)
            (two (λ ss. put ss (Bound x)) (λ ss. inner ss (Entire b)) (BindsLet x ∷ []) (marks k n tail (x ∷ scope) (Whole b)) (λ ss at. refl) (sees tail (x ∷ scope) b)) ss at
        kind tail scope at (ExprKind-F.Letrec g b) ss =
            let u = locals_of g ++ scope in
            two (λ ss. fold put_entry ss g) (λ ss. inner (read_group k.lambdas inner ss g g) (Entire b)) (map BindsEntry g) (group_marks k (marks k n) u g g ++ marks k n tail u (Whole b)) (enters g)
            (two (λ ss. read_group k.lambdas inner ss g g) (λ ss. inner ss (Entire b)) (group_marks k (marks k n) u g g) (marks k n tail u (Whole b)) (group u g g) (sees tail u b)) ss at
        kind tail scope at (ExprKind-F.Begin es) ss = sequence tail scope es ss at
        kind tail scope at (ExprKind-F.SetGlobal g a) ss = sees false scope a ss at
        kind tail scope at (ExprKind-F.SetLocal x a) ss = sees false scope a (put ss (Assigned at x)) at ∙ append_assoc ss (Assigned at x ∷ []) (seen_in at (marks k n false scope (Whole a)))
        kind tail scope at (ExprKind-F.Case q a bs e) ss = two (λ ss. inner ss (Entire a)) (λ ss. inner ss (branch_of bs e)) (marks k n false scope (Whole a)) (marks k n tail scope (choice_of at bs e)) (sees false scope a) (chooses tail scope at bs e) ss at
        kind tail scope at (ExprKind-F.Call f es) ss = call scope f es ss at
        kind tail scope at (ExprKind-F.ProperCall f es) ss = call scope f es ss at
        kind tail scope at (ExprKind-F.Primitive p es) ss = parts scope es ss at

  -- the test of a branch shows nothing
  abbrev is_test : Piece → Bool
  is_test (Whole e) = false
  is_test (Choice at b bs e) = false
  is_test q = true

  tests : (at : Place) (ls : List ℤ) → is_test (test_of at ls) ≡ true
  tests at [] = refl
  tests at (l ∷ []) = refl
  tests at (l ∷ m ∷ ls) = refl

  silent : (n : ℕ) (tail : Bool) (scope : List ℕ) (q : Piece) → is_test q ≡ true → Sees (λ ss. ss) (marks k n tail scope q)
  unfolding marks
  silent zero tail scope q h ss at = nothing ss at
  silent (suc n) tail scope (Whole e) h ss at = absurd cc
  silent (suc n) tail scope (Choice here b bs e) h ss at = absurd cc
  silent (suc n) tail scope (AnyOf here ls) h ss at =
      two (λ ss. ss) (λ ss. ss) (marks k n false scope (Same here)) (marks k n tail scope (Atom here) ++ marks k n tail scope (test_of here ls)) (silent n false scope (Same here) refl)
      (two (λ ss. ss) (λ ss. ss) (marks k n tail scope (Atom here)) (marks k n tail scope (test_of here ls)) (silent n tail scope (Atom here) refl) (silent n tail scope (test_of here ls) (tests here ls))) ss here
  silent (suc n) tail scope (Same here) h ss at = two (λ ss. ss) (λ ss. ss) (marks k n false scope (Atom here)) (marks k n false scope (Atom here)) (silent n false scope (Atom here) refl) (silent n false scope (Atom here) refl) ss here
  silent (suc n) tail scope (Atom here) h ss at = nothing ss here

  abbrev piece : Place → Part → Piece
  piece at (Entire e) = Whole e
  piece at (Branch b bs e) = Choice at b bs e

  -- the branches of a case as a piece
  chosen : (at : Place) (bs : List Labelled) (e : Expr) → piece at (branch_of bs e) ≡ choice_of at bs e
  chosen at [] e = refl
  chosen at (b ∷ bs) e = refl

  pub sees_all : (n : ℕ) (tail : Bool) (scope : List ℕ) (here : Place) (p : Part) → Sees (λ ss. read k.lambdas n ss p) (marks k n tail scope (piece here p))
  unfolding marks read
  sees_all zero tail scope here (Entire e) ss at = nothing ss at
  sees_all zero tail scope here (Branch b bs e) ss at = nothing ss at
  sees_all (suc n) tail scope here (Entire e) ss at = kind n (λ t u d. sees_all n t u here (Entire d)) (λ t u h bs d. subst (λ (q : Piece). Sees (λ ss. read k.lambdas n ss (branch_of bs d)) (marks k n t u q)) (chosen h bs d) (sees_all n t u h (branch_of bs d))) tail scope (out-Expr e).place (out-ExprKind (out-Expr e).kind) ss
  sees_all (suc n) tail scope here (Branch b bs e) ss at =
      let test = marks k n false scope (test_of here (labels_of b)) in
      let body = marks k n tail scope (Whole (body_of b)) in
      let rest = marks k n tail scope (choice_of here bs e) in
      two (λ ss. ss) (λ ss. read k.lambdas n (read k.lambdas n ss (Entire (body_of b))) (branch_of bs e)) test (body ++ rest) (silent n false scope (test_of here (labels_of b)) (tests here (labels_of b)))
      (two (λ ss. read k.lambdas n ss (Entire (body_of b))) (λ ss. read k.lambdas n ss (branch_of bs e)) body rest (sees_all n tail scope here (Entire (body_of b)))
      (subst (λ (q : Piece). Sees (λ ss. read k.lambdas n ss (branch_of bs e)) (marks k n tail scope q)) (chosen here bs e) (sees_all n tail scope here (branch_of bs e)))) ss here

  -- the texts of forms and of lambdas
  pub sees_lambda : (here : Place) (l : ℕ) → sights_of k.lambdas l ≡ seen_in here (lambda_text k l)
  unfolding lambda_text
  sees_lambda here l = body most_depth (λ t u d. sees_all most_depth t u here (Entire d)) [] (slice_get k.lambdas l) [] here

  pub sees_forms : (n : ℕ) (here : Place) (fs : List Form) → Sees (λ ss. read_forms k.lambdas n ss fs) (form_marks k n fs)
  sees_forms n here [] = nothing
  sees_forms n here (f ∷ fs) = two (λ ss. read k.lambdas n ss (Entire (expr_of f))) (λ ss. read_forms k.lambdas n ss fs) (marks k n false [] (Whole (expr_of f))) (form_marks k n fs) (sees_all n false [] here (Entire (expr_of f))) (sees_forms n here fs)

-- the text of a form
pub sees_form : (ms : List Lambda) (e : Expr) (here : Place) → sights_of_form ms e ≡ seen_in here (text_of ms e)
sees_form ms e here = sees_all (of_lambdas ms) most_depth false [] here (Entire e) [] here
