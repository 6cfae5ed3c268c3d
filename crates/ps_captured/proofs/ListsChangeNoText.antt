-- The lists of lambdas change no text, so what procedures keep is what it was.
-- For: `capture`
use Rattle.std.proofs.Common.{◌≡◌, ℕ, zero, suc, Bool, false, List, [], ◌∷◌, ◌++◌, length, map, Option, Some, None, slice_get, reverse, refl, sym, ap, subst, ◌∙◌, arith}
use Rattle.std.specs.Prelude.{◌+◌}
use Rattle.std.specs.Option.{option_map}
use Rattle.std.proofs.lemmas.Option.{slice_get-map}
use Rattle.std.proofs.lemmas.List.{append_assoc, reverse-append, length-append}
use Rattle.ps_base.specs.declared.faults.Place.{Place}
use Rattle.ps_kernel.specs.declared.expr.GroupEntry.{GroupEntry}
use Rattle.ps_kernel.specs.declared.expr.Expr.{Expr, out-Expr}
use Rattle.ps_kernel.specs.declared.expr.ExprKind.{ExprKind, out-ExprKind}
use Rattle.ps_kernel.specs.declared.expr.ExprKind.TheOpen.{ExprKind-F}
use Rattle.ps_kernel.specs.declared.expr.Labelled.{Labelled}
use Rattle.ps_kernel.specs.declared.kernel.Form.{Form}
use Rattle.ps_kernel.specs.declared.kernel.Kernel.{Kernel}
use Rattle.ps_kernel.specs.declared.kernel.Lambda.{Lambda}
use Rattle.ps_kernel.specs.Captured.{Reaches, itself, through, Keeps, IsCaptured}
use Rattle.ps_kernel.specs.Lists.{stands_in}
use Rattle.ps_kernel.specs.Marks.{Mark, Node, Stands, BindsEntry, Piece, Whole, Choice, AnyOf, Same, Atom, place_of, locals_of, body_marks, lambda_marks, group_marks, kind_marks, layer, marks, Reading}
use Rattle.ps_kernel.specs.Most.{most_depth}
use Rattle.ps_kernel.specs.Texts.{named, bound, lambda_text, group_of, group_in, text, expr_of, form_marks}
use Rattle.ps_captured.specs.Filled.{IsFilled, emptied, emptied_lambda}
use Rattle.ps_captured.specs.InsideKeeping.{AreCaptured, with_list, with_lists}

-- ---- the text of a kernel without lists

module _ (k : Kernel) where
  module _ (inner : Reading) where
    same_body : (scope : List ℕ) (l : ℕ) → body_marks inner scope (slice_get k.lambdas l) ≡ body_marks inner scope (slice_get (emptied k).lambdas l)
    same_body scope l = by (slice_get k.lambdas l) ∙ ap (body_marks inner scope) (sym (slice_get-map emptied_lambda k.lambdas l))
      where
        by : (m : Option Lambda) → body_marks inner scope m ≡ body_marks inner scope (option_map emptied_lambda m)
        by None = refl
        by (Some m) = refl

    same_lambda : (scope : List ℕ) (g : List GroupEntry) (l : ℕ) → lambda_marks k inner scope g l ≡ lambda_marks (emptied k) inner scope g l
    same_lambda scope g l = ap (λ (ms : List Mark). Stands l g ∷ ms) (same_body scope l)

    same_group : (scope : List ℕ) (g es : List GroupEntry) → group_marks k inner scope g es ≡ group_marks (emptied k) inner scope g es
    same_group scope g [] = refl
    same_group scope g (e ∷ es) =
        ap (λ (ms : List Mark). ms ++ group_marks k inner scope g es) (same_lambda scope g e.lambda) ∙ ap (λ (ms : List Mark). lambda_marks (emptied k) inner scope g e.lambda ++ ms) (same_group scope g es)

    same_kind : (tail : Bool) (scope : List ℕ) (at : Place) (y : ExprKind-F ExprKind Expr Labelled) → kind_marks k inner tail scope at y ≡ kind_marks (emptied k) inner tail scope at y
    same_kind tail scope at (ExprKind-F.Constant q) = refl
    same_kind tail scope at (ExprKind-F.Local x) = refl
    same_kind tail scope at (ExprKind-F.Global g) = refl
    same_kind tail scope at (ExprKind-F.Lambda l) = same_lambda scope [] l
    same_kind tail scope at (ExprKind-F.If a b d) = refl
    same_kind tail scope at (ExprKind-F.Let x a b) = refl
    same_kind tail scope at (ExprKind-F.Letrec g b) = ap (λ (ms : List Mark). map BindsEntry g ++ (ms ++ inner tail (locals_of g ++ scope) (Whole b))) (same_group (locals_of g ++ scope) g g)
    same_kind tail scope at (ExprKind-F.Begin es) = refl
    same_kind tail scope at (ExprKind-F.SetGlobal g a) = refl
    same_kind tail scope at (ExprKind-F.SetLocal x a) = refl
    same_kind tail scope at (ExprKind-F.Case q a bs e) = refl
    same_kind tail scope at (ExprKind-F.Call f es) = refl
    same_kind tail scope at (ExprKind-F.ProperCall f es) = refl
    same_kind tail scope at (ExprKind-F.Primitive p es) = refl

    same_layer : (tail : Bool) (scope : List ℕ) (p : Piece) → layer k inner tail scope p ≡ layer (emptied k) inner tail scope p
    same_layer tail scope (Whole e) = same_kind tail scope (out-Expr e).place (out-ExprKind (out-Expr e).kind)
    same_layer tail scope (Choice at b bs e) = refl
    same_layer tail scope (AnyOf at ls) = refl
    same_layer tail scope (Same at) = refl
    same_layer tail scope (Atom at) = refl

  same_marks : (n : ℕ) (tail : Bool) (scope : List ℕ) (p : Piece) → marks k n tail scope p ≡ marks (emptied k) n tail scope p
  unfolding marks
  same_marks zero tail scope p = refl
  same_marks (suc n) tail scope p =
      let inner : marks k n ≡ marks (emptied k) n = λ i t s q. same_marks n t s q i in
      ap (λ (ms : List Mark). Node (place_of p) ∷ ms) (same_layer (marks k n) tail scope p ∙ ap (λ (r : Reading). layer (emptied k) r tail scope p) inner)

  same_reading : (n : ℕ) → marks k n ≡ marks (emptied k) n
  same_reading n = λ i t s q. same_marks n t s q i

  same_text : (l : ℕ) → lambda_text k l ≡ lambda_text (emptied k) l
  unfolding lambda_text
  same_text l = same_body (marks k most_depth) [] l ∙ ap (λ (r : Reading). body_marks r [] (slice_get (emptied k).lambdas l)) (same_reading most_depth)

  same_forms : (fs : List Form) → form_marks k most_depth fs ≡ form_marks (emptied k) most_depth fs
  same_forms [] = refl
  same_forms (f ∷ fs) =
      ap (λ (ms : List Mark). ms ++ form_marks k most_depth fs) (same_marks most_depth false [] (Whole (expr_of f))) ∙ ap (λ (ms : List Mark). marks (emptied k) most_depth false [] (Whole (expr_of f)) ++ ms) (same_forms fs)

  same_place : (l : ℕ) → group_of k l ≡ group_of (emptied k) l
  unfolding group_of text
  same_place l = ap (group_in l) (same_forms k.forms)

-- ---- two kernels that are the same without lists

module _ (k j : Kernel) (same : emptied j ≡ emptied k) where
  texts : (l : ℕ) → lambda_text k l ≡ lambda_text j l
  texts l = same_text k l ∙ ap (λ (i : Kernel). lambda_text i l) (sym same) ∙ sym (same_text j l)

  places : (l : ℕ) → group_of k l ≡ group_of j l
  places l = same_place k l ∙ ap (λ (i : Kernel). group_of i l) (sym same) ∙ sym (same_place j l)

  reaches : (g : List GroupEntry) (l n : ℕ) → Reaches k g l n → Reaches j g l n
  reaches g l n itself = itself
  reaches g l n (through m _ x r p q) = through m n x (reaches g l m r) (ap (λ (ms : List Mark). stands_in x (named ms)) (sym (texts m)) ∙ p) q

  keeps : (g : List GroupEntry) (l x : ℕ) → Keeps k g l x → Keeps j g l x
  keeps g l x h = record {
    lambda = h.lambda;
    reached = reaches g l h.lambda h.reached;
    free = record {
      names = ap (λ (ms : List Mark). stands_in x (named ms)) (sym (texts h.lambda)) ∙ h.free.names;
      binds_not = ap (λ (ms : List Mark). stands_in x (bound ms)) (sym (texts h.lambda)) ∙ h.free.binds_not;
    };
    outside = h.outside;
  }

captured_alike : (k j : Kernel) → emptied j ≡ emptied k → (l : ℕ) (xs : List ℕ) → IsCaptured k l xs → IsCaptured j l xs
captured_alike k j same l xs h = record {
  keeps = λ x. ((λ p. subst (λ (g : List GroupEntry). Keeps j g l x) (places k j same l) (keeps k j same (group_of k l) l x ((h.keeps x).0 p))), (λ p. (h.keeps x).1 (subst (λ (g : List GroupEntry). Keeps k g l x) (sym (places k j same l)) (keeps j k (sym same) (group_of j l) l x p))));
  ascends = h.ascends;
}

-- ---- lambdas with lists

listed_alike : (ms : List Lambda) (xss : List (List ℕ)) → length xss ≡ length ms → map emptied_lambda (with_lists ms xss) ≡ map emptied_lambda ms
listed_alike [] xss h = refl
listed_alike (m ∷ ms) [] h = absurd (omega (arith, h))
listed_alike (m ∷ ms) (xs ∷ xss) h = ap (λ (ns : List Lambda). emptied_lambda m ∷ ns) (listed_alike ms xss (omega (arith, h)))

listed_at : (ms : List Lambda) (xss : List (List ℕ)) (l : ℕ) (m : Lambda) → slice_get (with_lists ms xss) l ≡ Some m → slice_get xss l ≡ Some m.captured
listed_at [] xss l m h = absurd (none l h)
  where
    none : (l : ℕ) → slice_get [] l ≡ Some m → ⊥
    none l h = absurd cc
listed_at (n ∷ ms) [] l m h = absurd cc
listed_at (n ∷ ms) (xs ∷ xss) zero m h = some (ap (option_map (λ (z : Lambda). z.captured)) h)
  where
    some : Some xs ≡ Some m.captured → Some xs ≡ Some m.captured
    some p = p
listed_at (n ∷ ms) (xs ∷ xss) (suc l) m h = listed_at ms xss l m h

pub fills : (k : Kernel) (xss : List (List ℕ)) → length xss ≡ length k.lambdas → AreCaptured k xss → IsFilled k (record k { lambdas = with_lists k.lambdas xss })
fills k xss n h =
    let after : Kernel = record k { lambdas = with_lists k.lambdas xss } in
    let same : emptied after ≡ emptied k = ap (λ (ms : List Lambda). record k { lambdas = ms }) (listed_alike k.lambdas xss n) in
    record {
      captured = record { captured = λ l m p. captured_alike k after same l m.captured (h l m.captured (listed_at k.lambdas xss l m p)) };
      same = same;
    }

-- ---- lists from the last to the first

pub last_listed : (ms : List Lambda) (xss : List (List ℕ)) (m : Lambda) (xs : List ℕ) → length xss ≡ length ms → with_lists (ms ++ m ∷ []) (xss ++ xs ∷ []) ≡ with_lists ms xss ++ with_list m xs ∷ []
last_listed [] [] m xs h = refl
last_listed [] (ys ∷ xss) m xs h = absurd (omega (arith, h))
last_listed (n ∷ ms) [] m xs h = absurd (omega (arith, h))
last_listed (n ∷ ms) (ys ∷ xss) m xs h = ap (λ (ns : List Lambda). with_list n ys ∷ ns) (last_listed ms xss m xs (omega (arith, h)))

pub one_more : (ms ms' : List Lambda) (xss xss' : List (List ℕ)) (bs bs' : List Lambda) (m : Lambda) (xs : List ℕ) (n : Lambda) (all : List Lambda) → ms ≡ ms' ++ m ∷ [] → xss ≡ xss' ++ xs ∷ [] → n ≡ with_list m xs → bs' ≡ bs ++ n ∷ []
    → (with_lists ms xss ++ reverse bs ≡ all) × (length xss ≡ length ms) → (with_lists ms' xss' ++ reverse bs' ≡ all) × (length xss' ≡ length ms')
one_more ms ms' xss xss' bs bs' m xs n all p q r t h = (list, lengths)
  where
    lengths : length xss' ≡ length ms'
    lengths =
        let a : length xss ≡ length xss' + 1 = ap length q ∙ length-append xss' (xs ∷ []) in
        let b : length ms ≡ length ms' + 1 = ap length p ∙ length-append ms' (m ∷ []) in
        let c : length xss ≡ length ms = h.1 in
        omega (arith, a, b, c)

    back : reverse bs' ≡ with_list m xs ∷ reverse bs
    back = ap reverse t ∙ reverse-append bs (n ∷ []) ∙ ap (λ (z : Lambda). z ∷ reverse bs) r

    list : with_lists ms' xss' ++ reverse bs' ≡ all
    list =
        ap (λ (zs : List Lambda). with_lists ms' xss' ++ zs) back
        ∙ sym (append_assoc (with_lists ms' xss') (with_list m xs ∷ []) (reverse bs))
        ∙ ap (λ (zs : List Lambda). zs ++ reverse bs) (sym (last_listed ms' xss' m xs lengths) ∙ ap (λ (zs : List Lambda). with_lists zs (xss' ++ xs ∷ [])) (sym p) ∙ ap (with_lists ms) (sym q))
        ∙ h.0
