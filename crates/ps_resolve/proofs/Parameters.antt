-- Different names, one after another.
-- For: `parameters`
use Rattle.std.proofs.Common.{◌≡◌, ℕ, zero, suc, ◌+◌, ◌<◌, List, [], ◌∷◌, ◌++◌, length, take, get_or, true, Some, refl, sym, ap, ◌∙◌, arith, subst}
use Rattle.std.specs.Prelude.{slice_get}
use Rattle.std.specs.List.{list_all}
use Rattle.std.specs.Cmp.Derive.{both_true}
use Rattle.std.proofs.lemmas.List.{length-append}
use Rattle.std.proofs.lemmas.List.Folds.{list_all-append}
use Rattle.ps_base.specs.Names.{AreDistinct, IsNew}
use Rattle.ps_datum.specs.declared.datum.Datum.{Datum}
use Rattle.ps_plain.specs.Forms.{Part, part, is_name}
use Rattle.ps_plain.proofs.Tests.{and_true}
use Rattle.ps_resolve.specs.InsideDefinitions.{AreParameters}
use Rattle.ps_resolve.proofs.Options.{one_more, split_at}

-- the member behind others
pub slice_get-behind : {A : Type 0} (xs rest : List A) (x : A) → slice_get (xs ++ x ∷ rest) (length xs) ≡ Some x
slice_get-behind [] rest x = refl
slice_get-behind (y ∷ xs) rest x = slice_get-behind xs rest x

slice_get-before : {A : Type 0} (xs ys : List A) (i : ℕ) (x : A) → slice_get xs i ≡ Some x → (i < length xs) × (slice_get (xs ++ ys) i ≡ Some x)
slice_get-before [] ys i x h = cc
slice_get-before (y ∷ xs) ys zero x h = (omega arith, h)
slice_get-before (y ∷ xs) ys (suc i) x h = let r = slice_get-before xs ys i x h in (omega (arith, r.0), r.1)

-- a text behind others is none of them
pub new-in_distinct : (xs rest : List (List ℕ)) (x : List ℕ) → AreDistinct (xs ++ x ∷ rest) → IsNew xs x
new-in_distinct xs rest x distinct i h =
    let r = slice_get-before xs (x ∷ rest) i x h in
    let same = distinct i (length xs) x r.1 (slice_get-behind xs rest x) in
    omega (arith, r.0, same)

module _ (names : List (List ℕ)) (ds : List Datum) (i : ℕ) (d : Datum) (within : i < length ds) (is : d ≡ get_or ds i d) (parameters : List (List ℕ)) (so_far : AreParameters names (take i ds) parameters) where
  -- one parameter more
  pub one_parameter : (w : List ℕ) → (part names d).word ≡ Some w → is_name w ≡ true → length parameters < 127 → AreDistinct (parameters ++ w ∷ []) → AreParameters names (take (i + 1) ds) (parameters ++ w ∷ [])
  one_parameter w word is_one room distinct = record {
    words = one_more (part names) (λ (p : Part). p.word) ds i d within is parameters w so_far.words word;
    are_names = list_all-append is_name parameters (w ∷ []) ∙ both_true so_far.are_names (both_true is_one refl);
    is_distinct = distinct;
    few = omega (arith, length-append parameters (w ∷ []));
  }

  -- what the parameters say of the next one
  pub next_parameter : (full : List (List ℕ)) → AreParameters names ds full → (w : List ℕ) × ((part names d).word ≡ Some w) × (is_name w ≡ true) × IsNew parameters w × (length parameters < 127)
  next_parameter full all =
      let s = split_at (part names) (λ (p : Part). p.word) ds i d within is parameters full so_far.words all.words in
      let names_are = and_true (list_all is_name parameters) (list_all is_name (s.0 ∷ s.1)) (sym (list_all-append is_name parameters (s.0 ∷ s.1)) ∙ ap (list_all is_name) (sym s.3) ∙ all.are_names) in
      let long = ap length s.3 in (
        s.0,
        s.2,
        (and_true (is_name s.0) (list_all is_name s.1) names_are.1).0,
        new-in_distinct parameters s.1 s.0 (subst AreDistinct s.3 all.is_distinct),
        omega (arith, all.few, long, length-append parameters (s.0 ∷ s.1)),
      )

  pub new_parameter : (full : List (List ℕ)) → AreParameters names ds full → (w : List ℕ) → (part names d).word ≡ Some w → IsNew parameters w
  new_parameter full all w word =
      let n = next_parameter full all in
      let same : Some n.0 ≡ Some w = sym n.1 ∙ word in
      let is_same : n.0 ≡ w = cc in
      subst (IsNew parameters) is_same n.3
