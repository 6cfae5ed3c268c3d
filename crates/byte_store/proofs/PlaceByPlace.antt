-- What is read or put place by place is read or put at once.
-- For: overwrite, put_at, copied_front, eight_at, length_before_0
use Rattle.std.proofs.Common.{◌≡◌, ℕ, zero, suc, pos, ◌+◌, ◌<◌, ◌≤◌, ◌++◌, List, [], ◌∷◌, length, map, take, drop, get_or, slice_index_or, Option, Some, None, Result, Ok, Err, refl, sym, ap, ◌∙◌, arith, subst, add-one, append_assoc, Bool, true, false, ℤ, negsuc}
use Rattle.std.proofs.Math.Seq.{paste}
use Rattle.std.proofs.lemmas.List.{length-map, get_or-map, take_more, length-drop, set_split}
use Rattle.std.proofs.lemmas.List.Edits.{paste_more}
use Rattle.std.specs.Prelude.{slice_set, nat_le, if◌then◌else◌}
use Rattle.std.specs.Option.{option_map}
use Rattle.std.proofs.lemmas.Bool.{leb-true, le-leb}
use Rattle.ps_base.specs.declared.faults.Op.{Op}
use Rattle.byte_store.specs.Blocks.{window, rest, overwritten}
use Rattle.byte_store.specs.Operations.{all_set, and_before}
use Rattle.ps_base.proofs.Choices.{none_some, some_same}

-- so many bytes before those that are counted
abbrev pub further : ℕ → Result ℕ Op → Result ℕ Op
further n (Ok k) = Ok (n + k)
further n (Err op) = Err op

-- one more of the new items stands in its place
pub one_more_set : {A : Type 0} (xs : List (Option A)) (at : ℕ) (new : List A) (i : ℕ) (a : A) → slice_index_or new i a ≡ a → at + i < length xs → i < length new →
    slice_set (paste xs at (map Some new) i) (at + i) (Some a) ≡ paste xs at (map Some new) (i + 1)
one_more_set {A = A} xs at new i a is inside more =
    let set_new : List (Option A) = map Some new in
    let same : get_or set_new i (Some a) ≡ Some a = get_or-map Some new i a (Some a) more ∙ ap Some is in
    let long : length set_new ≡ length new = length-map new Some in
    ap (λ x. slice_set (paste xs at set_new i) (at + i) x) (sym same) ∙ paste_more xs at set_new i (Some a) inside (omega (arith, long, more))

-- one more byte is set
all_set_append : {A : Type 0} (xs : List (Option A)) (ys : List A) (a : A) → all_set xs ≡ Some ys → all_set (xs ++ Some a ∷ []) ≡ Some (ys ++ a ∷ [])
all_set_append [] ys a is = ap (λ l. option_map (λ m. m ++ a ∷ []) l) is
all_set_append (None ∷ xs) ys a is = none_some is
all_set_append {A = A} (Some x ∷ xs) ys a is = go (all_set_append xs) (all_set xs) refl
  where
    go : ((zs : List A) (b : A) → all_set xs ≡ Some zs → all_set (xs ++ Some b ∷ []) ≡ Some (zs ++ b ∷ [])) → (r : Option (List A)) → all_set xs ≡ r → all_set (Some x ∷ xs ++ Some a ∷ []) ≡ Some (ys ++ a ∷ [])
    go ih None e = none_some (sym (ap (and_before x) e) ∙ is)
    go ih (Some zs) e =
        let front : x ∷ zs ≡ ys = some_same (sym (ap (and_before x) e) ∙ is) in
        ap (and_before x) (ih zs a e) ∙ ap (λ l. Some (l ++ a ∷ [])) front

pub all_set_more : {A : Type 0} (xs : List (Option A)) (i : ℕ) (ys : List A) (a : A) → all_set (take i xs) ≡ Some ys → slice_index_or xs i None ≡ Some a → i < length xs → all_set (take (i + 1) xs) ≡ Some (ys ++ a ∷ [])
all_set_more xs i ys a is here inside = ap all_set (take_more xs i None inside ∙ ap (λ x. take i xs ++ x ∷ []) here) ∙ all_set_append (take i xs) ys a is

-- one that was not set is among them
pub all_set_stops : {A : Type 0} (xs : List (Option A)) (i : ℕ) → i < length xs → slice_index_or xs i None ≡ None → all_set xs ≡ None
all_set_stops [] i inside gone = absurd (omega (arith, inside))
all_set_stops (None ∷ xs) i inside gone = refl
all_set_stops (Some x ∷ xs) zero inside gone = none_some (sym gone)
all_set_stops (Some x ∷ xs) (suc i) inside gone = ap (and_before x) (all_set_stops xs i (omega (arith, inside)) gone)

-- the members from a place on are the first ones of what stands there
pub window_of_rest : {A : Type 0} (n : ℕ) (xs : List A) (at : ℤ) (r : List A) → rest xs at ≡ Some r → n ≤ length r → window n xs at ≡ Some (take n r)
window_of_rest {A = A} n xs (pos k) r is fits = go (nat_le k (length xs)) refl
  where
    go : (b : Bool) → nat_le k (length xs) ≡ b → window n xs (pos k) ≡ Some (take n r)
    go false e = none_some (sym (ap (λ b. if b then Some (drop k xs) else None) e) ∙ is)
    go true e =
        let same : drop k xs ≡ r = some_same (sym (ap (λ b. if b then Some (drop k xs) else None) e) ∙ is) in
        let within : k + n ≤ length xs = omega (arith, leb-true _ _ e, length-drop k xs, subst (λ l. n ≤ length l) (sym same) fits) in
        ap (λ b. if b then Some (take n (drop k xs)) else None) (le-leb _ _ within) ∙ ap (λ l. Some (take n l)) same
window_of_rest n xs (negsuc k) r is fits = none_some is

if_so : {A : Type 0} (a b : A) (c : Bool) → c ≡ true → (if c then a else b) ≡ a
if_so a b c is = ap (λ (d : Bool). if d then a else b) is

beside_one : {A : Type 0} (front back : List A) (a : A) → front ++ (a ∷ []) ++ back ≡ front ++ a ∷ back
beside_one front back a = append_assoc front (a ∷ []) back

-- a single item that is put
pub one_overwritten : {A : Type 0} (xs : List A) (i : ℕ) (a : A) → i < length xs → overwritten (a ∷ []) xs (pos i) ≡ Some (slice_set xs i a)
one_overwritten {A = A} xs i a inside =
    let same : i + length (a ∷ []) ≡ suc i = add-one i in
    let fits : i + length (a ∷ []) ≤ length xs = rw same inside in
    let set : take i xs ++ (a ∷ []) ++ drop (i + length (a ∷ [])) xs ≡ slice_set xs i a = ap (λ n. take i xs ++ (a ∷ []) ++ drop n xs) same ∙ beside_one (take i xs) (drop (suc i) xs) a ∙ sym (set_split xs i a inside) in
    if_so (Some (take i xs ++ (a ∷ []) ++ drop (i + length (a ∷ [])) xs)) None (nat_le (i + length (a ∷ [])) (length xs)) (le-leb _ _ fits) ∙ ap Some set
