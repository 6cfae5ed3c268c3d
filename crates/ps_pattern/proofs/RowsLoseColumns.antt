-- What variables stand for is taken out of rows, that of the last variable first.
-- For: columns_of, column_of, take_out
use Rattle.std.proofs.Common.{◌≡◌, ℕ, zero, suc, ◌+◌, ◌-◌, ◌<◌, List, [], ◌∷◌, ◌++◌, map, take, drop, length, refl, ap, sym, ◌∙◌, Some, arith}
use Rattle.std.specs.Prelude.{slice_get, reverse, set}
use Rattle.ps_pattern.proofs.Rests.{some_is}
use Rattle.std.specs.List.{range_with_len}
use Rattle.std.proofs.lemmas.List.{reverse-append}
use Rattle.ps_pattern.specs.declared.bound.Bound.{Bound}
use Rattle.ps_pattern.specs.declared.bound.Bound.TheVariants as b
use Rattle.ps_pattern.specs.Meaning.{nth_bound}
use Rattle.ps_pattern.specs.Matching.{Binds, column}

nth_taken : (xs : Binds) (v : ℕ) → nth_bound v (take (suc v) xs) ≡ nth_bound v xs
nth_taken [] v = refl
nth_taken (x ∷ xs) zero = refl
nth_taken (x ∷ xs) (suc v) = nth_taken xs v

take_taken : (xs : Binds) (v : ℕ) → take v (take (suc v) xs) ≡ take v xs
take_taken xs zero = refl
take_taken [] (suc v) = refl
take_taken (x ∷ xs) (suc v) = ap (λ z. x ∷ z) (take_taken xs v)

nths_taken : (rows : List Binds) (v : ℕ) → map (nth_bound v) (map (take (suc v)) rows) ≡ map (nth_bound v) rows
nths_taken [] v = refl
nths_taken (x ∷ rows) v = ap (λ z. z ∷ map (nth_bound v) (map (take (suc v)) rows)) (nth_taken x v) ∙ ap (λ z. nth_bound v x ∷ z) (nths_taken rows v)

takes_taken : (rows : List Binds) (v : ℕ) → map (take v) (map (take (suc v)) rows) ≡ map (take v) rows
takes_taken [] v = refl
takes_taken (x ∷ rows) v = ap (λ z. z ∷ map (take v) (map (take (suc v)) rows)) (take_taken x v) ∙ ap (λ z. take v x ∷ z) (takes_taken rows v)

-- rows that agree before a place have the same column before it
pub same_column : (xs ys : List Binds) (v : ℕ) → map (take (suc v)) xs ≡ map (take (suc v)) ys → column xs v ≡ column ys v
same_column xs ys v e = ap b.Many (sym (nths_taken xs v) ∙ ap (map (nth_bound v)) e ∙ nths_taken ys v)

pub same_before : (xs ys : List Binds) (v : ℕ) → map (take (suc v)) xs ≡ map (take (suc v)) ys → map (take v) xs ≡ map (take v) ys
same_before xs ys v e = sym (takes_taken xs v) ∙ ap (map (take v)) e ∙ takes_taken ys v

-- one row more is taken out of
kept_set : (f : Binds → Binds) (rows : List Binds) (i : ℕ) (x y : Binds) → slice_get rows i ≡ Some x → f y ≡ f x → map f (set rows i y) ≡ map f rows
kept_set f [] i x y e h = absurd cc
kept_set f (r ∷ rows) zero x y e h = ap (λ z. z ∷ map f rows) (h ∙ ap f (sym (some_is e)))
kept_set f (r ∷ rows) (suc i) x y e h = ap (λ z. f r ∷ z) (kept_set f rows i x y e h)

first_of : {A : Type 0} (xs : List A) (i : ℕ) → slice_get xs i ≡ slice_get (drop i xs) 0
first_of [] zero = refl
first_of [] (suc i) = refl
first_of (x ∷ xs) zero = refl
first_of (x ∷ xs) (suc i) = first_of xs i

rest_of : {A : Type 0} (xs : List A) (i : ℕ) → drop (suc i) xs ≡ drop 1 (drop i xs)
rest_of [] zero = refl
rest_of [] (suc i) = refl
rest_of (x ∷ xs) zero = refl
rest_of (x ∷ xs) (suc i) = rest_of xs i

drop_set : {A : Type 0} (xs : List A) (i : ℕ) (y : A) → drop (suc i) (set xs i y) ≡ drop (suc i) xs
drop_set [] i y = refl
drop_set (x ∷ xs) zero y = refl
drop_set (x ∷ xs) (suc i) y = drop_set xs i y

map_more : (f : Binds → Bound) (rows : List Binds) (i : ℕ) (x : Binds) → slice_get rows i ≡ Some x → map f (take (suc i) rows) ≡ map f (take i rows) ++ f x ∷ []
map_more f [] i x e = absurd cc
map_more f (r ∷ rows) zero x e = ap (λ z. f z ∷ []) (some_is e)
map_more f (r ∷ rows) (suc i) x e = ap (λ z. f r ∷ z) (map_more f rows i x e)

abbrev pub Taken : ℕ → ℕ → List Binds → List Binds → Binds → Type 0
Taken v i rows rest bounds = (bounds ≡ map (nth_bound v) (take i rows)) × (map (take v) rest ≡ map (take v) rows) × (drop i rest ≡ drop i rows)

pub taken_more : (v i : ℕ) (rows rest : List Binds) (row left : Binds) (bounds more : Binds) → slice_get rest i ≡ Some row → take v left ≡ take v row → Taken v i rows rest bounds → more ≡ bounds ++ nth_bound v row ∷ [] → Taken v (i + 1) rows (set rest i left) more
taken_more v i rows rest row left bounds more e h inv is =
    let one : i + 1 ≡ suc i = omega arith in
    let same : slice_get rows i ≡ Some row = first_of rows i ∙ ap (λ z. slice_get z 0) (sym inv.2) ∙ sym (first_of rest i) ∙ e in
    let behind : drop (suc i) (set rest i left) ≡ drop (suc i) rows = drop_set rest i left ∙ rest_of rest i ∙ ap (drop 1) inv.2 ∙ sym (rest_of rows i) in (
      is ∙ ap (λ z. z ++ nth_bound v row ∷ []) inv.0 ∙ sym (map_more (nth_bound v) rows i row same) ∙ ap (λ k. map (nth_bound v) (take k rows)) (sym one),
      kept_set (take v) rest i row left e h ∙ inv.1,
      ap (λ k. drop k (set rest i left)) one ∙ behind ∙ ap (λ k. drop k rows) (sym one),
    )

-- one column more, in front of those behind it
abbrev pub from : ℕ → ℕ → List Binds → Binds
from v width rows = map (column rows) (range_with_len v (width - v))

pub column_more : (v next width : ℕ) (rows rest : List Binds) (columns more : Binds) (x : Bound) → next ≡ v + 1 → v < width → map (take next) rest ≡ map (take next) rows → x ≡ column rest v → reverse columns ≡ from next width rows → more ≡ columns ++ x ∷ [] → reverse more ≡ from v width rows
column_more v next width rows rest columns more x n lt same is inv grown =
    let suc_is : next ≡ suc v = omega arith in
    let count : width - v ≡ suc (width - next) = omega arith in
    let here : x ≡ column rows v = is ∙ same_column rest rows v (ap (λ k. map (take k) rest) (sym suc_is) ∙ same ∙ ap (λ k. map (take k) rows) suc_is) in
    ap reverse grown ∙ reverse-append columns (x ∷ []) ∙ ap (λ z. x ∷ z) inv ∙ ap (λ z. z ∷ from next width rows) here ∙ ap (λ k. column rows v ∷ map (column rows) (range_with_len k (width - next))) n ∙ ap (λ k. map (column rows) (range_with_len v k)) (sym count)

pub before_more : (v next : ℕ) (rows rest left : List Binds) → next ≡ v + 1 → map (take next) rest ≡ map (take next) rows → map (take v) left ≡ map (take v) rest → map (take v) left ≡ map (take v) rows
before_more v next rows rest left n same is =
    let suc_is : next ≡ suc v = omega arith in
    is ∙ same_before rest rows v (ap (λ k. map (take k) rest) (sym suc_is) ∙ same ∙ ap (λ k. map (take k) rows) suc_is)

take_front : {A : Type 0} (xs ys : List A) → take (length xs) (xs ++ ys) ≡ xs
take_front [] ys = refl
take_front (x ∷ xs) ys = ap (λ z. x ∷ z) (take_front xs ys)

-- a vector whose slice was written holds what was written
pub written : (len : ℕ) (new old : List Binds) → length new ≡ len → take len (new ++ drop (length new) old) ≡ new
written len new old e = ap (λ n. take n (new ++ drop (length new) old)) (sym e) ∙ take_front new (drop (length new) old)
