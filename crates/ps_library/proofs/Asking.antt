-- One library of the search path is asked after another.
-- For: fetch
use Rattle.std.proofs.Common.{◌≡◌, ◌≢◌, ℕ, zero, suc, ◌+◌, ◌<◌, ◌≤◌, List, [], ◌∷◌, ◌++◌, length, map, take, drop, Result, Err, refl, sym, ap, ◌∙◌, subst, arith, append-nil, append_assoc}
use Rattle.std.proofs.Math.ListN.{set, get_or}
use Rattle.std.proofs.Math.Seq.{drop-cons, take-suc-set}
use Rattle.std.proofs.lemmas.List.{map-set, drop-set-lt, take-append-drop, length-map, get_or-map}
use Rattle.ps_library.specs.LibraryStates.{LibraryState}
use Rattle.ps_library.specs.Fetching.{ReadsFile, Asks}
use Rattle.ps_library.specs.declared.fetching.FetchFault.{FetchFault}
use Rattle.ps_library.specs.declared.fetching.FetchFault.TheVariants as fault

drop_one : {A : Type 0} (i : ℕ) (xs : List A) → drop 1 (drop i xs) ≡ drop (suc i) xs
drop_one zero xs = refl
drop_one (suc i) [] = refl
drop_one (suc i) (x ∷ xs) = drop_one i xs

take_all : {A : Type 0} (i : ℕ) (xs : List A) → length xs ≤ i → take i xs ≡ xs
take_all zero [] h = refl
take_all (suc i) [] h = refl
take_all zero (x ∷ xs) h = absurd (omega arith)
take_all (suc i) (x ∷ xs) h = ap (λ ys. x ∷ ys) (take_all i xs (omega arith))

drop_all : {A : Type 0} (i : ℕ) (xs : List A) → length xs ≤ i → drop i xs ≡ []
drop_all zero [] h = refl
drop_all (suc i) [] h = refl
drop_all zero (x ∷ xs) h = absurd (omega arith)
drop_all (suc i) (x ∷ xs) h = drop_all i xs (omega arith)

-- the first i libraries were asked and passed, the others not asked: whatever asking those does, all have done
pub record AskingSo (name : List ℕ) (room : ℕ) (olds nows : List LibraryState) (i : ℕ) : Type 0 where
  pub rest : drop i nows ≡ drop i olds
  pub passed : (news : List LibraryState) (r : Result (List ℕ) FetchFault) → Asks name room i (drop i olds) news r → Asks name room 0 olds (take i nows ++ news) r

pub asking_starts : (name : List ℕ) (room : ℕ) (olds : List LibraryState) → AskingSo name room olds olds 0
asking_starts name room olds = record { rest = refl; passed = λ news r h. h }

-- the library at i, which is in state x before it is asked and y after it
module _ (name : List ℕ) (room : ℕ) (olds nows : List LibraryState) (i : ℕ) (within : i < length nows) (so : AskingSo name room olds nows i) (x y : LibraryState) (at : x ≡ get_or nows i x) where
  ahead : drop i olds ≡ x ∷ drop (suc i) nows
  ahead = sym so.rest ∙ drop-cons nows i x within ∙ ap (λ z. z ∷ drop (suc i) nows) (sym at)

  parts : set nows i y ≡ take i nows ++ y ∷ drop (suc i) nows
  parts = sym (take-append-drop (suc i) (set nows i y))
      ∙ ap (λ front. front ++ drop (suc i) (set nows i y)) (take-suc-set nows i y within)
      ∙ ap (λ back. (take i nows ++ y ∷ []) ++ back) (drop-set-lt (suc i) nows i y (omega arith))
      ∙ append_assoc (take i nows) (y ∷ []) (drop (suc i) nows)

  -- it gave the answer
  answered : (r : Result (List ℕ) FetchFault) → r ≢ Err fault.Absent → ReadsFile name room i x y r → Asks name room 0 olds (set nows i y) r
  answered r is reads = subst (λ news. Asks name room 0 olds news r) (sym parts)
      (so.passed (y ∷ drop (suc i) nows) r (subst (λ os. Asks name room i os (y ∷ drop (suc i) nows) r) (sym ahead) (Asks.found is reads)))

  after : drop (suc i) olds ≡ drop (suc i) nows
  after = sym (drop_one i olds) ∙ ap (drop 1) ahead

  -- it has no file of that name
  lacked : ReadsFile name room i x y (Err fault.Absent) → AskingSo name room olds (set nows i y) (suc i)
  lacked reads = record {
    rest = drop-set-lt (suc i) nows i y (omega arith) ∙ sym after;
    passed = λ news r h. subst (λ ns. Asks name room 0 olds ns r) (sym (append_assoc (take i nows) (y ∷ []) news) ∙ ap (λ front. front ++ news) (sym (take-suc-set nows i y within)))
        (so.passed (y ∷ news) r (subst (λ os. Asks name room i os (y ∷ news) r) (sym ahead) (Asks.passed reads (subst (λ os. Asks name room (suc i) os news r) after h))));
  }

-- the same, where the states are those of the members of a list
module _ {X : Type 0} (f : X → LibraryState) (name : List ℕ) (room : ℕ) (olds : List LibraryState) (nows : List X) (i : ℕ) (within : i < length nows) (so : AskingSo name room olds (map f nows) i) (x y : X) (at : x ≡ get_or nows i x) where
  within_map : i < length (map f nows)
  within_map = omega (arith, length-map nows f)

  at_map : f x ≡ get_or (map f nows) i (f x)
  at_map = ap f at ∙ sym (get_or-map f nows i x (f x) within)

  pub found_at : (r : Result (List ℕ) FetchFault) → r ≢ Err fault.Absent → ReadsFile name room i (f x) (f y) r → Asks name room 0 olds (map f (set nows i y)) r
  found_at r is reads = subst (λ news. Asks name room 0 olds news r) (sym (map-set f nows i y)) (answered name room olds (map f nows) i within_map so (f x) (f y) at_map r is reads)

  pub passed_at : ReadsFile name room i (f x) (f y) (Err fault.Absent) → AskingSo name room olds (map f (set nows i y)) (i + 1)
  passed_at reads = let one : suc i ≡ i + 1 = omega arith in subst (AskingSo name room olds (map f (set nows i y))) one (subst (λ news. AskingSo name room olds news (suc i)) (sym (map-set f nows i y)) (lacked name room olds (map f nows) i within_map so (f x) (f y) at_map reads))

-- no library is left
pub none_has : {X : Type 0} (f : X → LibraryState) (name : List ℕ) (room : ℕ) (olds : List LibraryState) (nows : List X) (i : ℕ) → length nows ≤ i → AskingSo name room olds (map f nows) i → Asks name room 0 olds (map f nows) (Err fault.Absent)
none_has f name room olds nows i end so =
    let all : length (map f nows) ≤ i = omega (arith, end, length-map nows f) in
    subst (λ ns. Asks name room 0 olds ns (Err fault.Absent)) (append-nil (take i (map f nows)) ∙ take_all i (map f nows) all)
    (so.passed [] _ (subst (λ os. Asks name room i os [] (Err fault.Absent)) (sym (drop_all i (map f nows) all) ∙ so.rest) Asks.none))
