-- What stands at a place of a list stands, mapped, at that place of the mapped list.
-- For: operations_are_natural
use Rattle.std.proofs.Common.{◌≡◌, ℕ, ℤ, pos, negsuc, zero, suc, ◌+◌, List, [], ◌∷◌, ◌++◌, map, length, take, drop, replicate, Some, None, refl, sym, ap, ◌∙◌}
use Rattle.std.specs.Prelude.{nat_le, if◌then◌else◌}
use Rattle.std.specs.Option.{option_map}
use Rattle.std.proofs.lemmas.List.{length-map, map-append, take-map}
use Rattle.std.proofs.lemmas.Option.{slice_get-map}
use Rattle.byte_store.specs.Blocks.{member, rest, overwritten}
use Rattle.byte_store.proofs.AnswersAreNatural.{either_option_map}

pub drop-map : {A B : Type 0} (h : A → B) (k : ℕ) (xs : List A) → drop k (map h xs) ≡ map h (drop k xs)
drop-map h zero xs = refl
drop-map h (suc k) [] = refl
drop-map h (suc k) (x ∷ xs) = drop-map h k xs

pub map-replicate : {A B : Type 0} (h : A → B) (n : ℕ) (x : A) → map h (replicate n x) ≡ replicate n (h x)
map-replicate h zero x = refl
map-replicate h (suc n) x = ap (λ l. h x ∷ l) (map-replicate h n x)

module _ {A B : Type 0} (h : A → B) where
  pub member_map : (xs : List A) (at : ℤ) → member (map h xs) at ≡ option_map h (member xs at)
  member_map xs (pos k) = slice_get-map h xs k
  member_map xs (negsuc k) = refl

  pub rest_map : (xs : List A) (at : ℤ) → rest (map h xs) at ≡ option_map (map h) (rest xs at)
  rest_map xs (pos k) =
      ap (λ n. if nat_le k n then Some (drop k (map h xs)) else None) (length-map xs h)
      ∙ ap (λ ys. if nat_le k (length xs) then Some ys else None) (drop-map h k xs)
      ∙ either_option_map (map h) (nat_le k (length xs)) (Some (drop k xs)) None
  rest_map xs (negsuc k) = refl

  around : (xs : List A) (x : A) (ys : List A) → map h (xs ++ (x ∷ []) ++ ys) ≡ map h xs ++ (h x ∷ []) ++ map h ys
  around xs x ys = map-append h (xs ++ x ∷ []) ys ∙ ap (λ l. l ++ map h ys) (map-append h xs (x ∷ []))

  -- a member in place of another
  pub overwritten_map : (x : A) (xs : List A) (at : ℤ) → overwritten (h x ∷ []) (map h xs) at ≡ option_map (map h) (overwritten (x ∷ []) xs at)
  overwritten_map x xs (pos k) =
      ap (λ n. if nat_le (k + 1) n then Some (take k (map h xs) ++ (h x ∷ []) ++ drop (k + 1) (map h xs)) else None) (length-map xs h)
      ∙ ap (λ ys. if nat_le (k + 1) (length xs) then Some (ys ++ (h x ∷ []) ++ drop (k + 1) (map h xs)) else None) (take-map h k xs)
      ∙ ap (λ ys. if nat_le (k + 1) (length xs) then Some (map h (take k xs) ++ (h x ∷ []) ++ ys) else None) (drop-map h (k + 1) xs)
      ∙ ap (λ ys. if nat_le (k + 1) (length xs) then Some ys else None) (sym (around (take k xs) x (drop (k + 1) xs)))
      ∙ either_option_map (map h) (nat_le (k + 1) (length xs)) (Some (take k xs ++ (x ∷ []) ++ drop (k + 1) xs)) None
  overwritten_map x xs (negsuc k) = refl
