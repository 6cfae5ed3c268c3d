-- What stands in a list behind a place.
-- For: the loops and look-ups of `reify`
use Rattle.std.proofs.Common.{◌≡◌, ℕ, zero, suc, ◌+◌, ◌<◌, List, [], ◌∷◌, map, length, drop, get_or, Some, None, refl, sym, ap, ◌∙◌, arith}
use Rattle.std.specs.Prelude.{slice_get}

pub none_entry : {A : Type 0} (xs : List A) (i : ℕ) (d : A) → None ≡ slice_get xs i → d ≡ get_or xs i d
none_entry [] i d e = refl
none_entry (x ∷ xs) zero d e = let h : None ≡ Some x = e in absurd cc
none_entry (x ∷ xs) (suc i) d e = none_entry xs i d e

pub some_entry : {A : Type 0} (xs : List A) (i : ℕ) (d x : A) → Some x ≡ slice_get xs i → x ≡ get_or xs i d
some_entry [] i d x e = let h : Some x ≡ None = e in absurd cc
some_entry (y ∷ xs) zero d x e = let h : Some x ≡ Some y = e in cc
some_entry (y ∷ xs) (suc i) d x e = some_entry xs i d x e

pub drop_at : {A : Type 0} (xs : List A) (i : ℕ) (d : A) → i < length xs → drop i xs ≡ get_or xs i d ∷ drop (i + 1) xs
drop_at [] i d lt = absurd (omega (arith, lt))
drop_at (x ∷ xs) zero d lt = refl
drop_at (x ∷ xs) (suc i) d lt = let one : suc i + 1 ≡ suc (i + 1) = omega arith in drop_at xs i d (omega (arith, lt)) ∙ ap (λ k. get_or xs i d ∷ drop k (x ∷ xs)) (sym one)

pub drop_map_at : {A B : Type 0} (f : A → B) (xs : List A) (i : ℕ) (d : A) → i < length xs → drop i (map f xs) ≡ f (get_or xs i d) ∷ drop (i + 1) (map f xs)
drop_map_at f [] i d lt = absurd (omega (arith, lt))
drop_map_at f (x ∷ xs) zero d lt = refl
drop_map_at f (x ∷ xs) (suc i) d lt = let one : suc i + 1 ≡ suc (i + 1) = omega arith in drop_map_at f xs i d (omega (arith, lt)) ∙ ap (λ k. f (get_or xs i d) ∷ drop k (map f (x ∷ xs))) (sym one)
