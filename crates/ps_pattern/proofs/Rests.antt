-- Lists, seen from a place on.
-- For: loops over a row
use Rattle.std.proofs.Common.{◌≡◌, ℕ, zero, suc, ◌+◌, List, [], ◌∷◌, drop, refl, ap, sym, ◌∙◌, Some, arith, rules}
use Rattle.std.specs.Prelude.{slice_get}
use Rattle.std.specs.Prelude.{◌<◌, get_or, length}
use Rattle.std.proofs.lemmas.Option.{slice_get-get_or}
use Rattle.std.specs.Option.{unwrap_or}

pub some_is : {A : Type 0} {a b : A} → Some a ≡ Some b → a ≡ b
some_is {A} {a} {b} e = ap (λ o. unwrap_or o a) e

drop_suc : {A : Type 0} (xs : List A) (i : ℕ) (x : A) → slice_get xs i ≡ Some x → drop i xs ≡ x ∷ drop (suc i) xs
drop_suc [] i x e = search rules
drop_suc (y ∷ xs) zero x e = ap (λ z. z ∷ xs) (some_is e)
drop_suc (y ∷ xs) (suc i) x e = drop_suc xs i x e

pub drop_at : {A : Type 0} (xs : List A) (i : ℕ) (x : A) → slice_get xs i ≡ Some x → drop i xs ≡ x ∷ drop (i + 1) xs
drop_at xs i x e = let one : suc i ≡ i + 1 = omega arith in drop_suc xs i x e ∙ ap (λ n. x ∷ drop n xs) one

-- the element at a place within the list
pub got : {A : Type 0} (xs : List A) (i : ℕ) (x : A) → i < length xs → x ≡ get_or xs i x → slice_get xs i ≡ Some x
got xs i x within e = slice_get-get_or xs i x within ∙ ap Some (sym e)

pub drop_all : {A : Type 0} (xs : List A) → drop (length xs) xs ≡ []
drop_all [] = refl
drop_all (x ∷ xs) = drop_all xs
