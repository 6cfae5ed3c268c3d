-- What is left behind the first of what is left behind a place is what is left behind the next place.
-- For: World::read, World::use_grant
use Rattle.std.proofs.Common.{◌≡◌, ℕ, zero, suc, ◌+◌, List, [], ◌∷◌, drop, refl, subst, add-one, arith}
use Rattle.byte_store.specs.Worlds.{rest_of}

pub rest-drop : {A : Type 0} (xs : List A) (n : ℕ) → rest_of (drop n xs) ≡ drop (n + 1) xs
rest-drop [] zero = refl
rest-drop [] (suc n) = rw add-one refl
rest-drop (x ∷ xs) zero = refl
rest-drop (x ∷ xs) (suc n) = let e : suc (n + 1) ≡ suc n + 1 = omega arith in subst (λ m. rest_of (drop n xs) ≡ drop m (x ∷ xs)) e (rest-drop xs n)
