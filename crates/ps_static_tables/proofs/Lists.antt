-- One member more of the front of a list.
-- For: loops over lists
use Rattle.std.proofs.Common.{◌≡◌, ℕ, zero, suc, ◌+◌, ◌<◌, List, [], ◌∷◌, ◌++◌, length, map, take, get_or, refl, sym, ap, ◌∙◌, arith}
use Rattle.std.proofs.lemmas.List.{map_more}

map_same : {A : Type 0} (xs : List A) → map (λ x. x) xs ≡ xs
map_same [] = refl
map_same (x ∷ xs) = ap (λ z. x ∷ z) (map_same xs)

pub take_more : {A : Type 0} (xs : List A) (i : ℕ) (d : A) → i < length xs → take (i + 1) xs ≡ take i xs ++ get_or xs i d ∷ []
take_more xs i d lt = sym (map_same (take (i + 1) xs)) ∙ map_more (λ x. x) xs i d lt ∙ ap (λ z. z ++ get_or xs i d ∷ []) (map_same (take i xs))

-- within a list the member does not depend on what stands for a missing one
pub get_any : {A : Type 0} (xs : List A) (i : ℕ) (x y : A) → i < length xs → get_or xs i x ≡ get_or xs i y
get_any [] i x y lt = absurd (omega (arith, lt))
get_any (z ∷ zs) zero x y lt = refl
get_any (z ∷ zs) (suc i) x y lt = get_any zs i x y (omega (arith, lt))
