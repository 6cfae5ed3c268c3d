-- What stands at a place of a list that has grown at its end.
-- For: the lemmas on trails, pushing and popping.
use Rattle.std.proofs.Common.{◌≡◌, ◌∙◌, ℕ, zero, suc, ◌+◌, ◌<◌, refl, ap, arith, List, [], ◌∷◌, ◌++◌, length, drop, Some, None, slice_get, ◌⊎◌, inl, inr}

pub get_front : {A : Type 0} (xs : List A) (x : A) (n : ℕ) → n < length xs → slice_get (xs ++ x ∷ []) n ≡ slice_get xs n
get_front [] x n lt = absurd (omega arith)
get_front (y ∷ ys) x zero lt = refl
get_front (y ∷ ys) x (suc n) lt = get_front ys x n (omega arith)

pub get_last : {A : Type 0} (xs : List A) (x : A) → slice_get (xs ++ x ∷ []) (length xs) ≡ Some x
get_last [] x = refl
get_last (y ∷ ys) x = get_last ys x

pub some_same : {A : Type 0} (x y : A) → Some x ≡ Some y → x ≡ y
some_same x y e = (cc)

none_some : {A : Type 0} (x : A) → None ≡ Some x → ⊥
none_some x e = (cc)

pub no_place : {A : Type 0} (n : ℕ) (x : A) → slice_get {X = A} [] n ≡ Some x → ⊥
no_place n x e = none_some x e

pub get_within : {A : Type 0} (xs : List A) (n : ℕ) (x : A) → slice_get xs n ≡ Some x → n < length xs
get_within [] n x e = absurd (none_some x e)
get_within (y ∷ ys) zero x e = omega arith
get_within (y ∷ ys) (suc n) x e = omega (arith, get_within ys n x e)

-- one that stands in a list with one more stands in the list, or is that one
pub at_end : {A : Type 0} (xs : List A) (x : A) (n : ℕ) (y : A) → slice_get (xs ++ x ∷ []) n ≡ Some y → (slice_get xs n ≡ Some y) ⊎ ((n ≡ length xs) × (x ≡ y))
at_end [] x zero y e = inr (refl, some_same x y e)
at_end [] x (suc n) y e = absurd (none_some y e)
at_end (z ∷ zs) x zero y e = inl e
at_end (z ∷ zs) x (suc n) y e = by (at_end zs x n y e) where
  by : (slice_get zs n ≡ Some y) ⊎ ((n ≡ length zs) × (x ≡ y)) → (slice_get (z ∷ zs) (suc n) ≡ Some y) ⊎ ((suc n ≡ suc (length zs)) × (x ≡ y))
  by (inl h) = inl h
  by (inr h) = inr (ap suc h.0, h.1)

pub snoc_same : {A : Type 0} (xs ys : List A) (x y : A) → xs ++ x ∷ [] ≡ ys ++ y ∷ [] → xs ≡ ys
snoc_same [] [] x y e = refl
snoc_same [] (b ∷ bs) x y e = absurd (short bs y (cc)) where
  short : {A : Type 0} (bs : List A) (y : A) → [] ≡ bs ++ y ∷ [] → ⊥
  short [] y e = (cc)
  short (b ∷ bs) y e = (cc)
snoc_same (a ∷ as') [] x y e = absurd (short as' x (cc)) where
  short : {A : Type 0} (bs : List A) (y : A) → bs ++ y ∷ [] ≡ [] → ⊥
  short [] y e = (cc)
  short (b ∷ bs) y e = (cc)
snoc_same (a ∷ as') (b ∷ bs) x y e =
    let h : a ≡ b = (cc) in
    let t : as' ++ x ∷ [] ≡ bs ++ y ∷ [] = (cc) in
    let r = snoc_same as' bs x y t in (cc)

pub drop_next : {A : Type 0} (xs : List A) (n : ℕ) → drop 1 (drop n xs) ≡ drop (n + 1) xs
drop_next xs n = suc_drop xs n ∙ (let a : suc n ≡ n + 1 = omega arith in ap (λ i. drop i xs) a) where
  suc_drop : {A : Type 0} (xs : List A) (n : ℕ) → drop 1 (drop n xs) ≡ drop (suc n) xs
  suc_drop [] zero = refl
  suc_drop [] (suc n) = refl
  suc_drop (x ∷ xs) zero = refl
  suc_drop (x ∷ xs) (suc n) = suc_drop xs n
