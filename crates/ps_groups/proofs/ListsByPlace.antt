-- Lists by their places, as they grow at their end, and numbers that ascend.
-- For: `turn`, `contract` and `close`
use Rattle.std.proofs.Common.{◌≡◌, ℕ, zero, suc, ◌+◌, ◌<◌, ◌≤◌, List, [], ◌∷◌, ◌++◌, length, Some, None, slice_get, refl, ap, inl, inr, ⊎_elim, arith, get_or}
use Rattle.std.specs.Prelude.{◌⊎◌}
use Rattle.ps_kernel.specs.Lists.{Among}
use Rattle.ps_groups.specs.InsideSearch.{Climbs, last_of}

module _ {A : Type 0} where
  pub get_left : (xs ys : List A) (p : ℕ) (x : A) → slice_get xs p ≡ Some x → slice_get (xs ++ ys) p ≡ Some x
  get_left [] ys p x h = let clash : None ≡ Some x = h in absurd cc
  get_left (y ∷ xs) ys zero x h = h
  get_left (y ∷ xs) ys (suc p) x h = get_left xs ys p x h

  pub get_last : (xs : List A) (x : A) → slice_get (xs ++ x ∷ []) (length xs) ≡ Some x
  get_last [] x = refl
  get_last (y ∷ xs) x = get_last xs x

  -- at the last place or before
  pub get_pushed : (xs : List A) (x : A) (p : ℕ) (y : A) → slice_get (xs ++ x ∷ []) p ≡ Some y → (slice_get xs p ≡ Some y) ⊎ ((p ≡ length xs) × (y ≡ x))
  get_pushed [] x zero y h = inr (refl, (let e : Some x ≡ Some y = h in cc))
  get_pushed [] x (suc p) y h = let clash : None ≡ Some y = h in absurd cc
  get_pushed (z ∷ xs) x zero y h = inl h
  get_pushed (z ∷ xs) x (suc p) y h = ⊎_elim (λ (a : slice_get xs p ≡ Some y). inl a) (λ (a : (p ≡ length xs) × (y ≡ x)). inr (ap suc a.0, a.1)) (get_pushed xs x p y h)

  -- within the front of a list
  pub get_front : (xs ys : List A) (p : ℕ) (x : A) → p < length xs → slice_get (xs ++ ys) p ≡ Some x → slice_get xs p ≡ Some x
  get_front [] ys p x lt h = absurd (omega arith)
  get_front (y ∷ xs) ys zero x lt h = h
  get_front (y ∷ xs) ys (suc p) x lt h = get_front xs ys p x (omega arith) h

  pub among_left : (xs ys : List A) (x : A) → Among x xs → Among x (xs ++ ys)
  among_left [] ys x h = absurd h
  among_left (y ∷ xs) ys x h = ⊎_elim (λ (e : x ≡ y). inl e) (λ (k : Among x xs). inr (among_left xs ys x k)) h

  pub among_last : (xs : List A) (x : A) → Among x (xs ++ x ∷ [])
  among_last [] x = inl refl
  among_last (y ∷ xs) x = inr (among_last xs x)

  pub among_pushed : (xs : List A) (x y : A) → Among y (xs ++ x ∷ []) → Among y xs ⊎ (y ≡ x)
  among_pushed [] x y h = ⊎_elim (λ (e : y ≡ x). inr e) (λ (k : ⊥). absurd k) h
  among_pushed (z ∷ xs) x y h = ⊎_elim
      (λ (e : y ≡ z). inl (inl e))
      (λ (k : Among y (xs ++ x ∷ [])). ⊎_elim (λ (q : Among y xs). inl (inr q)) (λ (q : y ≡ x). inr q) (among_pushed xs x y k))
      h

-- ---- numbers that ascend

pub climbs_lower : (a b : ℕ) (xs : List ℕ) → a ≤ b → Climbs b xs → Climbs a xs
climbs_lower a b [] le h = tt
climbs_lower a b (x ∷ xs) le h = (omega (arith, h.0), h.1)

pub climbs_above : (low : ℕ) (xs : List ℕ) → Climbs low xs → (x : ℕ) → Among x xs → low ≤ x
climbs_above low [] h x on = absurd on
climbs_above low (y ∷ xs) h x on = ⊎_elim (λ (e : x ≡ y). omega (arith, h.0)) (λ (k : Among x xs). (let m = climbs_above (suc y) xs h.1 x k in omega (arith, h.0))) on

pub climbs_pushed : (low : ℕ) (xs : List ℕ) (z : ℕ) → low ≤ z → Climbs low xs → ((x : ℕ) → Among x xs → x < z) → Climbs low (xs ++ z ∷ [])
climbs_pushed low [] z le h f = (le, tt)
climbs_pushed low (x ∷ xs) z le h f = (h.0, climbs_pushed (suc x) xs z (f x (inl refl)) h.1 (λ y k. f y (inr k)))

pub climbs_front : (low : ℕ) (xs : List ℕ) (z : ℕ) → Climbs low (xs ++ z ∷ []) → Climbs low xs
climbs_front low [] z h = tt
climbs_front low (x ∷ xs) z h = (h.0, climbs_front (suc x) xs z h.1)

pub climbs_last : (low : ℕ) (xs : List ℕ) (z : ℕ) → Climbs low (xs ++ z ∷ []) → (x : ℕ) → Among x xs → x < z
climbs_last low [] z h x on = absurd on
climbs_last low (y ∷ xs) z h x on = ⊎_elim
    (λ (e : x ≡ y). (let m = climbs_above (suc y) (xs ++ z ∷ []) h.1 z (among_last xs z) in omega arith))
    (λ (k : Among x xs). climbs_last (suc y) xs z h.1 x k)
    on

-- ---- the last

pub last_pushed : (xs : List ℕ) (z : ℕ) → last_of (xs ++ z ∷ []) ≡ Some z
last_pushed [] z = refl
last_pushed (x ∷ []) z = refl
last_pushed (x ∷ y ∷ xs) z = last_pushed (y ∷ xs) z

pub none_last : (xs : List ℕ) → last_of xs ≡ None → xs ≡ []
none_last [] h = refl
none_last (x ∷ []) h = let clash : Some x ≡ None = h in absurd cc
none_last (x ∷ y ∷ xs) h = let e : y ∷ xs ≡ [] = none_last (y ∷ xs) h in absurd cc

-- a list that has a last
pub front_of : (xs : List ℕ) (z : ℕ) → last_of xs ≡ Some z → (front : List ℕ) × (xs ≡ front ++ z ∷ [])
front_of [] z h = let clash : None ≡ Some z = h in absurd cc
front_of (x ∷ []) z h = ([], (let e : Some x ≡ Some z = h in ap (λ y. y ∷ []) cc))
front_of (x ∷ y ∷ xs) z h = let r = front_of (y ∷ xs) z h in (x ∷ r.0, ap (λ ys. x ∷ ys) r.1)

-- ---- an entry, or what stands for none

pub none_entry : {A : Type 0} (xs : List A) (i : ℕ) (d : A) → None ≡ slice_get xs i → d ≡ get_or xs i d
none_entry [] i d e = refl
none_entry (x ∷ xs) zero d e = let h : None ≡ Some x = e in absurd cc
none_entry (x ∷ xs) (suc i) d e = none_entry xs i d e

pub some_entry : {A : Type 0} (xs : List A) (i : ℕ) (d x : A) → Some x ≡ slice_get xs i → x ≡ get_or xs i d
some_entry [] i d x e = let h : Some x ≡ None = e in absurd cc
some_entry (y ∷ xs) zero d x e = let h : Some x ≡ Some y = e in cc
some_entry (y ∷ xs) (suc i) d x e = some_entry xs i d x e

pub last_at : (xs : List ℕ) (i : ℕ) (x : ℕ) → i + 1 ≡ length xs → Some x ≡ slice_get xs i → Some x ≡ last_of xs
last_at [] i x e h = absurd (omega arith)
last_at (y ∷ []) zero x e h = h
last_at (y ∷ []) (suc i) x e h = absurd (omega arith)
last_at (y ∷ z ∷ xs) zero x e h = absurd (omega arith)
last_at (y ∷ z ∷ xs) (suc i) x e h = last_at (z ∷ xs) i x (omega arith) h
