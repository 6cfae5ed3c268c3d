-- What a search over variables finds.
-- For: search_type, least_from
use Rattle.std.proofs.Common.{◌≡◌, ℕ, ◌<◌, ◌≤◌, nat_lt, Bool, true, false, List, [], ◌∷◌, ◌++◌, Option, Some, None, ◌⊎◌, inl, inr, refl, sym, ap, subst, ◌∙◌, append_assoc, arith}
use Rattle.std.specs.Prelude.{◌==◌, ◌||◌, if◌then◌else◌}
use Rattle.std.specs.List.{fold}
use Rattle.std.proofs.lemmas.List.{append-nil}
use Rattle.std.proofs.lemmas.Bool.{ltb-true, ltb-false, eq-eqb, or_left, or_right, or_cases}
use Rattle.ps_types.specs.declared.numbering.Search.{Search}
use Rattle.ps_types.specs.Writing.{before, stands_in}
use Rattle.ps_types.specs.InsideSearch.{lower_of, seen, all_below, none_between, Least}

-- ---- one more member

below_more : (f x : ℕ) (xs : List ℕ) → x < f → all_below f xs → all_below f (xs ++ x ∷ [])
below_more f x [] lt h = (lt, tt)
below_more f x (z ∷ zs) lt h = (h.0, below_more f x zs lt h.1)

between_more : (f y x : ℕ) (xs : List ℕ) → (x < f) ⊎ (y ≤ x) → none_between f y xs → none_between f y (xs ++ x ∷ [])
between_more f y x [] e h = (e, tt)
between_more f y x (z ∷ zs) e h = (h.0, between_more f y x zs e h.1)

between_below : (f y : ℕ) (xs : List ℕ) → all_below f xs → none_between f y xs
between_below f y [] h = tt
between_below f y (z ∷ zs) h = (inl h.0, between_below f y zs h.1)

lower_bound : (f y x z : ℕ) → x < y → (z < f) ⊎ (y ≤ z) → (z < f) ⊎ (x ≤ z)
lower_bound f y x z lt (inl h) = inl h
lower_bound f y x z lt (inr h) = inr (omega arith)

between_lower : (f y x : ℕ) (xs : List ℕ) → x < y → none_between f y xs → none_between f x xs
between_lower f y x [] lt h = tt
between_lower f y x (z ∷ zs) lt h = (lower_bound f y x z lt h.0, between_lower f y x zs lt h.1)

stands_last : (x : ℕ) (xs : List ℕ) → stands_in x (xs ++ x ∷ []) ≡ true
stands_last x [] = or_left (x == x) false (eq-eqb x x refl)
stands_last x (z ∷ zs) = or_right (z == x) (stands_in x (zs ++ x ∷ [])) (stands_last x zs)

stands_more : (y x : ℕ) (xs : List ℕ) → stands_in y xs ≡ true → stands_in y (xs ++ x ∷ []) ≡ true
stands_more y x [] h = absurd cc
stands_more y x (z ∷ zs) h = step (stands_more y x zs) (or_cases (z == y) (stands_in y zs) h)
  where
    step : (stands_in y zs ≡ true → stands_in y (zs ++ x ∷ []) ≡ true) → ((z == y) ≡ true) ⊎ (stands_in y zs ≡ true) → (z == y || stands_in y (zs ++ x ∷ [])) ≡ true
    step rest (inl e) = or_left (z == y) (stands_in y (zs ++ x ∷ [])) e
    step rest (inr e) = or_right (z == y) (stands_in y (zs ++ x ∷ [])) (rest e)

-- the least of some is kept up where one more is met
least_more : (f x : ℕ) (xs : List ℕ) (o : Option ℕ) → Least f xs o → Least f (xs ++ x ∷ []) (lower_of f o x)
least_more f x xs None h = step (nat_lt x f) refl
  where
    step : (b : Bool) → nat_lt x f ≡ b → Least f (xs ++ x ∷ []) (if b then None else Some x)
    step true e = record { below = below_more f x xs (ltb-true x f e) h.below }
    step false e = record { reaches = ltb-false x f e; stands = stands_last x xs; least = between_more f x x xs (inr (omega arith)) (between_below f x xs h.below) }
least_more f x xs (Some y) h = step (nat_lt x f) (nat_lt x y) refl refl
  where
    step : (b d : Bool) → nat_lt x f ≡ b → nat_lt x y ≡ d → Least f (xs ++ x ∷ []) (if b then Some y else (if d then Some x else Some y))
    step true d e g = record { reaches = h.reaches; stands = stands_more y x xs h.stands; least = between_more f y x xs (inl (ltb-true x f e)) h.least }
    step false true e g = record { reaches = ltb-false x f e; stands = stands_last x xs; least = between_more f x x xs (inr (omega arith)) (between_lower f y x xs (ltb-true x y g) h.least) }
    step false false e g = record { reaches = h.reaches; stands = stands_more y x xs h.stands; least = between_more f y x xs (inr (ltb-false x y g)) h.least }

-- ---- a whole search

-- behind the variable where it stops, a search finds nothing more
pub met_stays : (s : Search) (xs : List ℕ) → s.met ≡ true → fold seen s xs ≡ s
met_stays s [] h = refl
met_stays s (x ∷ xs) h = ap (λ (b : Bool). fold seen (if b then s else (if x == s.stop then record s { met = true } else record s { least = lower_of s.floor s.least x })) xs) h ∙ met_stays s xs h

abbrev after : Search → ℕ → Bool → Search
after s x b = if b then record s { met = true } else record s { least = lower_of s.floor s.least x }

next_seen : (s : Search) (x : ℕ) → s.met ≡ false → seen s x ≡ after s x (x == s.stop)
next_seen s x h = ap (λ (b : Bool). if b then s else after s x (x == s.stop)) h

-- a search that has found the least of what it has met finds that of all before it stops
finds : (s : Search) (done xs : List ℕ) → s.met ≡ false → Least s.floor done s.least → Least s.floor (done ++ before s.stop xs) (fold seen s xs).least
finds s done [] h k = subst (λ (ys : List ℕ). Least s.floor ys s.least) (sym (append-nil done)) k
finds s done (x ∷ xs) h k =
    subst (λ (z : Search). Least s.floor (done ++ before s.stop (x ∷ xs)) (fold seen z xs).least) (sym (next_seen s x h))
    (step (x == s.stop) (finds (record s { least = lower_of s.floor s.least x }) (done ++ x ∷ []) xs h (least_more s.floor x done s.least k)))
  where
    step : (b : Bool) → Least s.floor ((done ++ x ∷ []) ++ before s.stop xs) (fold seen (after s x false) xs).least → Least s.floor (done ++ (if b then [] else x ∷ before s.stop xs)) (fold seen (after s x b) xs).least
    step true rest = rw (append-nil done, met_stays (record s { met = true }) xs refl) k
    step false rest = subst (λ (ys : List ℕ). Least s.floor ys (fold seen (after s x false) xs).least) (append_assoc done (x ∷ []) (before s.stop xs)) rest

pub finds_least : (s : Search) (xs : List ℕ) → s.met ≡ false → s.least ≡ None → Least s.floor (before s.stop xs) (fold seen s xs).least
finds_least s xs h e = finds s [] xs h (subst (λ (o : Option ℕ). Least s.floor [] o) (sym e) (record { below = tt }))
