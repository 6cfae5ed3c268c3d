-- The variables that are noted have their places as their numbers.
-- For: note, firsts_of
use Rattle.std.proofs.Common.{◌≡◌, ◌≢◌, ℕ, zero, suc, ◌<◌, ◌≤◌, nat_lt, Bool, true, false, List, [], ◌∷◌, ◌++◌, length, get_or, Some, ◌⊎◌, inl, inr, refl, sym, ap, subst, ◌∙◌, append_assoc, arith}
use Rattle.std.specs.Prelude.{◌==◌, ◌||◌, if◌then◌else◌, slice_get}
use Rattle.std.specs.List.{fold}
use Rattle.std.proofs.lemmas.List.{append-nil, get_or_append_left, length-append}
use Rattle.std.proofs.Math.Seq.{get_or-append_seam}
use Rattle.std.proofs.lemmas.Option.{slice_get_within, slice_get-get_or, get_or_from_slice_get}
use Rattle.std.proofs.lemmas.Bool.{eq-eqb, ne_eqb, le-ltb, or_left, or_right}
use Rattle.std.proofs.lemmas.Bool.Decides.{eqb_tells}
use Rattle.ps_types.specs.Writing.{before, different, number, stands_in}
use Rattle.ps_types.specs.InsideFirsts.{noted, Numbered}
use Rattle.ps_base.proofs.Choices.{true_false, or_false}

or_none : (b : Bool) → (b || false) ≡ b
or_none true = refl
or_none false = refl

or_true : (b : Bool) → (b || true) ≡ true
or_true true = refl
or_true false = refl

-- ---- one more member

stands_snoc : (z x : ℕ) (xs : List ℕ) → stands_in z (xs ++ x ∷ []) ≡ (stands_in z xs || x == z)
stands_snoc z x [] = or_none (x == z)
stands_snoc z x (y ∷ ys) = go (y == z) (stands_snoc z x ys)
  where
    go : (b : Bool) → stands_in z (ys ++ x ∷ []) ≡ (stands_in z ys || x == z) → (b || stands_in z (ys ++ x ∷ [])) ≡ ((b || stands_in z ys) || x == z)
    go true h = refl
    go false h = h

-- a member that is no other stays no other where a new one is added
stays : (y x : ℕ) (ys : List ℕ) → (x == y) ≡ false → stands_in y (ys ++ x ∷ []) ≡ stands_in y ys
stays y x ys other = stands_snoc y x ys ∙ ap (λ b. stands_in y ys || b) other ∙ or_none (stands_in y ys)

pub new_counts : (x : ℕ) (xs : List ℕ) → stands_in x xs ≡ false → different (xs ++ x ∷ []) ≡ suc (different xs)
new_counts x [] h = refl
new_counts x (y ∷ ys) h =
    let both = or_false (y == x) (stands_in x ys) h in
    let other : (x == y) ≡ false = ne_eqb x y (λ e. true_false (sym (eq-eqb y x (sym e)) ∙ both.0)) in
    rw (stays y x ys other, new_counts x ys both.1) (go (stands_in y ys))
  where
    go : (b : Bool) → (if b then suc (different ys) else suc (suc (different ys))) ≡ suc (if b then different ys else suc (different ys))
    go true = refl
    go false = refl

old_counts_not : (x : ℕ) (xs : List ℕ) → stands_in x xs ≡ true → different (xs ++ x ∷ []) ≡ different xs
old_counts_not x [] is = true_false (sym is)
old_counts_not x (y ∷ ys) is = step (stands_in x ys) refl (eqb_tells x y) (old_counts_not x ys)
  where
    -- y is x
    here : x ≡ y → (b : Bool) → stands_in x ys ≡ b → (stands_in x ys ≡ true → different (ys ++ x ∷ []) ≡ different ys) → different ((y ∷ ys) ++ x ∷ []) ≡ different (y ∷ ys)
    here e true h ih = rw (stands_snoc y x ys, sym e, h, ih h) refl
    here e false h ih = rw (stands_snoc y x ys, sym e, h, eq-eqb x x refl, new_counts x ys h) refl

    step : (b : Bool) → stands_in x ys ≡ b → (((x == y) ≡ true) × (x ≡ y)) ⊎ (((x == y) ≡ false) × (x ≢ y)) → (stands_in x ys ≡ true → different (ys ++ x ∷ []) ≡ different ys) → different ((y ∷ ys) ++ x ∷ []) ≡ different (y ∷ ys)
    step b h (inl e) ih = here e.1 b h ih
    step true h (inr e) ih = rw (stays y x ys e.0, ih h) refl
    step false h (inr e) ih = true_false (sym is ∙ rw (h, ne_eqb y x (λ q. e.1 (sym q))) refl)

before_new : (x : ℕ) (xs ys : List ℕ) → stands_in x xs ≡ false → before x (xs ++ x ∷ ys) ≡ xs
before_new x [] ys h = ap (λ (b : Bool). if b then [] else x ∷ before x ys) (eq-eqb x x refl)
before_new x (z ∷ zs) ys h =
    let both = or_false (z == x) (stands_in x zs) h in
    ap (λ (b : Bool). if b then [] else z ∷ before x (zs ++ x ∷ ys)) both.0 ∙ ap (λ l. z ∷ l) (before_new x zs ys both.1)

-- ---- one note

stands_at : (x i : ℕ) (xs : List ℕ) → slice_get xs i ≡ Some x → stands_in x xs ≡ true
stands_at x i [] is = nothing (slice_get_within [] i x is)
  where
    nothing : {A : Type 0} → i < 0 → A
    nothing lt = absurd (omega arith)
stands_at x zero (y ∷ ys) is = or_left (y == x) (stands_in x ys) (eq-eqb y x (get_or_from_slice_get (y ∷ ys) 0 x 0 is))
stands_at x (suc i) (y ∷ ys) is = or_right (y == x) (stands_in x ys) (stands_at x i ys is)

pub noted_again : (x i : ℕ) (xs : List ℕ) → slice_get xs i ≡ Some x → xs ≡ noted xs x
noted_again x i xs is = rw (stands_at x i xs is) refl

pub noted_full : (x : ℕ) (xs : List ℕ) → stands_in x xs ≡ false → 1000 ≤ length xs → xs ≡ noted xs x
noted_full x xs other le = rw (other, le-ltb (length xs) 1000 le) refl

-- ---- a walk over the variables

-- After some variables, what was noted is numbered whatever comes behind, and is all that was met, unless there is no room.
record After (done firsts : List ℕ) : Type 0 where
  at : (ys : List ℕ) → Numbered (done ++ ys) firsts
  whole : nat_lt (length firsts) 1000 ≡ true → (different done ≡ length firsts) × ((x : ℕ) → stands_in x done ≡ stands_in x firsts)

module _ (done firsts : List ℕ) (x : ℕ) (so_far : After done firsts) where
  at_next : (ys : List ℕ) → Numbered ((done ++ x ∷ []) ++ ys) firsts
  at_next ys = subst (λ l. Numbered l firsts) (sym (append_assoc done (x ∷ []) ys)) (so_far.at (x ∷ ys))

  -- it was noted before
  again : stands_in x firsts ≡ true → After (done ++ x ∷ []) firsts
  again old = record {
    at = at_next;
    whole = λ room.
        let w = so_far.whole room in
        (old_counts_not x done (w.1 x ∙ old) ∙ w.0, λ z. stands_snoc z x done ∙ ap (λ b. b || x == z) (w.1 z) ∙ known z (eqb_tells x z));
  }
    where
      known : (z : ℕ) → (((x == z) ≡ true) × (x ≡ z)) ⊎ (((x == z) ≡ false) × (x ≢ z)) → (stands_in z firsts || x == z) ≡ stands_in z firsts
      known z (inl e) = ap (λ b. stands_in z firsts || b) e.0 ∙ or_true (stands_in z firsts) ∙ sym (subst (λ y. stands_in y firsts ≡ true) e.1 old)
      known z (inr e) = ap (λ b. stands_in z firsts || b) e.0 ∙ or_none (stands_in z firsts)

  -- there is no room
  full : nat_lt (length firsts) 1000 ≡ false → After (done ++ x ∷ []) firsts
  full filled = record { at = at_next; whole = λ room. true_false (sym room ∙ filled) }

  -- it is new
  fresh : stands_in x firsts ≡ false → nat_lt (length firsts) 1000 ≡ true → After (done ++ x ∷ []) (firsts ++ x ∷ [])
  fresh other room = record {
    at = λ ys. record { at = λ i z is. placed ys i z is (eqb_tells i (length firsts)) };
    whole = λ more. (new_counts x done missed ∙ ap suc w.0 ∙ sym (omega (arith, length-append firsts (x ∷ []))), λ z. stands_snoc z x done ∙ ap (λ b. b || x == z) (w.1 z) ∙ sym (stands_snoc z x firsts));
  }
    where
      w : (different done ≡ length firsts) × ((z : ℕ) → stands_in z done ≡ stands_in z firsts)
      w = so_far.whole room

      missed : stands_in x done ≡ false
      missed = w.1 x ∙ other

      placed : (ys : List ℕ) (i z : ℕ) → slice_get (firsts ++ x ∷ []) i ≡ Some z → (((i == length firsts) ≡ true) × (i ≡ length firsts)) ⊎ (((i == length firsts) ≡ false) × (i ≢ length firsts)) → number ((done ++ x ∷ []) ++ ys) z ≡ i
      placed ys i z is (inl e) =
          let last : z ≡ x = sym (get_or_from_slice_get (firsts ++ x ∷ []) i z 0 is) ∙ ap (λ k. get_or (firsts ++ x ∷ []) k 0) e.1 ∙ get_or-append_seam firsts x [] 0 in
          ap (number ((done ++ x ∷ []) ++ ys)) last ∙ ap (λ l. number l x) (append_assoc done (x ∷ []) ys) ∙ ap different (before_new x done ys missed) ∙ w.0 ∙ sym e.1
      placed ys i z is (inr e) =
          let within : i < length firsts = omega (arith, slice_get_within (firsts ++ x ∷ []) i z is, length-append firsts (x ∷ []), e.1) in
          let old : get_or firsts i 0 ≡ z = sym (get_or_append_left firsts (x ∷ []) 0 i within) ∙ get_or_from_slice_get (firsts ++ x ∷ []) i z 0 is in
          (at_next ys).at i z (slice_get-get_or firsts i 0 within ∙ ap Some old)

  one_more : After (done ++ x ∷ []) (noted firsts x)
  one_more = step (stands_in x firsts) (nat_lt (length firsts) 1000) refl refl
    where
      step : (b d : Bool) → stands_in x firsts ≡ b → nat_lt (length firsts) 1000 ≡ d → After (done ++ x ∷ []) (if b then firsts else (if d then firsts ++ x ∷ [] else firsts))
      step true d h k = again h
      step false true h k = fresh h k
      step false false h k = full k

walk : (done firsts xs : List ℕ) → After done firsts → After (done ++ xs) (fold noted firsts xs)
walk done firsts [] h = subst (λ l. After l firsts) (sym (append-nil done)) h
walk done firsts (x ∷ xs) h = subst (λ l. After l (fold noted (noted firsts x) xs)) (append_assoc done (x ∷ []) xs) (walk (done ++ x ∷ []) (noted firsts x) xs (one_more done firsts x h))

none_noted : After [] []
none_noted = record { at = λ ys. record { at = λ i x is. nothing (slice_get_within [] i x is) }; whole = λ room. (refl, λ x. refl) }
  where
    nothing : {A : Type 0} {i : ℕ} → i < 0 → A
    nothing {A} {i} lt = absurd (omega arith)

pub all_numbered : (xs firsts : List ℕ) → firsts ≡ fold noted [] xs → Numbered xs firsts
all_numbered xs firsts is = subst (λ l. Numbered xs l) (sym is) (subst (λ l. Numbered l (fold noted [] xs)) (append-nil xs) ((walk [] [] xs none_noted).at []))
