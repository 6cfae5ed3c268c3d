-- The fields of a new record are filled: its block has each value at the place of its field, and nothing else changes.
-- For: perform_maker, cells_are_counted
use Rattle.std.proofs.Common.{◌≡◌, ◌≢◌, ℕ, zero, suc, ◌+◌, ◌<◌, ◌≤◌, pos, List, [], ◌∷◌, ◌++◌, length, map, take, drop, get_or, Bool, true, false, Option, Some, None, Ok, Err, refl, sym, ap, subst, ◌∙◌, arith, ◌⊎◌, inl, inr, append_assoc}
use Rattle.std.specs.Prelude.{nat_eq, nat_le, slice_get, slice_set, replicate, if◌then◌else◌, ◌==◌}
use Rattle.std.proofs.lemmas.Bool.{le-leb, leb-true, leb-false}
use Rattle.std.proofs.lemmas.Bool.Decides.{eqb_tells}
use Rattle.std.proofs.lemmas.List.{take-append-drop, take-set, drop-set, length-set, length-replicate, map-set, length-map}
use Rattle.std.proofs.Math.Nat.{le-max_left, le-max_right}
use Rattle.ps_base.proofs.Choices.{none_some, some_same, true_false}
use Rattle.std.proofs.Math.Seq.{drop-cons, take-append_seam}
use Rattle.std.proofs.lemmas.List.{append-nil}
use Rattle.ps_base.specs.declared.faults.Op.{Op}
use Rattle.byte_store.specs.declared.event.Event.{Event}
use Rattle.byte_store.specs.declared.event.Event.TheVariants as events
use Rattle.byte_store.specs.declared.pointer.Pointer.{Pointer}
use Rattle.byte_store.specs.declared.pointer.Base.{Base}
use Rattle.byte_store.specs.declared.pointer.Base.TheVariants.{Fixed, Made}
use Rattle.byte_store.specs.declared.pointer.Pointer.TheVariants.{At}
use Rattle.byte_store.specs.Blocks.{Block, Cells, Memory, block_of, with_block, find, replaced, overwritten, next_number}
use Rattle.byte_store.specs.Operations as store
use Rattle.byte_store.specs.Operations.{and_then, inside, plus, put}
use Rattle.ps_prims.specs.Once.{times, EachOnce}
use Rattle.ps_prims.specs.Sorts.{Values}
use Rattle.ps_prims.specs.Records.{put_fields, puts_seen}
use Rattle.ps_prims.specs.InsideRecords.{scattered}

-- equal numbers
pub nat_eq_self : (n : ℕ) → nat_eq n n ≡ true
nat_eq_self n = go (eqb_tells n n)
  where
    go : ((nat_eq n n ≡ true) × (n ≡ n)) ⊎ ((nat_eq n n ≡ false) × (n ≢ n)) → nat_eq n n ≡ true
    go (inl h) = h.0
    go (inr h) = absurd (h.1 refl)

pub nat_eq_same : (n k : ℕ) → nat_eq n k ≡ true → n ≡ k
nat_eq_same n k is = go (eqb_tells n k)
  where
    go : ((nat_eq n k ≡ true) × (n ≡ k)) ⊎ ((nat_eq n k ≡ false) × (n ≢ k)) → n ≡ k
    go (inl h) = h.1
    go (inr h) = true_false (sym is ∙ h.0)

zero_plus : (n : ℕ) → 0 + n ≡ n
zero_plus n = omega arith

-- ---- members of lists

module _ {A : Type 0} where
  get_set_same : (xs : List A) (i : ℕ) (y : A) → i < length xs → slice_get (slice_set xs i y) i ≡ Some y
  get_set_same [] i y lt = absurd (omega (arith, lt))
  get_set_same (x ∷ xs) zero y lt = refl
  get_set_same (x ∷ xs) (suc i) y lt = get_set_same xs i y (omega (arith, lt))

  get_set_other : (xs : List A) (i j : ℕ) (y : A) → j ≢ i → slice_get (slice_set xs i y) j ≡ slice_get xs j
  get_set_other [] i j y other = refl
  get_set_other (x ∷ xs) zero zero y other = absurd (other refl)
  get_set_other (x ∷ xs) zero (suc j) y other = refl
  get_set_other (x ∷ xs) (suc i) zero y other = refl
  get_set_other (x ∷ xs) (suc i) (suc j) y other = get_set_other xs i j y (λ same. other (ap suc same))

  set_set : (xs : List A) (i : ℕ) (y z : A) → slice_set (slice_set xs i y) i z ≡ slice_set xs i z
  set_set [] i y z = refl
  set_set (x ∷ xs) zero y z = refl
  set_set (x ∷ xs) (suc i) y z = ap (λ l. x ∷ l) (set_set xs i y z)

  set_same : (xs : List A) (i : ℕ) (y : A) → slice_get xs i ≡ Some y → slice_set xs i y ≡ xs
  set_same [] i y is = refl
  set_same (x ∷ xs) zero y is = ap (λ z. z ∷ xs) (sym (some_same is))
  set_same (x ∷ xs) (suc i) y is = ap (λ l. x ∷ l) (set_same xs i y is)

  get_last : (xs : List A) (y : A) → slice_get (xs ++ y ∷ []) (length xs) ≡ Some y
  get_last [] y = refl
  get_last (x ∷ xs) y = get_last xs y

  set_last : (xs : List A) (y z : A) → slice_set (xs ++ y ∷ []) (length xs) z ≡ xs ++ z ∷ []
  set_last [] y z = refl
  set_last (x ∷ xs) y z = ap (λ l. x ∷ l) (set_last xs y z)

  same_members : (xs ys : List A) → length xs ≡ length ys → ((j : ℕ) → j < length xs → slice_get xs j ≡ slice_get ys j) → xs ≡ ys
  same_members [] [] long same = refl
  same_members [] (y ∷ ys) long same = absurd (omega (arith, long))
  same_members (x ∷ xs) [] long same = absurd (omega (arith, long))
  same_members (x ∷ xs) (y ∷ ys) long same =
      ap (λ z. z ∷ xs) (some_same (same 0 (omega arith))) ∙ ap (λ l. y ∷ l) (same_members xs ys (omega (arith, long)) (λ j lt. same (suc j) (omega (arith, lt))))

  set_is : (xs : List A) (k : ℕ) (y : A) → k < length xs → take k xs ++ (y ∷ drop (k + 1) xs) ≡ slice_set xs k y
  set_is xs k y lt = sym (sym (take-append-drop k (slice_set xs k y)) ∙ ap (λ l. l ++ drop k (slice_set xs k y)) (take-set xs k y) ∙ ap (λ l. take k xs ++ l) (drop-set xs k y lt))

  -- one member in place of another
  overwritten_one : (xs : List A) (k : ℕ) (y : A) → k < length xs → overwritten (y ∷ []) xs (pos k) ≡ Some (slice_set xs k y)
  overwritten_one xs k y lt = go (nat_le (k + length (y ∷ [])) (length xs)) (le-leb (k + length (y ∷ [])) (length xs) (omega (arith, lt)))
    where
      go : (b : Bool) → b ≡ true → (if b then Some (take k xs ++ (y ∷ []) ++ drop (k + length (y ∷ [])) xs) else None) ≡ Some (slice_set xs k y)
      go true is = ap Some (append_assoc (take k xs) (y ∷ []) (drop (k + 1) xs) ∙ set_is xs k y lt)
      go false is = true_false (sym is)

-- ---- numbered values

module _ {A : Type 0} where
  find_last : (n : ℕ) (a : A) (es : List (ℕ × A)) → next_number es ≤ n → find n (es ++ (n, a) ∷ []) ≡ Some a
  find_last n a [] above = ap (λ (b : Bool). if b then Some a else None) (nat_eq_self n)
  find_last n a (e ∷ es) above = go (nat_eq n e.0) refl (find_last n a es (omega (arith, le-max_right (suc e.0) (next_number es), above)))
    where
      go : (b : Bool) → nat_eq n e.0 ≡ b → find n (es ++ (n, a) ∷ []) ≡ Some a → (if b then Some e.1 else find n (es ++ (n, a) ∷ [])) ≡ Some a
      go true is ih = absurd (omega (arith, nat_eq_same n e.0 is, le-max_left (suc e.0) (next_number es), above))
      go false is ih = ih

  replaced_last : (n : ℕ) (a b : A) (es : List (ℕ × A)) → next_number es ≤ n → replaced n b (es ++ (n, a) ∷ []) ≡ es ++ (n, b) ∷ []
  replaced_last n a b [] above = ap (λ (t : Bool). if t then (n, b) ∷ [] else (n, a) ∷ []) (nat_eq_self n)
  replaced_last n a b (e ∷ es) above = go (nat_eq n e.0) refl (replaced_last n a b es (omega (arith, le-max_right (suc e.0) (next_number es), above)))
    where
      go : (t : Bool) → nat_eq n e.0 ≡ t → replaced n b (es ++ (n, a) ∷ []) ≡ es ++ (n, b) ∷ [] → (if t then (e.0, b) ∷ (es ++ (n, a) ∷ []) else e ∷ replaced n b (es ++ (n, a) ∷ [])) ≡ e ∷ (es ++ (n, b) ∷ [])
      go true is ih = absurd (omega (arith, nat_eq_same n e.0 is, le-max_left (suc e.0) (next_number es), above))
      go false is ih = ap (λ l. e ∷ l) ih

  find_replaced : (n : ℕ) (a b : A) (es : List (ℕ × A)) → find n es ≡ Some a → find n (replaced n b es) ≡ Some b
  find_replaced n a b [] is = none_some is
  find_replaced n a b (e ∷ es) is = go (nat_eq n e.0) refl (find_replaced n a b es) is
    where
      go : (t : Bool) → nat_eq n e.0 ≡ t → (find n es ≡ Some a → find n (replaced n b es) ≡ Some b) → (if t then Some e.1 else find n es) ≡ Some a → find n (if t then (e.0, b) ∷ es else e ∷ replaced n b es) ≡ Some b
      go true e' ih h = ap (λ (t : Bool). if t then Some b else find n es) e'
      go false e' ih h = ap (λ (t : Bool). if t then Some e.1 else find n (replaced n b es)) e' ∙ ih h

  replaced_twice : (n : ℕ) (a b : A) (es : List (ℕ × A)) → replaced n b (replaced n a es) ≡ replaced n b es
  replaced_twice n a b [] = refl
  replaced_twice n a b (e ∷ es) = go (nat_eq n e.0) refl (replaced_twice n a b es)
    where
      go : (t : Bool) → nat_eq n e.0 ≡ t → replaced n b (replaced n a es) ≡ replaced n b es → replaced n b (if t then (e.0, a) ∷ es else e ∷ replaced n a es) ≡ if t then (e.0, b) ∷ es else e ∷ replaced n b es
      go true is ih = ap (λ (t : Bool). if t then (e.0, b) ∷ es else (e.0, a) ∷ replaced n b es) is
      go false is ih = ap (λ (t : Bool). if t then (e.0, b) ∷ replaced n a es else e ∷ replaced n b (replaced n a es)) is ∙ ap (λ l. e ∷ l) ih

  replaced_same : (n : ℕ) (a : A) (es : List (ℕ × A)) → find n es ≡ Some a → replaced n a es ≡ es
  replaced_same n a [] is = refl
  replaced_same n a (e ∷ es) is = go (nat_eq n e.0) (replaced_same n a es) is
    where
      go : (t : Bool) → (find n es ≡ Some a → replaced n a es ≡ es) → (if t then Some e.1 else find n es) ≡ Some a → (if t then (e.0, a) ∷ es else e ∷ replaced n a es) ≡ e ∷ es
      go true ih h = ap (λ x. (e.0, x) ∷ es) (sym (some_same h))
      go false ih h = ap (λ l. e ∷ l) (ih h)

-- ---- blocks

module _ {C : Type 0} where
  block_there : (m : Memory C) (base : Base) (a b : Block C) → block_of m base ≡ Some a → block_of (with_block m base b) base ≡ Some b
  block_there m (Fixed n) a b is = find_replaced n a b m.fixed is
  block_there m (Made n) a b is = get_set_same m.made n b (within m.made n a is)
    where
      within : (xs : List (Block C)) (i : ℕ) (y : Block C) → slice_get xs i ≡ Some y → i < length xs
      within [] i y is = none_some is
      within (x ∷ xs) zero y is = omega arith
      within (x ∷ xs) (suc i) y is = omega (arith, within xs i y is)

  with_twice : (m : Memory C) (base : Base) (a b : Block C) → with_block (with_block m base a) base b ≡ with_block m base b
  with_twice m (Fixed n) a b = ap (λ es. record m { fixed = es }) (replaced_twice n a b m.fixed)
  with_twice m (Made n) a b = ap (λ bs. record m { made = bs }) (set_set m.made n a b)

  with_same : (m : Memory C) (base : Base) (a : Block C) → block_of m base ≡ Some a → with_block m base a ≡ m
  with_same m (Fixed n) a is = ap (λ es. record m { fixed = es }) (replaced_same n a m.fixed is)
  with_same m (Made n) a is = ap (λ bs. record m { made = bs }) (set_same m.made n a is)

  -- ---- fields

  put_cell : (m : Memory C) (base : Base) (cs : List (Option C)) (f : ℕ) (v : C) → block_of m base ≡ Some (Cells cs) → f < length cs →
      put m (At base (pos 0)) (pos f) v ≡ Ok (with_block m base (Cells (slice_set cs f (Some v))))
  put_cell m base cs f v at lt =
      ap (λ k. store.change m (At base (pos k)) (store.with_cell v)) (zero_plus f)
      ∙ ap (λ o. and_then (inside o) (λ b. and_then (store.with_cell v b (pos f)) (λ c. Ok (with_block m base c)))) at
      ∙ ap (λ o. and_then (and_then (inside o) (λ bs. Ok (Cells bs))) (λ c. Ok (with_block m base c))) (overwritten_one cs f (Some v) lt)

-- each number of a list is below n
pub record Below (n : ℕ) (fs : List ℕ) : Type 0 where
  pub below : (x : ℕ) → 0 < times x fs → x < n

times_self : (f : ℕ) (fs : List ℕ) → 0 < times f (f ∷ fs)
times_self f fs = subst (λ (t : Bool). 0 < (if t then suc (times f fs) else times f fs)) (sym (nat_eq_self f)) (omega arith)

times_more : (x f : ℕ) (fs : List ℕ) → times x fs ≤ times x (f ∷ fs)
times_more x f fs = go (x == f)
  where
    go : (t : Bool) → times x fs ≤ (if t then suc (times x fs) else times x fs)
    go true = omega arith
    go false = omega arith

below_rest : (n f : ℕ) (fs : List ℕ) → Below n (f ∷ fs) → Below n fs
below_rest n f fs h = record { below = λ x some. h.below x (omega (arith, some, times_more x f fs)) }

pub below_each : (n : ℕ) (fs : List ℕ) → EachOnce n fs → Below n fs
below_each n fs h = record { below = λ x some. go x some (nat_le n x) refl }
  where
    go : (x : ℕ) → 0 < times x fs → (b : Bool) → nat_le n x ≡ b → x < n
    go x some true is = absurd (omega (arith, some, h.others x (leb-true n x is)))
    go x some false is = leb-false n x is

module _ {C : Type 0} where
  fields_put : (fs : List ℕ) (vs : List C) (m : Memory C) (base : Base) (cs : List (Option C)) → block_of m base ≡ Some (Cells cs) → Below (length cs) fs →
      put_fields m (At base (pos 0)) fs vs ≡ Ok (with_block m base (Cells (scattered fs (map Some vs) cs)))
  fields_put [] vs m base cs at low = ap Ok (sym (with_same m base (Cells cs) at))
  fields_put (f ∷ fs) [] m base cs at low = ap Ok (sym (with_same m base (Cells cs) at))
  fields_put (f ∷ fs) (v ∷ vs) m base cs at low =
      let next : List (Option C) = slice_set cs f (Some v) in
      ap (λ r. and_then r (λ m'. put_fields m' (At base (pos 0)) fs vs)) (put_cell m base cs f v at (low.below f (times_self f fs)))
      ∙ fields_put fs vs (with_block m base (Cells next)) base next (block_there m base (Cells cs) (Cells next) at) (subst (λ n. Below n fs) (sym (length-set cs f (Some v))) (below_rest (length cs) f fs low))
      ∙ ap Ok (with_twice m base (Cells next) (Cells (scattered fs (map Some vs) next)))

  -- the fields of the next fixed block
  pub fixed_filled : (m : Memory C) (fs : List ℕ) (vs : List C) (cs : List (Option C)) → Below (length cs) fs →
      put_fields (store.fixed m (next_number m.fixed) (Cells cs)) (At (Fixed (next_number m.fixed)) (pos 0)) fs vs ≡ Ok (store.fixed m (next_number m.fixed) (Cells (scattered fs (map Some vs) cs)))
  fixed_filled m fs vs cs low =
      fields_put fs vs (store.fixed m (next_number m.fixed) (Cells cs)) (Fixed (next_number m.fixed)) cs (find_last (next_number m.fixed) (Cells cs) m.fixed (omega arith)) low
      ∙ ap (λ es. Ok (record m { fixed = es })) (replaced_last (next_number m.fixed) (Cells cs) (Cells (scattered fs (map Some vs) cs)) m.fixed (omega arith))

  -- the memory with one more made block
  abbrev pub one_more : Memory C → Block C → Memory C
  one_more m b = record m { made = m.made ++ b ∷ [] }

  pub made_filled : (m : Memory C) (fs : List ℕ) (vs : List C) (cs : List (Option C)) → Below (length cs) fs →
      put_fields (one_more m (Cells cs)) (At (Made (length m.made)) (pos 0)) fs vs ≡ Ok (one_more m (Cells (scattered fs (map Some vs) cs)))
  made_filled m fs vs cs low =
      fields_put fs vs (one_more m (Cells cs)) (Made (length m.made)) cs (get_last m.made (Cells cs)) low
      ∙ ap (λ bs. Ok (record m { made = bs })) (set_last m.made (Cells cs) (Cells (scattered fs (map Some vs) cs)))

-- ---- values at their places

module _ {A : Type 0} where
  pub length_scattered : (fs : List ℕ) (vs cs : List A) → length (scattered fs vs cs) ≡ length cs
  length_scattered [] vs cs = refl
  length_scattered (f ∷ fs) [] cs = refl
  length_scattered (f ∷ fs) (v ∷ vs) cs = length_scattered fs vs (slice_set cs f v) ∙ length-set cs f v

  -- what is written everywhere has nothing of what stood there
  covered : (fs : List ℕ) (vs cs ds : List A) → length vs ≡ length fs → length cs ≡ length ds → ((j : ℕ) → j < length cs → (0 < times j fs) ⊎ (slice_get cs j ≡ slice_get ds j)) →
      scattered fs vs cs ≡ scattered fs vs ds
  covered [] vs cs ds long same h = same_members cs ds same (λ j lt. go j (h j lt))
    where
      go : (j : ℕ) → (0 < 0) ⊎ (slice_get cs j ≡ slice_get ds j) → slice_get cs j ≡ slice_get ds j
      go j (inl lt) = absurd (omega (arith, lt))
      go j (inr is) = is
  covered (f ∷ fs) [] cs ds long same h = absurd (omega (arith, long))
  covered (f ∷ fs) (v ∷ vs) cs ds long same h =
      covered fs vs (slice_set cs f v) (slice_set ds f v) (omega (arith, long)) (length-set cs f v ∙ same ∙ sym (length-set ds f v))
      (λ j lt. let within : j < length cs = subst (λ n. j < n) (length-set cs f v) lt in go j within (j == f) refl (h j within))
    where
      go : (j : ℕ) → j < length cs → (t : Bool) → (j == f) ≡ t → (0 < (if t then suc (times j fs) else times j fs)) ⊎ (slice_get cs j ≡ slice_get ds j) →
          (0 < times j fs) ⊎ (slice_get (slice_set cs f v) j ≡ slice_get (slice_set ds f v) j)
      go j lt true is h =
          let at : j ≡ f = nat_eq_same j f is in
          inr (ap (slice_get (slice_set cs f v)) at ∙ get_set_same cs f v (subst (λ k. k < length cs) at lt) ∙ sym (get_set_same ds f v (subst (λ n. f < n) same (subst (λ k. k < length cs) at lt))) ∙ ap (slice_get (slice_set ds f v)) (sym at))
      go j lt false is (inl some) = inl some
      go j lt false is (inr eq) =
          let other : j ≢ f = λ at. true_false (sym (ap (λ k. j == k) (sym at) ∙ nat_eq_self j) ∙ is) in
          inr (get_set_other cs f j v other ∙ eq ∙ sym (get_set_other ds f j v other))

map_scattered : {A B : Type 0} (g : A → B) (fs : List ℕ) (vs cs : List A) → map g (scattered fs vs cs) ≡ scattered fs (map g vs) (map g cs)
map_scattered g [] vs cs = refl
map_scattered g (f ∷ fs) [] cs = refl
map_scattered g (f ∷ fs) (v ∷ vs) cs = map_scattered g fs vs (slice_set cs f v) ∙ ap (λ l. scattered fs (map g vs) l) (map-set g cs f v)

-- each field is set
pub each_set : {A : Type 0} (n : ℕ) (fs : List ℕ) (vs : List A) (u : A) → EachOnce n fs → length vs ≡ length fs → map Some (scattered fs vs (replicate n u)) ≡ scattered fs (map Some vs) (replicate n None)
each_set n fs vs u once long =
    map_scattered Some fs vs (replicate n u)
    ∙ covered fs (map Some vs) (map Some (replicate n u)) (replicate n None) (length-map vs Some ∙ long) (length-map (replicate n u) Some ∙ length-replicate n u ∙ sym (length-replicate n None))
    (λ j lt. inl (omega (arith, once.once j (subst (λ k. j < k) (length-map (replicate n u) Some ∙ length-replicate n u) lt))))

-- ---- places

times_at : (fs : List ℕ) (i : ℕ) → i < length fs → 0 < times (get_or fs i 0) fs
times_at [] i lt = absurd (omega (arith, lt))
times_at (f ∷ fs) zero lt = times_self f fs
times_at (f ∷ fs) (suc i) lt = omega (arith, times_at fs i (omega (arith, lt)), times_more (get_or fs i 0) f fs)

pub each_within : (n : ℕ) (fs : List ℕ) (i : ℕ) → EachOnce n fs → i < length fs → get_or fs i 0 < n
each_within n fs i once lt = (below_each n fs once).below (get_or fs i 0) (times_at fs i lt)

pub drop_all : {A : Type 0} (n : ℕ) (xs : List A) → length xs ≤ n → drop n xs ≡ []
drop_all zero [] long = refl
drop_all zero (x ∷ xs) long = absurd (omega (arith, long))
drop_all (suc n) [] long = refl
drop_all (suc n) (x ∷ xs) long = drop_all n xs (omega (arith, long))

pub scattered_end : {A : Type 0} (fs : List ℕ) (vs cs : List A) (i : ℕ) → length fs ≤ i → scattered (drop i fs) (drop i vs) cs ≡ cs
scattered_end fs vs cs i past = ap (λ l. scattered l (drop i vs) cs) (drop_all i fs past)

-- ---- one field after another

module _ {V : Type 0} (values : Values V) (p : Pointer) (fs : List ℕ) (vs : List V) (i : ℕ) (d : V) (within : i < length fs) (long : length vs ≡ length fs) where
  next_f : drop i fs ≡ get_or fs i 0 ∷ drop (i + 1) fs
  next_f = drop-cons fs i 0 within ∙ ap (λ n. get_or fs i 0 ∷ drop n fs) (more i)
    where
      more : (n : ℕ) → suc n ≡ n + 1
      more n = omega arith

  next_v : drop i vs ≡ get_or vs i d ∷ drop (i + 1) vs
  next_v = drop-cons vs i d (omega (arith, within, long)) ∙ ap (λ n. get_or vs i d ∷ drop n vs) (more i)
    where
      more : (n : ℕ) → suc n ≡ n + 1
      more n = omega arith

  put_next : (m : Memory V) → put_fields m p (drop i fs) (drop i vs) ≡ and_then (put m p (pos (get_or fs i 0)) (get_or vs i d)) (λ m'. put_fields m' p (drop (i + 1) fs) (drop (i + 1) vs))
  put_next m = ap (λ l. put_fields m p l (drop i vs)) next_f ∙ ap (λ l. put_fields m p (get_or fs i 0 ∷ drop (i + 1) fs) l) next_v

  pub puts_on : (m n : Memory V) → put m p (pos (get_or fs i 0)) (get_or vs i d) ≡ Ok n → put_fields m p (drop i fs) (drop i vs) ≡ put_fields n p (drop (i + 1) fs) (drop (i + 1) vs)
  puts_on m n is = put_next m ∙ ap (λ r. and_then r (λ m'. put_fields m' p (drop (i + 1) fs) (drop (i + 1) vs))) is

  pub puts_stop : (m : Memory V) (op : Op) → put m p (pos (get_or fs i 0)) (get_or vs i d) ≡ Err op → put_fields m p (drop i fs) (drop i vs) ≡ Err op
  puts_stop m op is = put_next m ∙ ap (λ r. and_then r (λ m'. put_fields m' p (drop (i + 1) fs) (drop (i + 1) vs))) is

  pub seen_on : (es : List Event) → es ++ puts_seen values p (drop i fs) (drop i vs) ≡ (es ++ events.Put (plus p (pos (get_or fs i 0))) (values.word (get_or vs i d)) ∷ []) ++ puts_seen values p (drop (i + 1) fs) (drop (i + 1) vs)
  seen_on es =
      ap (λ l. es ++ puts_seen values p l (drop i vs)) next_f ∙ ap (λ l. es ++ puts_seen values p (get_or fs i 0 ∷ drop (i + 1) fs) l) next_v
      ∙ sym (append_assoc es (events.Put (plus p (pos (get_or fs i 0))) (values.word (get_or vs i d)) ∷ []) (puts_seen values p (drop (i + 1) fs) (drop (i + 1) vs)))

  pub tells_on : (old es new all : List Event) (e : Event) → (more : List Event) × (es ≡ old ++ more) → es ++ puts_seen values p (drop i fs) (drop i vs) ≡ all → new ≡ es ++ e ∷ [] → e ≡ events.Put (plus p (pos (get_or fs i 0))) (values.word (get_or vs i d)) →
      ((more : List Event) × (new ≡ old ++ more)) × (new ++ puts_seen values p (drop (i + 1) fs) (drop (i + 1) vs) ≡ all)
  tells_on old es new all e begun rest told is = (
    (begun.0 ++ e ∷ [], told ∙ ap (λ l. l ++ e ∷ []) begun.1 ∙ append_assoc old begun.0 (e ∷ [])),
    ap (λ l. l ++ puts_seen values p (drop (i + 1) fs) (drop (i + 1) vs)) (told ∙ ap (λ x. es ++ x ∷ []) is) ∙ sym (seen_on es) ∙ rest,
  )

-- what stood in front is kept
pub taken_back : {A : Type 0} (old more : List A) → take (length old) (old ++ more) ≡ old
taken_back old more = take-append_seam old more

pub puts_end : {V : Type 0} (m : Memory V) (p : Pointer) (fs : List ℕ) (vs : List V) (i : ℕ) → length fs ≤ i → put_fields m p (drop i fs) (drop i vs) ≡ Ok m
puts_end m p fs vs i past = ap (λ l. put_fields m p l (drop i vs)) (drop_all i fs past)

pub seen_end : {V : Type 0} (values : Values V) (es : List Event) (p : Pointer) (fs : List ℕ) (vs : List V) (i : ℕ) → length fs ≤ i → es ++ puts_seen values p (drop i fs) (drop i vs) ≡ es
seen_end values es p fs vs i past = ap (λ l. es ++ puts_seen values p l (drop i vs)) (drop_all i fs past) ∙ append-nil es
