-- Pointers stay: no operation takes a block away or changes its length.
-- For: pointers_stay
use Rattle.std.proofs.Common.{◌≡◌, ℕ, ℤ, pos, negsuc, zero, suc, ◌+◌, ◌≤◌, List, [], ◌∷◌, ◌++◌, length, map, take, drop, Bool, true, false, Option, Some, None, Result, Ok, Err, refl, sym, ap, ◌∙◌, subst, arith}
use Rattle.std.specs.Prelude.{nat_eq, nat_le, nat_lt, slice_get, slice_set, if◌then◌else◌, IsTrue, replicate, ◌+ℤ◌}
use Rattle.std.specs.Option.{option_map}
use Rattle.std.proofs.lemmas.List.{map-set, set-get_or, length-append, length-drop, length-take-le}
use Rattle.std.proofs.lemmas.Option.{slice_get-map, get_or_from_slice_get}
use Rattle.std.proofs.lemmas.Bool.{leb-true, le-leb}
use Rattle.ps_base.specs.declared.faults.Op.{Op}
use Rattle.ps_base.specs.declared.faults.Op.TheVariants as ops
use Rattle.byte_store.specs.declared.pointer.Base.{Base}
use Rattle.byte_store.specs.declared.pointer.Base.TheVariants.{Fixed, Made}
use Rattle.byte_store.specs.declared.pointer.Pointer.{Pointer}
use Rattle.byte_store.specs.declared.pointer.Pointer.TheVariants.{Null, At}
use Rattle.byte_store.specs.Worlds.{Surroundings, next_grant}
use Rattle.byte_store.specs.Blocks.{Block, Bytes, Cells, Freed, Memory, find, replaced, block_of, with_block, length_of, is_within, is_pointer, overwritten, rest, beside}
use Rattle.byte_store.specs.Operations.{and_then, inside, change, with_bytes, with_cell, freed, plus, place_at, moved, set_byte, release, granted, allocation, fixed, is_size, bytes_of_word}
use Rattle.byte_store.specs.Store.{KeepsPointers, Keeps, AllocationKeeps, PointersStay}
use Rattle.ps_base.proofs.Choices.{none_some, err_ok, some_same}

abbrev IsSameOk : {A : Type 0} → A → A → Type 0
IsSameOk {A} a b = ◌≡◌ {A = Result A Op} (Ok a) (Ok b)

ok_same : {A : Type 0} {a b : A} → IsSameOk a b → a ≡ b
ok_same {A} {a} {b} e = let same : IsSameOk a b = e in cc

-- ---- numbered values

-- a number that is found keeps its measure
found_measure : {A B : Type 0} (f : A → B) (n k : ℕ) (new : A) (es : List (ℕ × A)) → option_map f (find n es) ≡ Some (f new) → option_map f (find k (replaced n new es)) ≡ option_map f (find k es)
found_measure f n k new [] same = refl
found_measure {A} {B} f n k new (e ∷ es) same = go (nat_eq n e.0) refl (nat_eq k e.0) same (found_measure f n k new es)
  where
    go : (b : Bool) → nat_eq n e.0 ≡ b → (d : Bool) → option_map f (if b then Some e.1 else find n es) ≡ Some (f new) →
        (option_map f (find n es) ≡ Some (f new) → option_map f (find k (replaced n new es)) ≡ option_map f (find k es)) →
        option_map f (find k (if b then (e.0, new) ∷ es else e ∷ replaced n new es)) ≡ option_map f (if nat_eq k e.0 then Some e.1 else find k es)
    go true is d here ih = at_same (nat_eq k e.0)
      where
        at_same : (d : Bool) → option_map f (if d then Some new else find k es) ≡ option_map f (if d then Some e.1 else find k es)
        at_same true = sym here
        at_same false = refl
    go false is d here ih = at_other (nat_eq k e.0)
      where
        at_other : (d : Bool) → option_map f (if d then Some e.1 else find k (replaced n new es)) ≡ option_map f (if d then Some e.1 else find k es)
        at_other true = refl
        at_other false = ih here

-- what is found stays where more comes behind
found_stays : {A : Type 0} (k : ℕ) (a : A) (es fs : List (ℕ × A)) → find k es ≡ Some a → find k (es ++ fs) ≡ Some a
found_stays k a [] fs is = none_some is
found_stays {A} k a (e ∷ es) fs is = go (nat_eq k e.0) is (found_stays k a es fs)
  where
    go : (d : Bool) → (if d then Some e.1 else find k es) ≡ Some a → (find k es ≡ Some a → find k (es ++ fs) ≡ Some a) → (if d then Some e.1 else find k (es ++ fs)) ≡ Some a
    go true h ih = h
    go false h ih = ih h

got_stays : {A : Type 0} (k : ℕ) (a : A) (xs ys : List A) → slice_get xs k ≡ Some a → slice_get (xs ++ ys) k ≡ Some a
got_stays k a [] ys is = none_some is
got_stays zero a (x ∷ xs) ys is = is
got_stays (suc k) a (x ∷ xs) ys is = got_stays k a xs ys is

got_last : {A : Type 0} (xs : List A) (a : A) → slice_get (xs ++ a ∷ []) (length xs) ≡ Some a
got_last [] a = refl
got_last (x ∷ xs) a = got_last xs a

-- the member that was there, put back
set_as_was : {A : Type 0} (xs : List A) (n : ℕ) (a : A) → slice_get xs n ≡ Some a → slice_set xs n a ≡ xs
set_as_was xs n a is = ap (λ b. slice_set xs n b) (sym (get_or_from_slice_get xs n a a is)) ∙ set-get_or xs n a

-- ---- pointers

module _ {C : Type 0} where
  -- whether an offset is within is told by the block's length
  within_same : (a b : Option (Block C)) (offset : ℤ) → option_map length_of a ≡ option_map length_of b → is_within a offset ≡ is_within b offset
  within_same None None offset same = refl
  within_same None (Some y) offset same = none_some same
  within_same (Some x) None offset same = none_some (sym same)
  within_same (Some x) (Some y) (pos k) same = ap (nat_le k) (some_same same)
  within_same (Some x) (Some y) (negsuc k) same = refl

  same_lengths_keep : (m n : Memory C) → ((base : Base) → option_map length_of (block_of n base) ≡ option_map length_of (block_of m base)) → KeepsPointers m n
  same_lengths_keep m n same Null h = h
  same_lengths_keep m n same (At base offset) h = subst IsTrue (sym (within_same (block_of n base) (block_of m base) offset (same base))) h

  -- a block is put back with its length
  put_back : (m : Memory C) (base : Base) (b c : Block C) → block_of m base ≡ Some b → length_of c ≡ length_of b → KeepsPointers m (with_block m base c)
  put_back m (Fixed n) b c is long = same_lengths_keep m (with_block m (Fixed n) c) go
    where
      go : (base : Base) → option_map length_of (block_of (with_block m (Fixed n) c) base) ≡ option_map length_of (block_of m base)
      go (Fixed k) = found_measure length_of n k c m.fixed (ap (option_map length_of) is ∙ ap Some (sym long))
      go (Made k) = refl
  put_back m (Made n) b c is long = same_lengths_keep m (with_block m (Made n) c) go
    where
      at_n : slice_get (map length_of m.made) n ≡ Some (length_of c)
      at_n = slice_get-map length_of m.made n ∙ ap (option_map length_of) is ∙ ap Some (sym long)

      go : (base : Base) → option_map length_of (block_of (with_block m (Made n) c) base) ≡ option_map length_of (block_of m base)
      go (Fixed k) = refl
      go (Made k) =
          sym (slice_get-map length_of (slice_set m.made n c) k) ∙ ap (λ ls. slice_get ls k) (map-set length_of m.made n c ∙ set_as_was (map length_of m.made) n (length_of c) at_n) ∙ slice_get-map length_of m.made k

  -- a change that keeps each block's length
  change_keeps : (m : Memory C) (p : Pointer) (f : Block C → ℤ → Result (Block C) Op) → ((b c : Block C) (at : ℤ) → f b at ≡ Ok c → length_of c ≡ length_of b) → Keeps m (change m p f)
  change_keeps m Null f long new is = err_ok is
  change_keeps m (At base offset) f long new is = go (block_of m base) refl is
    where
      go : (found : Option (Block C)) → block_of m base ≡ found → and_then (inside found) (λ b. and_then (f b offset) (λ c. Ok (with_block m base c))) ≡ Ok new → KeepsPointers m new
      go None at h = err_ok h
      go (Some b) at h = into (f b offset) refl h
        where
          into : (r : Result (Block C) Op) → f b offset ≡ r → and_then r (λ c. Ok (with_block m base c)) ≡ Ok new → KeepsPointers m new
          into (Ok c) e k = subst (KeepsPointers m) (ok_same k) (put_back m base b c at (long b c offset e))
          into (Err op) e k = err_ok k

-- ---- the operations keep lengths

overwritten_long : {A : Type 0} (new xs ys : List A) (at : ℤ) → overwritten new xs at ≡ Some ys → length ys ≡ length xs
overwritten_long {A} new xs ys (pos k) is = go (nat_le (k + length new) (length xs)) refl is
  where
    front : List A
    front = take k xs ++ new

    all : List A
    all = front ++ drop (k + length new) xs

    go : (b : Bool) → nat_le (k + length new) (length xs) ≡ b → (if b then Some all else None) ≡ Some ys → length ys ≡ length xs
    go true e h =
        let fits : k + length new ≤ length xs = leb-true _ _ e in
        let start : length (take k xs) ≡ k = length-take-le k xs (omega (arith, fits)) in
        let one : length front ≡ length (take k xs) + length new = length-append (take k xs) new in
        let two : length all ≡ length front + length (drop (k + length new) xs) = length-append front (drop (k + length new) xs) in
        ap length (sym (some_same h)) ∙ omega (arith, fits, start, one, two, length-drop (k + length new) xs)
    go false e h = none_some h
overwritten_long new xs ys (negsuc k) is = none_some is

inside_ok : {A B : Type 0} (o : Option A) (f : A → Result B Op) (b : B) → and_then (inside o) f ≡ Ok b → (a : A) × (o ≡ Some a) × (f a ≡ Ok b)
inside_ok None f b is = err_ok is
inside_ok (Some a) f b is = (a, refl, is)

module _ {C : Type 0} where
  with_bytes_long : (new : List ℕ) (b c : Block C) (at : ℤ) → with_bytes new b at ≡ Ok c → length_of c ≡ length_of b
  with_bytes_long new (Bytes bytes) c at is =
      let o = inside_ok (overwritten (map Some new) bytes at) (λ bs. Ok (Bytes bs)) c is in
      ap length_of (sym (ok_same o.2)) ∙ overwritten_long (map Some new) bytes o.0 at o.1
  with_bytes_long new (Cells cells) c at is = err_ok is
  with_bytes_long new (Freed n) c at is = err_ok is

  with_cell_long : (x : C) (b c : Block C) (at : ℤ) → with_cell x b at ≡ Ok c → length_of c ≡ length_of b
  with_cell_long x (Bytes bytes) c at is = err_ok is
  with_cell_long x (Cells cells) c at is =
      let o = inside_ok (overwritten (Some x ∷ []) cells at) (λ cs. Ok (Cells cs)) c is in
      ap length_of (sym (ok_same o.2)) ∙ overwritten_long (Some x ∷ []) cells o.0 at o.1
  with_cell_long x (Freed n) c at is = err_ok is

  freed_long : (b c : Block C) (at : ℤ) → freed b at ≡ Ok c → length_of c ≡ length_of b
  freed_long (Bytes bytes) c at is = ap length_of (sym (ok_same is))
  freed_long (Cells cells) c at is = ap length_of (sym (ok_same is))
  freed_long (Freed n) c at is = err_ok is

  -- ---- new blocks

  -- what was found stays found
  more_blocks : (m n : Memory C) → ((base : Base) (b : Block C) → block_of m base ≡ Some b → block_of n base ≡ Some b) → KeepsPointers m n
  more_blocks m n stays Null h = h
  more_blocks m n stays (At base offset) h = go (block_of m base) refl h
    where
      go : (found : Option (Block C)) → block_of m base ≡ found → IsTrue (is_within found offset) → IsTrue (is_within (block_of n base) offset)
      go None at k = absurd (let clash : false ≡ true = k in cc)
      go (Some b) at k = subst (λ o. IsTrue (is_within o offset)) (sym (stays base b at)) k

  fixed_keeps : (m : Memory C) (number : ℕ) (b : Block C) → KeepsPointers m (fixed m number b)
  fixed_keeps m number b = more_blocks m (fixed m number b) go
    where
      go : (base : Base) (x : Block C) → block_of m base ≡ Some x → block_of (fixed m number b) base ≡ Some x
      go (Fixed k) x is = found_stays k x m.fixed ((number, b) ∷ []) is
      go (Made k) x is = is

  granted_keeps : (m : Memory C) (w : Surroundings) (b : Block C) (grant : Bool) → KeepsPointers m (granted m w b grant).memory × IsTrue (is_pointer (granted m w b grant).memory (granted m w b grant).pointer)
  granted_keeps m w b false = (λ p h. h, refl)
  granted_keeps m w b true = (more_blocks m (record m { made = m.made ++ b ∷ [] }) go, ap (λ o. is_within o (pos 0)) (got_last m.made b) ∙ zero_within (length_of b))
    where
      zero_within : (n : ℕ) → nat_le 0 n ≡ true
      zero_within n = le-leb 0 n (omega arith)

      go : (base : Base) (x : Block C) → block_of m base ≡ Some x → block_of (record m { made = m.made ++ b ∷ [] }) base ≡ Some x
      go (Fixed k) x is = is
      go (Made k) x is = got_stays k x m.made (b ∷ []) is

  allocation_keeps : (m : Memory C) (w : Surroundings) (size : ℤ) (make : ℕ → Block C) → AllocationKeeps m (allocation m w size make)
  allocation_keeps m w (pos n) make a is = go (is_size n) is
    where
      go : (b : Bool) → (if b then Ok (granted m w (make n) (next_grant w.grants)) else Err ops.Size) ≡ Ok a → KeepsPointers m a.memory × IsTrue (is_pointer a.memory a.pointer)
      go true h = subst (λ x. KeepsPointers m x.memory × IsTrue (is_pointer x.memory x.pointer)) (ok_same h) (granted_keeps m w (make n) (next_grant w.grants))
      go false h = err_ok h
  allocation_keeps m w (negsuc n) make a is = err_ok is

  -- ---- each operation

  set_byte_keeps : (m : Memory C) (p : Pointer) (i : ℤ) → Keeps m (set_byte m p i)
  set_byte_keeps m p (pos n) new is = go (nat_lt n 256) is
    where
      go : (b : Bool) → (if b then change m p (with_bytes (n ∷ [])) else Err ops.Byte) ≡ Ok new → KeepsPointers m new
      go true h = change_keeps m p (with_bytes (n ∷ [])) (with_bytes_long (n ∷ [])) new h
      go false h = err_ok h
  set_byte_keeps m p (negsuc n) new is = err_ok is

  release_keeps : (m : Memory C) (p : Pointer) → Keeps m (release m p)
  release_keeps m Null new is = err_ok is
  release_keeps m (At (Fixed n) offset) new is = err_ok is
  release_keeps m (At (Made n) (pos zero)) new is = change_keeps m (At (Made n) (pos zero)) freed freed_long new is
  release_keeps m (At (Made n) (pos (suc k))) new is = err_ok is
  release_keeps m (At (Made n) (negsuc k)) new is = err_ok is

  -- a place of a block is within it
  rest_within : {A : Type 0} (xs ys : List A) (b : Block C) (at : ℤ) → length_of b ≡ length xs → rest xs at ≡ Some ys → is_within (Some b) at ≡ true
  rest_within xs ys b (pos k) long is = go (nat_le k (length xs)) refl is
    where
      go : (t : Bool) → nat_le k (length xs) ≡ t → (if t then Some (drop k xs) else None) ≡ Some ys → nat_le k (length_of b) ≡ true
      go true e h = ap (nat_le k) long ∙ e
      go false e h = none_some h
  rest_within xs ys b (negsuc k) long is = none_some is

  place_within : (b : Block C) (at i : ℤ) → place_at b at ≡ Ok i → is_within (Some b) at ≡ true
  place_within (Bytes bytes) at i is = let o = inside_ok (rest bytes at) (λ bs. Ok at) i is in rest_within bytes o.0 (Bytes bytes) at refl o.1
  place_within (Cells cells) at i is = let o = inside_ok (rest cells at) (λ cs. Ok at) i is in rest_within cells o.0 (Cells cells) at refl o.1
  place_within (Freed n) at i is = err_ok is

  moved_within : (m : Memory C) (p q : Pointer) (by : ℤ) → moved m p by ≡ Ok q → IsTrue (is_pointer m q)
  moved_within m Null q by is = err_ok is
  moved_within m (At base offset) q by is = go (block_of m base) refl is
    where
      place : ℤ
      place = offset +ℤ by

      go : (found : Option (Block C)) → block_of m base ≡ found → and_then (and_then (inside (beside found place)) (λ at. place_at at.0 at.1)) (λ at. Ok (At base place)) ≡ Ok q → IsTrue (is_pointer m q)
      go None at h = err_ok h
      go (Some b) at h = into (place_at b place) refl h
        where
          into : (r : Result ℤ Op) → place_at b place ≡ r → and_then r (λ at. Ok (At base place)) ≡ Ok q → IsTrue (is_pointer m q)
          into (Ok i) e k = subst (λ t. IsTrue (is_pointer m t)) (ok_same k) (ap (λ o. is_within o place) at ∙ place_within b place i e)
          into (Err op) e k = err_ok k

  pub stay : PointersStay C
  stay = record {
    set_byte = set_byte_keeps;
    set_word = λ m p i. change_keeps m p (with_bytes (bytes_of_word i)) (with_bytes_long (bytes_of_word i));
    put = λ m p at c. change_keeps m (plus p at) (with_cell c) (with_cell_long c);
    release = release_keeps;
    allocate = λ m w size. allocation_keeps m w size (λ n. Bytes (replicate n None));
    allocate_cells = λ m w count fill. allocation_keeps m w count (λ n. Cells (replicate n fill));
    fixed = fixed_keeps;
    moved = moved_within;
  }
