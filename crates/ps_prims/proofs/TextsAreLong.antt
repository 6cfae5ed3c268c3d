-- The length of a string is that of its bytes.
-- For: length_of and for_texts of cells.rt
use Rattle.std.proofs.Common.{◌≡◌, ℕ, zero, suc, ◌+◌, ◌/◌, ℤ, pos, List, [], ◌∷◌, length, take, Option, Some, None, Result, Ok, Err, refl, sym, ap, subst, ◌∙◌, unsigned_abs}
use Rattle.ps_base.proofs.Choices.{err_ok, none_some, ok_same, some_same}
use Rattle.ps_base.specs.declared.faults.Op.{Op}
use Rattle.byte_store.specs.declared.pointer.Pointer.{Pointer}
use Rattle.byte_store.specs.Blocks.{Block, Bytes, Cells, Freed, Memory, located, rest}
use Rattle.byte_store.specs.Operations.{and_then, inside, set, all_set, and_before, one_more, text, text_from, text_in, text_length, text_before_0}
use Rattle.ps_prims.specs.Cells.{for_texts}
use Rattle.ps_prims.specs.InsideSorts.{length_of}

-- so many bytes before the first 0, all set
record Set (bs : List (Option ℕ)) (n : ℕ) : Type 0 where
  bytes : List ℕ
  are : all_set (take n bs) ≡ Some bytes
  long : length bytes ≡ n

before_0 : (bs : List (Option ℕ)) (n : ℕ) → text_before_0 bs ≡ Ok n → Set bs n
before_0 [] n is = err_ok is
before_0 (None ∷ bs) n is = err_ok is
before_0 (Some zero ∷ bs) n is = subst (Set (Some zero ∷ bs)) (ok_same is) (record { bytes = []; are = refl; long = refl })
before_0 (Some (suc b) ∷ bs) n is = go (text_before_0 bs) (before_0 bs) is
  where
    go : (r : Result ℕ Op) → ((k : ℕ) → r ≡ Ok k → Set bs k) → one_more r ≡ Ok n → Set (Some (suc b) ∷ bs) n
    go (Ok k) ih h = let s = ih k refl in subst (Set (Some (suc b) ∷ bs)) (ok_same h) (record { bytes = suc b ∷ s.bytes; are = ap (and_before (suc b)) s.are; long = ap suc s.long })
    go (Err op) ih h = err_ok h

-- ---- a string at a place

abbrev Same : Result ℤ Op → Result (List ℕ) Op → Type 0
Same (Ok i) (Ok bytes) = i ≡ pos (length bytes)
Same (Ok i) (Err op) = ⊥
Same (Err op) (Ok bytes) = ⊥
Same (Err op) (Err cause) = Unit {0}

module _ {C : Type 0} where
  same_at : (b : Block C) (at : ℤ) → Same (text_from b at) (text_in b at)
  same_at (Cells cells) at = tt
  same_at (Freed n) at = tt
  same_at (Bytes bytes) at = go (rest bytes at)
    where
      into : (bs : List (Option ℕ)) (r : Result ℕ Op) → text_before_0 bs ≡ r → Same (and_then r (λ n. Ok (pos n))) (and_then r (λ n. set (all_set (take n bs))))
      into bs (Ok n) is = let s = before_0 bs n is in subst (λ o. Same (Ok (pos n)) (set o)) (sym s.are) (ap pos (sym s.long))
      into bs (Err op) is = tt

      go : (o : Option (List (Option ℕ))) → Same (and_then (inside o) (λ bs. and_then (text_before_0 bs) (λ n. Ok (pos n)))) (and_then (inside o) (λ bs. and_then (text_before_0 bs) (λ n. set (all_set (take n bs)))))
      go None = tt
      go (Some bs) = into bs (text_before_0 bs) refl

  same_length : (m : Memory C) (p : Pointer) → Same (text_length m p) (text m p)
  same_length m p = go (located m p)
    where
      go : (o : Option (Block C × ℤ)) → Same (and_then (inside o) (λ at. text_from at.0 at.1)) (and_then (inside o) (λ at. text_in at.0 at.1))
      go None = tt
      go (Some at) = same_at at.0 at.1

  pub is_long : (m : Memory C) (p : Pointer) (i : ℤ) → text_length m p ≡ Ok i → Some (unsigned_abs i) ≡ length_of (text m p)
  is_long m p i is = go (text m p) (subst (λ r. Same r (text m p)) is (same_length m p))
    where
      go : (r : Result (List ℕ) Op) → Same (Ok i) r → Some (unsigned_abs i) ≡ length_of r
      go (Ok bytes) h = ap (λ j. Some (unsigned_abs j)) h
      go (Err op) h = absurd h

  pub is_none : (m : Memory C) (p : Pointer) (op : Op) → text_length m p ≡ Err op → None ≡ length_of (text m p)
  is_none m p op is = go (text m p) (subst (λ r. Same r (text m p)) is (same_length m p))
    where
      go : (r : Result (List ℕ) Op) → Same (Err op) r → None ≡ length_of r
      go (Ok bytes) h = absurd h
      go (Err cause) h = refl

-- ---- the cells of two

pub both_long : (r t : Result (List ℕ) Op) (a b : ℕ) → Some a ≡ length_of r → Some b ≡ length_of t → (a + b + 8) / 8 ≡ for_texts r t
both_long (Ok x) (Ok y) a b p q = ap (λ n. (n + b + 8) / 8) (some_same p) ∙ ap (λ n. (length x + n + 8) / 8) (some_same q)
both_long (Ok x) (Err op) a b p q = none_some (sym q)
both_long (Err op) t a b p q = none_some (sym p)

pub first_none : (r t : Result (List ℕ) Op) → None ≡ length_of r → 0 ≡ for_texts r t
first_none (Ok x) t is = none_some is
first_none (Err op) t is = refl

pub second_none : (r t : Result (List ℕ) Op) → None ≡ length_of t → 0 ≡ for_texts r t
second_none (Ok x) (Ok y) is = none_some is
second_none (Ok x) (Err op) is = refl
second_none (Err op) t is = refl
