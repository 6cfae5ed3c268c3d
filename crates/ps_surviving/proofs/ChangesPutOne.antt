-- What stands in a list or in a memory after a change stood there before, or is what was put.
-- For: `survivors_run_alike`
use Rattle.std.proofs.Common.{◌≡◌, ℕ, ℤ, pos, negsuc, zero, suc, ◌+◌, ◌≤◌, List, [], ◌∷◌, ◌++◌, length, take, drop, replicate, Bool, true, false, Option, Some, None, Result, Ok, Err, refl, sym, ap, ◌∙◌, subst, arith, ◌⊎◌, inl, inr}
use Rattle.std.specs.Prelude.{slice_get, slice_set, nat_eq, nat_le, if◌then◌else◌}
use Rattle.ps_base.specs.declared.faults.Op.{Op}
use Rattle.byte_store.specs.declared.pointer.Base.{Base}
use Rattle.byte_store.specs.declared.pointer.Base.TheVariants.{Fixed, Made}
use Rattle.byte_store.specs.Blocks.{Memory, Block, overwritten, find, replaced, block_of, with_block}
use Rattle.byte_store.proofs.PlaceByPlace.{one_overwritten}

pub none_some : {A : Type 0} (a : A) → None ≡ Some a → ⊥
none_some {A} a e = subst gone e tt
  where
    gone : Option A → Type 0
    gone None = Unit {0}
    gone (Some b) = ⊥

pub some_same : {A : Type 0} (a b : A) → Some a ≡ Some b → a ≡ b
some_same a b e = search e

-- an answer that is one of these, or undefined
abbrev pub Good : {A : Type 0} → (A → Type 0) → Result A Op → Type 0
Good Q (Ok a) = Q a
Good Q (Err op) = Unit {0}

-- ---- members of lists

module _ {A : Type 0} where
  pub set_is : (xs : List A) (n k : ℕ) (x y : A) → slice_get (slice_set xs n x) k ≡ Some y → ((n ≡ k) × (x ≡ y)) ⊎ (slice_get xs k ≡ Some y)
  set_is [] n k x y h = inr h
  set_is (z ∷ xs) zero zero x y h = inl (refl, some_same x y h)
  set_is (z ∷ xs) zero (suc k) x y h = inr h
  set_is (z ∷ xs) (suc n) zero x y h = inr h
  set_is (z ∷ xs) (suc n) (suc k) x y h = deeper (set_is xs n k x y h)
    where
      deeper : ((n ≡ k) × (x ≡ y)) ⊎ (slice_get xs k ≡ Some y) → ((suc n ≡ suc k) × (x ≡ y)) ⊎ (slice_get xs k ≡ Some y)
      deeper (inl e) = inl (ap suc e.0, e.1)
      deeper (inr e) = inr e

  pub set_length : (xs : List A) (n : ℕ) (x : A) → length (slice_set xs n x) ≡ length xs
  set_length [] n x = refl
  set_length (y ∷ xs) zero x = refl
  set_length (y ∷ xs) (suc n) x = ap suc (set_length xs n x)

  pub more_is : (xs : List A) (n : ℕ) (x y : A) → slice_get (xs ++ x ∷ []) n ≡ Some y → ((n ≡ length xs) × (x ≡ y)) ⊎ (slice_get xs n ≡ Some y)
  more_is [] zero x y h = inl (refl, some_same x y h)
  more_is [] (suc n) x y h = absurd (none_some y h)
  more_is (z ∷ xs) zero x y h = inr h
  more_is (z ∷ xs) (suc n) x y h = deeper (more_is xs n x y h)
    where
      deeper : ((n ≡ length xs) × (x ≡ y)) ⊎ (slice_get xs n ≡ Some y) → ((suc n ≡ suc (length xs)) × (x ≡ y)) ⊎ (slice_get xs n ≡ Some y)
      deeper (inl e) = inl (ap suc e.0, e.1)
      deeper (inr e) = inr e

  pub copies_are : (n k : ℕ) (x y : A) → slice_get (replicate n x) k ≡ Some y → x ≡ y
  copies_are zero k x y h = absurd (none_some y h)
  copies_are (suc n) zero x y h = some_same x y h
  copies_are (suc n) (suc k) x y h = copies_are n k x y h

  -- one member in place of another, where the list has it
  pub overwritten_is : (P : Option (List A) → Type 0) (xs : List A) (at : ℤ) (x : A) → P None → ((n : ℕ) → at ≡ pos n → P (Some (slice_set xs n x))) → P (overwritten (x ∷ []) xs at)
  overwritten_is P xs (negsuc n) x none some = none
  overwritten_is P xs (pos n) x none some = one (nat_le (n + length (x ∷ [])) (length xs)) refl
    where
      room : nat_le (n + length (x ∷ [])) (length xs) ≡ true → suc n ≤ length xs
      room e = grind (arith, e)

      one : (c : Bool) → nat_le (n + length (x ∷ [])) (length xs) ≡ c → P (overwritten (x ∷ []) xs (pos n))
      one true e = subst P (sym (one_overwritten xs n x (room e))) (some n refl)
      one false e = subst P (sym (ap (λ z. if z then Some (take n xs ++ (x ∷ []) ++ drop (n + length (x ∷ [])) xs) else None) e)) none

  -- another value of a number
  find_replaced : (es : List (ℕ × A)) (n k : ℕ) (x y : A) → find k (replaced n x es) ≡ Some y → ((n ≡ k) × (x ≡ y)) ⊎ (find k es ≡ Some y)
  find_replaced [] n k x y h = inr h
  find_replaced (e ∷ es) n k x y h = one (find_replaced es n k x y) (nat_eq n e.0) (nat_eq k e.0) refl refl h
    where
      equal : (a b c : ℕ) → nat_eq a b ≡ true → nat_eq c b ≡ true → a ≡ c
      equal a b c i j = grind (arith, i, j)

      one : (find k (replaced n x es) ≡ Some y → ((n ≡ k) × (x ≡ y)) ⊎ (find k es ≡ Some y)) → (c d : Bool) → nat_eq n e.0 ≡ c → nat_eq k e.0 ≡ d
          → find k (if c then (e.0, x) ∷ es else e ∷ replaced n x es) ≡ Some y → ((n ≡ k) × (x ≡ y)) ⊎ ((if d then Some e.1 else find k es) ≡ Some y)
      one later true true i j g = inl (equal n e.0 k i j, some_same x y (sym (ap (λ z. if z then Some x else find k es) j) ∙ g))
      one later true false i j g = inr (sym (ap (λ z. if z then Some x else find k es) j) ∙ g)
      one later false true i j g = inr (sym (ap (λ z. if z then Some e.1 else find k (replaced n x es)) j) ∙ g)
      one later false false i j g = later (sym (ap (λ z. if z then Some e.1 else find k (replaced n x es)) j) ∙ g)

-- ---- blocks

module _ {C : Type 0} where
  pub with_block_is : (m : Memory C) (base at : Base) (b c : Block C) → block_of (with_block m base b) at ≡ Some c → ((base ≡ at) × (b ≡ c)) ⊎ (block_of m at ≡ Some c)
  with_block_is m (Fixed n) (Fixed k) b c h = lifted (find_replaced m.fixed n k b c h)
    where
      lifted : ((n ≡ k) × (b ≡ c)) ⊎ (find k m.fixed ≡ Some c) → ((Fixed n ≡ Fixed k) × (b ≡ c)) ⊎ (find k m.fixed ≡ Some c)
      lifted (inl e) = inl (ap Fixed e.0, e.1)
      lifted (inr e) = inr e
  with_block_is m (Fixed n) (Made k) b c h = inr h
  with_block_is m (Made n) (Fixed k) b c h = inr h
  with_block_is m (Made n) (Made k) b c h = lifted (set_is m.made n k b c h)
    where
      lifted : ((n ≡ k) × (b ≡ c)) ⊎ (slice_get m.made k ≡ Some c) → ((Made n ≡ Made k) × (b ≡ c)) ⊎ (slice_get m.made k ≡ Some c)
      lifted (inl e) = inl (ap Made e.0, e.1)
      lifted (inr e) = inr e
