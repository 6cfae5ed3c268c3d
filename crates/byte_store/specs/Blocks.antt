-- What a store holds, and where its pointers lead (after C99 6.2.4, 6.5.6 and 7.20.3 in outline; this project's own).
--
-- Read `block_of m base` as 'the block of that base, where the store m has one'.
use Rattle.std.specs.Prelude.{ℕ, ℤ, pos, negsuc, suc, ◌+◌, List, [], ◌∷◌, ◌++◌, length, take, drop, slice_get, slice_set, Bool, true, false, nat_eq, nat_le, max, if◌then◌else◌, Option, Some, None}
use Rattle.byte_store.specs.declared.pointer.Base.{Base}
use Rattle.byte_store.specs.declared.pointer.Base.TheVariants.{Fixed, Made}
use Rattle.byte_store.specs.declared.pointer.Pointer.{Pointer}
use Rattle.byte_store.specs.declared.pointer.Pointer.TheVariants.{Null, At}

-- A block that is live has bytes or cells, each set or not. One that was freed has its length alone.
pub data Block (C : Type 0) : Type 0 where
  Bytes : (bytes : List (Option ℕ)) → Block C
  Cells : (cells : List (Option C)) → Block C
  Freed : (length : ℕ) → Block C

-- the fixed blocks, each with its number, and the made ones, of which the N-th is made block N
pub record Memory (C : Type 0) : Type 0 where
  pub fixed : List (ℕ × Block C)
  pub made : List (Block C)

-- ---- lists by integers

-- the member at a place, where the list has that place
abbrev pub member : {A : Type 0} → List A → ℤ → Option A
member xs (pos k) = slice_get xs k
member xs (negsuc k) = None

-- what stands from a place on; the place behind the last member is one, too
abbrev pub rest : {A : Type 0} → List A → ℤ → Option (List A)
rest xs (pos k) = if nat_le k (length xs) then Some (drop k xs) else None
rest xs (negsuc k) = None

-- the n members from a place on, where the list has them all
abbrev pub window : {A : Type 0} → ℕ → List A → ℤ → Option (List A)
window n xs (pos k) = if nat_le (k + n) (length xs) then Some (take n (drop k xs)) else None
window n xs (negsuc k) = None

-- the list with `new` from a place on, where it has so many places there
abbrev pub overwritten : {A : Type 0} → List A → List A → ℤ → Option (List A)
overwritten new xs (pos k) = if nat_le (k + length new) (length xs) then Some (take k xs ++ new ++ drop (k + length new) xs) else None
overwritten new xs (negsuc k) = None

-- ---- blocks by bases

-- the value of a number in a list of numbered values
abbrev pub find : {A : Type 0} → ℕ → List (ℕ × A) → Option A
find n [] = None
find n (e ∷ es) = if nat_eq n e.0 then Some e.1 else find n es

-- the list with another value for a number that it has
abbrev pub replaced : {A : Type 0} → ℕ → A → List (ℕ × A) → List (ℕ × A)
replaced n a [] = []
replaced n a (e ∷ es) = if nat_eq n e.0 then (e.0, a) ∷ es else e ∷ replaced n a es

-- one more than the greatest number, or 0
abbrev pub next_number : {A : Type 0} → List (ℕ × A) → ℕ
next_number [] = 0
next_number (e ∷ es) = max (suc e.0) (next_number es)

abbrev pub is_same_base : Base → Base → Bool
is_same_base (Fixed n) (Fixed k) = nat_eq n k
is_same_base (Fixed n) (Made k) = false
is_same_base (Made n) (Fixed k) = false
is_same_base (Made n) (Made k) = nat_eq n k

module _ {C : Type 0} where
  abbrev pub block_of : Memory C → Base → Option (Block C)
  block_of m (Fixed n) = find n m.fixed
  block_of m (Made n) = slice_get m.made n

  -- the store with another block for a base that it has
  abbrev pub with_block : Memory C → Base → Block C → Memory C
  with_block m (Fixed n) b = record m { fixed = replaced n b m.fixed }
  with_block m (Made n) b = record m { made = slice_set m.made n b }

  abbrev pub length_of : Block C → ℕ
  length_of (Bytes bytes) = length bytes
  length_of (Cells cells) = length cells
  length_of (Freed n) = n

  -- ---- pointers

  -- the block that a pointer leads to, and the offset
  abbrev pub beside : Option (Block C) → ℤ → Option (Block C × ℤ)
  beside None offset = None
  beside (Some b) offset = Some (b, offset)

  abbrev pub located : Memory C → Pointer → Option (Block C × ℤ)
  located m Null = None
  located m (At base offset) = beside (block_of m base) offset

  abbrev pub is_freed_block : Option (Block C) → Bool
  is_freed_block None = false
  is_freed_block (Some (Bytes bytes)) = false
  is_freed_block (Some (Cells cells)) = false
  is_freed_block (Some (Freed n)) = true

  -- the pointer leads into a block that was freed
  abbrev pub is_freed : Memory C → Pointer → Bool
  is_freed m Null = false
  is_freed m (At base offset) = is_freed_block (block_of m base)

  -- the offset is that of a block's end
  abbrev pub is_end : Option (Block C) → ℤ → Bool
  is_end None offset = false
  is_end (Some b) (pos k) = nat_eq k (length_of b)
  is_end (Some b) (negsuc k) = false

  -- the offset is that of a place in a block, or of its end
  abbrev pub is_within : Option (Block C) → ℤ → Bool
  is_within None offset = false
  is_within (Some b) (pos k) = nat_le k (length_of b)
  is_within (Some b) (negsuc k) = false

  -- the pointer is null, or leads into a block of the store, live or freed, or to its end
  abbrev pub is_pointer : Memory C → Pointer → Bool
  is_pointer m Null = true
  is_pointer m (At base offset) = is_within (block_of m base) offset
