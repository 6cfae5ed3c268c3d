-- The operations of a store (after C99 6.2.4, 6.5.6 and 7.20.3 in outline; this project's own).
--
-- An operation is a function of the store, a pointer and what else it is given: it answers what it finds, or the store that it leaves.
-- One that has no meaning answers `Err` with its cause, and the first of these that holds is the cause.
--   An access or a move: null, or a base that the store has not, is `Bounds`; a freed block is `Freed`; what is not wholly inside the
--   block is `Bounds`, and so is a byte in a block of cells and a cell in a block of bytes; what was never set is `Unset`. Before all of
--   these, what is to be put as a byte and is none is `Byte`; behind those of its length, the index in a string is `Bounds`.
--   A distance or an order: null is `Bounds`; a freed block is `Freed`; two blocks are `Blocks`.
--   Whether two pointers are the same, or one is null: a freed block is `Freed`; two blocks, where one pointer is its block's end, are
--   `Blocks`. In all comparisons a base that the store has not is one of a block that was not freed and has no end.
--   A freeing: what is not the start of a made block is `Bounds`; a freed block is `Freed`.
--   An allocation: a number of bytes or cells that no block has is `Size`.
use Rattle.std.specs.Prelude.{ℕ, ℤ, pos, negsuc, zero, suc, ◌+ℤ◌, ◌-ℤ◌, List, [], ◌∷◌, ◌++◌, length, map, take, replicate, Bool, true, false, ◌||◌, ◌&&◌, nat_le, nat_lt, int_lt, if◌then◌else◌, Option, Some, None, Result, Ok, Err}
use Rattle.std.specs.Ordering.{int_eq}
use Rattle.std.specs.Int.{w64, from_le_bytes, to_le_bytes, cast_signed, cast_unsigned}
use Rattle.ps_base.specs.declared.faults.Op.{Op}
use Rattle.ps_base.specs.declared.faults.Op.TheVariants as ops
use Rattle.ps_base.specs.Numbers.{is_word}
use Rattle.byte_store.specs.declared.pointer.Base.{Base}
use Rattle.byte_store.specs.declared.pointer.Base.TheVariants.{Fixed, Made}
use Rattle.byte_store.specs.declared.pointer.Pointer.{Pointer}
use Rattle.byte_store.specs.declared.pointer.Pointer.TheVariants.{Null, At}
use Rattle.byte_store.specs.Worlds.{Surroundings, next_grant, rest_of}
use Rattle.byte_store.specs.Blocks.{Block, Bytes, Cells, Freed, Memory, member, rest, window, overwritten, is_same_base, block_of, with_block, is_freed_block, is_freed, is_end, located}

-- ---- answers

-- goes on with a value
abbrev pub and_then : {A B : Type 0} → Result A Op → (A → Result B Op) → Result B Op
and_then (Ok a) next = next a
and_then (Err op) next = Err op

-- what is inside, or `Bounds`
abbrev pub inside : {A : Type 0} → Option A → Result A Op
inside None = Err ops.Bounds
inside (Some a) = Ok a

-- what was set, or `Unset`
abbrev pub set : {A : Type 0} → Option A → Result A Op
set None = Err ops.Unset
set (Some a) = Ok a

-- ---- blocks

-- all the members, where each was set
abbrev pub and_before : {A : Type 0} → A → Option (List A) → Option (List A)
and_before x None = None
and_before x (Some xs) = Some (x ∷ xs)

abbrev pub all_set : {A : Type 0} → List (Option A) → Option (List A)
all_set [] = Some []
all_set (None ∷ xs) = None
all_set (Some x ∷ xs) = and_before x (all_set xs)

-- eight bytes as an integer in two's complement, the lowest first, and back
abbrev pub word_of_bytes : List ℕ → ℤ
word_of_bytes bytes = cast_signed w64 (from_le_bytes w64 bytes)

abbrev pub bytes_of_word : ℤ → List ℕ
bytes_of_word i = to_le_bytes w64 (cast_unsigned w64 i)

-- The number of bytes before the first byte 0. A byte that was never set before that is `Unset`, and the end is `Bounds`.
abbrev pub one_more : Result ℕ Op → Result ℕ Op
one_more (Ok n) = Ok (suc n)
one_more (Err op) = Err op

abbrev pub text_before_0 : List (Option ℕ) → Result ℕ Op
text_before_0 [] = Err ops.Bounds
text_before_0 (None ∷ bytes) = Err ops.Unset
text_before_0 (Some zero ∷ bytes) = Ok 0
text_before_0 (Some (suc b) ∷ bytes) = one_more (text_before_0 bytes)

module _ {C : Type 0} where
  abbrev pub byte_at : Block C → ℤ → Result ℤ Op
  byte_at (Bytes bytes) at = and_then (inside (member bytes at)) (λ b. and_then (set b) (λ n. Ok (pos n)))
  byte_at (Cells cells) at = Err ops.Bounds
  byte_at (Freed n) at = Err ops.Freed

  abbrev pub word_at : Block C → ℤ → Result ℤ Op
  word_at (Bytes bytes) at = and_then (inside (window 8 bytes at)) (λ bs. and_then (set (all_set bs)) (λ ns. Ok (word_of_bytes ns)))
  word_at (Cells cells) at = Err ops.Bounds
  word_at (Freed n) at = Err ops.Freed

  abbrev pub cell_at : Block C → ℤ → Result C Op
  cell_at (Bytes bytes) at = Err ops.Bounds
  cell_at (Cells cells) at = and_then (inside (member cells at)) (λ c. set c)
  cell_at (Freed n) at = Err ops.Freed

  -- a place of the block, or its end
  abbrev pub place_at : Block C → ℤ → Result ℤ Op
  place_at (Bytes bytes) at = and_then (inside (rest bytes at)) (λ bs. Ok at)
  place_at (Cells cells) at = and_then (inside (rest cells at)) (λ cs. Ok at)
  place_at (Freed n) at = Err ops.Freed

  abbrev pub cells_from : Block C → ℤ → Result ℤ Op
  cells_from (Bytes bytes) at = Err ops.Bounds
  cells_from (Cells cells) at = and_then (inside (rest cells at)) (λ cs. Ok (pos (length cs)))
  cells_from (Freed n) at = Err ops.Freed

  abbrev pub text_from : Block C → ℤ → Result ℤ Op
  text_from (Bytes bytes) at = and_then (inside (rest bytes at)) (λ bs. and_then (text_before_0 bs) (λ n. Ok (pos n)))
  text_from (Cells cells) at = Err ops.Bounds
  text_from (Freed n) at = Err ops.Freed

  -- the bytes before it
  abbrev pub text_in : Block C → ℤ → Result (List ℕ) Op
  text_in (Bytes bytes) at = and_then (inside (rest bytes at)) (λ bs. and_then (text_before_0 bs) (λ n. set (all_set (take n bs))))
  text_in (Cells cells) at = Err ops.Bounds
  text_in (Freed n) at = Err ops.Freed

  -- the block with these bytes from a place on
  abbrev pub with_bytes : List ℕ → Block C → ℤ → Result (Block C) Op
  with_bytes new (Bytes bytes) at = and_then (inside (overwritten (map Some new) bytes at)) (λ bs. Ok (Bytes bs))
  with_bytes new (Cells cells) at = Err ops.Bounds
  with_bytes new (Freed n) at = Err ops.Freed

  -- the block with this cell at a place
  abbrev pub with_cell : C → Block C → ℤ → Result (Block C) Op
  with_cell c (Bytes bytes) at = Err ops.Bounds
  with_cell c (Cells cells) at = and_then (inside (overwritten (Some c ∷ []) cells at)) (λ cs. Ok (Cells cs))
  with_cell c (Freed n) at = Err ops.Freed

  -- the block after it was freed
  abbrev pub freed : Block C → ℤ → Result (Block C) Op
  freed (Bytes bytes) at = Ok (Freed (length bytes))
  freed (Cells cells) at = Ok (Freed (length cells))
  freed (Freed n) at = Err ops.Freed

-- ---- the store

-- an index of what has so many members
abbrev pub is_index : ℤ → ℤ → Bool
is_index (pos k) n = int_lt (pos k) n
is_index (negsuc k) n = false

abbrev pub is_null_pointer : Pointer → Bool
is_null_pointer Null = true
is_null_pointer (At base offset) = false

-- How far one offset stands behind another. What has no 64 bits is `Bounds`; a store's pointers are never so far apart.
abbrev pub distance : ℤ → ℤ → Result ℤ Op
distance i j = if is_word (i -ℤ j) then Ok (i -ℤ j) else Err ops.Bounds

-- so much further on
abbrev pub plus : Pointer → ℤ → Pointer
plus Null by = Null
plus (At base offset) by = At base (offset +ℤ by)

module _ {C : Type 0} where
  -- the two are one block, and it is live
  abbrev pub together : Memory C → Base → Base → Result (Unit {0}) Op
  together m a b =
      if is_freed_block (block_of m a) || is_freed_block (block_of m b) then Err ops.Freed
      else if is_same_base a b then Ok tt
      else Err ops.Blocks

module _ {C A : Type 0} where
  -- what is seen at a pointer
  abbrev pub look : Memory C → Pointer → (Block C → ℤ → Result A Op) → Result A Op
  look m p f = and_then (inside (located m p)) (λ at. f at.0 at.1)

  -- what two pointers into one block have to do with each other
  abbrev pub compare : Memory C → Pointer → Pointer → (ℤ → ℤ → Result A Op) → Result A Op
  compare m Null q f = Err ops.Bounds
  compare m (At a i) Null f = Err ops.Bounds
  compare m (At a i) (At b j) f = and_then (together m a b) (λ done. f i j)

module _ {C : Type 0} where
  -- the store with another block in place of that at a pointer
  abbrev pub change : Memory C → Pointer → (Block C → ℤ → Result (Block C) Op) → Result (Memory C) Op
  change m Null f = Err ops.Bounds
  change m (At base offset) f = and_then (inside (block_of m base)) (λ b. and_then (f b offset) (λ c. Ok (with_block m base c)))

  abbrev pub load : Memory C → Pointer → Result ℤ Op
  load m p = look m p byte_at

  abbrev pub load_word : Memory C → Pointer → Result ℤ Op
  load_word m p = look m p word_at

  -- what is no byte is told first
  abbrev pub set_byte : Memory C → Pointer → ℤ → Result (Memory C) Op
  set_byte m p (pos n) = if nat_lt n 256 then change m p (with_bytes (n ∷ [])) else Err ops.Byte
  set_byte m p (negsuc n) = Err ops.Byte

  abbrev pub set_word : Memory C → Pointer → ℤ → Result (Memory C) Op
  set_word m p i = change m p (with_bytes (bytes_of_word i))

  abbrev pub get : Memory C → Pointer → ℤ → Result C Op
  get m p at = look m (plus p at) cell_at

  abbrev pub put : Memory C → Pointer → ℤ → C → Result (Memory C) Op
  put m p at c = change m (plus p at) (with_cell c)

  abbrev pub cell_count : Memory C → Pointer → Result ℤ Op
  cell_count m p = look m p cells_from

  abbrev pub text_length : Memory C → Pointer → Result ℤ Op
  text_length m p = look m p text_from

  abbrev pub text : Memory C → Pointer → Result (List ℕ) Op
  text m p = look m p text_in

  -- the length is taken first, and then the index is tested
  abbrev pub text_at : Memory C → Pointer → ℤ → Result ℤ Op
  text_at m p at = and_then (text_length m p) (λ n. if is_index at n then load m (plus p at) else Err ops.Bounds)

  -- the new place may be the block's end
  abbrev pub moved : Memory C → Pointer → ℤ → Result Pointer Op
  moved m p by = and_then (look m (plus p by) place_at) (λ at. Ok (plus p by))

  -- the first minus the second
  abbrev pub difference : Memory C → Pointer → Pointer → Result ℤ Op
  difference m p q = compare m p q distance

  abbrev pub before : Memory C → Pointer → Pointer → Result Bool Op
  before m p q = compare m p q (λ i j. Ok (int_lt i j))

  -- null equals null alone; a block's end may be the start of another, so the two are not compared
  abbrev pub same_live : Memory C → Pointer → Pointer → Result Bool Op
  same_live m Null Null = Ok true
  same_live m Null (At b j) = Ok false
  same_live m (At a i) Null = Ok false
  same_live m (At a i) (At b j) =
      if is_same_base a b then Ok (int_eq i j)
      else if is_end (block_of m a) i || is_end (block_of m b) j then Err ops.Blocks
      else Ok false

  abbrev pub same : Memory C → Pointer → Pointer → Result Bool Op
  same m p q = if is_freed m p || is_freed m q then Err ops.Freed else same_live m p q

  abbrev pub is_null : Memory C → Pointer → Result Bool Op
  is_null m p = if is_freed m p then Err ops.Freed else Ok (is_null_pointer p)

  -- only a made block is freed, and only at its start
  abbrev pub release : Memory C → Pointer → Result (Memory C) Op
  release m Null = Err ops.Bounds
  release m (At (Fixed n) offset) = Err ops.Bounds
  release m (At (Made n) (pos zero)) = change m (At (Made n) (pos zero)) freed
  release m (At (Made n) (pos (suc k))) = Err ops.Bounds
  release m (At (Made n) (negsuc k)) = Err ops.Bounds

-- ---- new blocks

-- a number of bytes or cells that a block may have: from 1 to 2^40
abbrev pub is_size : ℕ → Bool
is_size n = nat_le 1 n && nat_le n 1099511627776

-- what an allocation leaves, and the pointer that it answers
pub record Allocation (C : Type 0) : Type 0 where
  pub memory : Memory C
  pub world : Surroundings
  pub pointer : Pointer

module _ {C : Type 0} where
  -- one grant is used; granted, the block is the next made one, and refused, the pointer is null
  abbrev pub granted : Memory C → Surroundings → Block C → Bool → Allocation C
  granted m w b true = record {
    memory = record m { made = m.made ++ b ∷ [] };
    world = record w { grants = rest_of w.grants };
    pointer = At (Made (length m.made)) (pos 0);
  }
  granted m w b false = record { memory = m; world = record w { grants = rest_of w.grants }; pointer = Null }

  -- a block that is made from its number of bytes or cells
  abbrev pub allocation : Memory C → Surroundings → ℤ → (ℕ → Block C) → Result (Allocation C) Op
  allocation m w (pos n) make = if is_size n then Ok (granted m w (make n) (next_grant w.grants)) else Err ops.Size
  allocation m w (negsuc n) make = Err ops.Size

  abbrev pub allocate : Memory C → Surroundings → ℤ → Result (Allocation C) Op
  allocate m w size = allocation m w size (λ n. Bytes (replicate n None))

  abbrev pub allocate_cells : Memory C → Surroundings → ℤ → Option C → Result (Allocation C) Op
  allocate_cells m w count fill = allocation m w count (λ n. Cells (replicate n fill))

  -- a fixed block is added behind the others
  abbrev pub fixed : Memory C → ℕ → Block C → Memory C
  fixed m number b = record m { fixed = m.fixed ++ (number, b) ∷ [] }
