-- Each operation does on a store whose cells hold something else what it does on this one, to these cells.
-- For: operations_are_natural, and the rows of the primitives
use Rattle.std.proofs.Common.{◌≡◌, ℕ, ℤ, pos, negsuc, zero, suc, List, [], ◌∷◌, ◌++◌, map, length, replicate, Bool, true, false, Option, Some, None, Result, Ok, Err, refl, sym, ap, ◌∙◌}
use Rattle.std.specs.Prelude.{nat_lt, int_lt, ◌||◌, if◌then◌else◌}
use Rattle.std.specs.Ordering.{int_eq}
use Rattle.std.specs.Option.{option_map}
use Rattle.std.proofs.lemmas.List.{length-map, map-append}
use Rattle.ps_base.specs.declared.faults.Op.{Op}
use Rattle.ps_base.specs.declared.faults.Op.TheVariants as ops
use Rattle.byte_store.specs.declared.pointer.Base.{Base}
use Rattle.byte_store.specs.declared.pointer.Base.TheVariants.{Fixed, Made}
use Rattle.byte_store.specs.declared.pointer.Pointer.{Pointer}
use Rattle.byte_store.specs.declared.pointer.Pointer.TheVariants.{Null, At}
use Rattle.byte_store.specs.Worlds.{Surroundings, next_grant, rest_of}
use Rattle.byte_store.specs.Blocks.{Block, Bytes, Cells, Memory, is_same_base, block_of, with_block, beside, is_freed_block, is_freed, is_end}
use Rattle.byte_store.specs.Operations as store
use Rattle.byte_store.specs.Operations.{and_then, inside, byte_at, word_at, cell_at, place_at, cells_from, text_from, text_in, with_bytes, with_cell, freed, is_index, plus, together, look, compare, change, distance, is_size, Allocation, granted, allocation}
use Rattle.byte_store.specs.Mapping.{map_answer, map_block, map_numbered, map_memory, map_allocation}
use Rattle.byte_store.specs.MappingLaws.{OperationsAreNatural}
use Rattle.byte_store.proofs.AnswersAreNatural.{answer_stays, goes_on_map, either_map}
use Rattle.byte_store.proofs.PlacesAreNatural.{map-replicate}
use Rattle.byte_store.proofs.BlocksAreNatural.{block_of_map, with_block_map, next_number_map, byte_at_map, word_at_map, text_from_map, text_in_map, cell_at_map, place_at_map, cells_from_map, with_bytes_map, with_cell_map, freed_map, base_freed_map, is_freed_map, is_end_map, is_pointer_map}

module _ {A B : Type 0} (f : A → B) where
  -- ---- looking at a block

  module _ {X Y : Type 0} (h : X → Y) (one : Block A → ℤ → Result X Op) (two : Block B → ℤ → Result Y Op) (e : (b : Block A) (at : ℤ) → two (map_block f b) at ≡ map_answer h (one b at)) where
    look_map : (m : Memory A) (p : Pointer) → look (map_memory f m) p two ≡ map_answer h (look m p one)
    look_map m Null = refl
    look_map m (At base offset) = ap (λ o. and_then (inside (beside o offset)) (λ l. two l.0 l.1)) (block_of_map f m base) ∙ go (block_of m base)
      where
        go : (o : Option (Block A)) → and_then (inside (beside (option_map (map_block f) o) offset)) (λ l. two l.0 l.1) ≡ map_answer h (and_then (inside (beside o offset)) (λ l. one l.0 l.1))
        go None = refl
        go (Some b) = e b offset

  module _ {X : Type 0} (one : Block A → ℤ → Result X Op) (two : Block B → ℤ → Result X Op) (e : (b : Block A) (at : ℤ) → two (map_block f b) at ≡ one b at) where
    look_same : (m : Memory A) (p : Pointer) → look (map_memory f m) p two ≡ look m p one
    look_same m p = look_map (λ x. x) one two (λ b at. e b at ∙ sym (answer_stays (one b at))) m p ∙ answer_stays (look m p one)

  pub load_map : (m : Memory A) (p : Pointer) → store.load (map_memory f m) p ≡ store.load m p
  load_map m p = look_same byte_at byte_at (byte_at_map f) m p

  pub load_word_map : (m : Memory A) (p : Pointer) → store.load_word (map_memory f m) p ≡ store.load_word m p
  load_word_map m p = look_same word_at word_at (word_at_map f) m p

  pub text_length_map : (m : Memory A) (p : Pointer) → store.text_length (map_memory f m) p ≡ store.text_length m p
  text_length_map m p = look_same text_from text_from (text_from_map f) m p

  pub text_map : (m : Memory A) (p : Pointer) → store.text (map_memory f m) p ≡ store.text m p
  text_map m p = look_same text_in text_in (text_in_map f) m p

  pub cell_count_map : (m : Memory A) (p : Pointer) → store.cell_count (map_memory f m) p ≡ store.cell_count m p
  cell_count_map m p = look_same cells_from cells_from (cells_from_map f) m p

  pub get_map : (m : Memory A) (p : Pointer) (at : ℤ) → store.get (map_memory f m) p at ≡ map_answer f (store.get m p at)
  get_map m p at = look_map f cell_at cell_at (cell_at_map f) m (plus p at)

  pub moved_map : (m : Memory A) (p : Pointer) (by : ℤ) → store.moved (map_memory f m) p by ≡ store.moved m p by
  moved_map m p by = ap (λ r. and_then r (λ at. Ok (plus p by))) (look_same place_at place_at (place_at_map f) m (plus p by))

  pub text_at_map : (m : Memory A) (p : Pointer) (at : ℤ) → store.text_at (map_memory f m) p at ≡ store.text_at m p at
  text_at_map m p at =
      ap (λ r. and_then r (λ n. if is_index at n then store.load (map_memory f m) (plus p at) else Err ops.Bounds)) (text_length_map m p) ∙ ap (λ r. and_then (store.text_length m p) (λ n. if is_index at n then r else Err ops.Bounds)) (load_map m (plus p at))

  -- ---- comparing

  together_map : (m : Memory A) (a b : Base) → together (map_memory f m) a b ≡ together m a b
  together_map m a b =
      ap (λ x. if x || is_freed_block (block_of (map_memory f m) b) then Err ops.Freed else if is_same_base a b then Ok tt else Err ops.Blocks) (base_freed_map f m a)
      ∙ ap (λ y. if is_freed_block (block_of m a) || y then Err ops.Freed else if is_same_base a b then Ok tt else Err ops.Blocks) (base_freed_map f m b)

  compare_map : {X : Type 0} (g : ℤ → ℤ → Result X Op) (m : Memory A) (p q : Pointer) → compare (map_memory f m) p q g ≡ compare m p q g
  compare_map g m Null q = refl
  compare_map g m (At a i) Null = refl
  compare_map g m (At a i) (At b j) = ap (λ r. and_then r (λ done. g i j)) (together_map m a b)

  pub difference_map : (m : Memory A) (p q : Pointer) → store.difference (map_memory f m) p q ≡ store.difference m p q
  difference_map m p q = compare_map distance m p q

  pub before_map : (m : Memory A) (p q : Pointer) → store.before (map_memory f m) p q ≡ store.before m p q
  before_map m p q = compare_map (λ i j. Ok (int_lt i j)) m p q

  same_live_map : (m : Memory A) (p q : Pointer) → store.same_live (map_memory f m) p q ≡ store.same_live m p q
  same_live_map m Null Null = refl
  same_live_map m Null (At b j) = refl
  same_live_map m (At a i) Null = refl
  same_live_map m (At a i) (At b j) =
      ap (λ x. if is_same_base a b then Ok (int_eq i j) else if x || is_end (block_of (map_memory f m) b) j then Err ops.Blocks else Ok false) (is_end_map f m a i)
      ∙ ap (λ y. if is_same_base a b then Ok (int_eq i j) else if is_end (block_of m a) i || y then Err ops.Blocks else Ok false) (is_end_map f m b j)

  pub same_map : (m : Memory A) (p q : Pointer) → store.same (map_memory f m) p q ≡ store.same m p q
  same_map m p q =
      ap (λ x. if x || is_freed (map_memory f m) q then Err ops.Freed else store.same_live (map_memory f m) p q) (is_freed_map f m p)
      ∙ ap (λ y. if is_freed m p || y then Err ops.Freed else store.same_live (map_memory f m) p q) (is_freed_map f m q)
      ∙ ap (λ r. if is_freed m p || is_freed m q then Err ops.Freed else r) (same_live_map m p q)

  pub is_null_map : (m : Memory A) (p : Pointer) → store.is_null (map_memory f m) p ≡ store.is_null m p
  is_null_map m p = ap (λ x. if x then Err ops.Freed else Ok (store.is_null_pointer p)) (is_freed_map f m p)

  -- ---- changing a block

  module _ (one : Block A → ℤ → Result (Block A) Op) (two : Block B → ℤ → Result (Block B) Op) (e : (b : Block A) (at : ℤ) → two (map_block f b) at ≡ map_answer (map_block f) (one b at)) where
    change_map : (m : Memory A) (p : Pointer) → change (map_memory f m) p two ≡ map_answer (map_memory f) (change m p one)
    change_map m Null = refl
    change_map m (At base offset) = ap (λ o. and_then (inside o) (λ b. and_then (two b offset) (λ c. Ok (with_block (map_memory f m) base c)))) (block_of_map f m base) ∙ go (block_of m base)
      where
        go : (o : Option (Block A)) → and_then (inside (option_map (map_block f) o)) (λ b. and_then (two b offset) (λ c. Ok (with_block (map_memory f m) base c))) ≡ map_answer (map_memory f) (and_then (inside o) (λ b. and_then (one b offset) (λ c. Ok (with_block m base c))))
        go None = refl
        go (Some b) = ap (λ r. and_then r (λ c. Ok (with_block (map_memory f m) base c))) (e b offset) ∙ goes_on_map (map_block f) (map_memory f) (λ c. Ok (with_block m base c)) (λ c. Ok (with_block (map_memory f m) base c)) (λ c. ap Ok (with_block_map f m base c)) (one b offset)

  pub put_map : (m : Memory A) (p : Pointer) (at : ℤ) (c : A) → store.put (map_memory f m) p at (f c) ≡ map_answer (map_memory f) (store.put m p at c)
  put_map m p at c = change_map (with_cell c) (with_cell (f c)) (with_cell_map f c) m (plus p at)

  pub set_byte_map : (m : Memory A) (p : Pointer) (i : ℤ) → store.set_byte (map_memory f m) p i ≡ map_answer (map_memory f) (store.set_byte m p i)
  set_byte_map m p (pos n) =
      ap (λ r. if nat_lt n 256 then r else Err ops.Byte) (change_map (with_bytes (n ∷ [])) (with_bytes (n ∷ [])) (with_bytes_map f (n ∷ [])) m p) ∙ either_map (map_memory f) (nat_lt n 256) (change m p (with_bytes (n ∷ []))) (Err ops.Byte)
  set_byte_map m p (negsuc n) = refl

  pub set_word_map : (m : Memory A) (p : Pointer) (i : ℤ) → store.set_word (map_memory f m) p i ≡ map_answer (map_memory f) (store.set_word m p i)
  set_word_map m p i = change_map (with_bytes (store.bytes_of_word i)) (with_bytes (store.bytes_of_word i)) (with_bytes_map f (store.bytes_of_word i)) m p

  pub release_map : (m : Memory A) (p : Pointer) → store.release (map_memory f m) p ≡ map_answer (map_memory f) (store.release m p)
  release_map m Null = refl
  release_map m (At (Fixed n) offset) = refl
  release_map m (At (Made n) (pos zero)) = change_map freed freed (freed_map f) m (At (Made n) (pos zero))
  release_map m (At (Made n) (pos (suc k))) = refl
  release_map m (At (Made n) (negsuc k)) = refl

  -- ---- new blocks

  pub fixed_map : (m : Memory A) (number : ℕ) (b : Block A) → store.fixed (map_memory f m) number (map_block f b) ≡ map_memory f (store.fixed m number b)
  fixed_map m number b = ap (λ (fs : List (ℕ × Block B)). record { fixed = fs; made = map (map_block f) m.made }) (sym (map-append (map_numbered f) m.fixed ((number, b) ∷ [])))

  granted_map : (m : Memory A) (w : Surroundings) (b : Block A) (yes : Bool) → granted (map_memory f m) w (map_block f b) yes ≡ map_allocation f (granted m w b yes)
  granted_map m w b true =
      ap (λ (bs : List (Block B)). record { memory = record { fixed = map (map_numbered f) m.fixed; made = bs }; world = record w { grants = rest_of w.grants }; pointer = At (Made (length (map (map_block f) m.made))) (pos 0) }) (sym (map-append (map_block f) m.made (b ∷ [])))
      ∙ ap (λ n. record { memory = map_memory f (record m { made = m.made ++ b ∷ [] }); world = record w { grants = rest_of w.grants }; pointer = At (Made n) (pos 0) }) (length-map m.made (map_block f))
  granted_map m w b false = refl

  module _ (one : ℕ → Block A) (two : ℕ → Block B) (e : (n : ℕ) → two n ≡ map_block f (one n)) where
    allocation_map : (m : Memory A) (w : Surroundings) (size : ℤ) → allocation (map_memory f m) w size two ≡ map_answer (map_allocation f) (allocation m w size one)
    allocation_map m w (pos n) =
        ap (λ b. if is_size n then Ok (granted (map_memory f m) w b (next_grant w.grants)) else Err ops.Size) (e n)
        ∙ ap (λ a. if is_size n then Ok a else Err ops.Size) (granted_map m w (one n) (next_grant w.grants))
        ∙ either_map (map_allocation f) (is_size n) (Ok (granted m w (one n) (next_grant w.grants))) (Err ops.Size)
    allocation_map m w (negsuc n) = refl

  pub allocate_map : (m : Memory A) (w : Surroundings) (size : ℤ) → store.allocate (map_memory f m) w size ≡ map_answer (map_allocation f) (store.allocate m w size)
  allocate_map m w size = allocation_map (λ n. Bytes (replicate n None)) (λ n. Bytes (replicate n None)) (λ n. refl) m w size

  pub allocate_cells_map : (m : Memory A) (w : Surroundings) (count : ℤ) (fill : Option A) → store.allocate_cells (map_memory f m) w count (option_map f fill) ≡ map_answer (map_allocation f) (store.allocate_cells m w count fill)
  allocate_cells_map m w count fill = allocation_map (λ n. Cells (replicate n fill)) (λ n. Cells (replicate n (option_map f fill))) (λ n. ap Cells (sym (map-replicate (option_map f) n fill))) m w count

  -- ---- all of them

  pub natural : OperationsAreNatural f
  natural = record {
    load = load_map;
    load_word = load_word_map;
    cell_count = cell_count_map;
    text_length = text_length_map;
    text = text_map;
    text_at = text_at_map;
    moved = moved_map;
    difference = difference_map;
    before = before_map;
    same = same_map;
    is_null = is_null_map;
    is_pointer = is_pointer_map f;
    next_number = next_number_map f;
    get = get_map;
    set_byte = set_byte_map;
    set_word = set_word_map;
    put = put_map;
    release = release_map;
    allocate = allocate_map;
    allocate_cells = allocate_cells_map;
    fixed = fixed_map;
  }
