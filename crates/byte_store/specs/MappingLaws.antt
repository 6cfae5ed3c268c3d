-- The law on stores whose cells hold something else (this project's own): each operation finds there what it finds here, and leaves
-- there what it leaves here.
use Rattle.std.specs.Prelude.{◌≡◌, ℕ, ℤ, Option}
use Rattle.std.specs.Option.{option_map}
use Rattle.byte_store.specs.declared.pointer.Pointer.{Pointer}
use Rattle.byte_store.specs.Worlds.{Surroundings}
use Rattle.byte_store.specs.Blocks as blocks
use Rattle.byte_store.specs.Blocks.{Block, Memory}
use Rattle.byte_store.specs.Operations as store
use Rattle.byte_store.specs.Mapping.{map_answer, map_block, map_memory, map_allocation}

pub record OperationsAreNatural {A B : Type 0} (f : A → B) : Type 0 where
  -- what is found in bytes, in lengths and in pointers is the same
  pub load : (m : Memory A) (p : Pointer) → store.load (map_memory f m) p ≡ store.load m p
  pub load_word : (m : Memory A) (p : Pointer) → store.load_word (map_memory f m) p ≡ store.load_word m p
  pub cell_count : (m : Memory A) (p : Pointer) → store.cell_count (map_memory f m) p ≡ store.cell_count m p
  pub text_length : (m : Memory A) (p : Pointer) → store.text_length (map_memory f m) p ≡ store.text_length m p
  pub text : (m : Memory A) (p : Pointer) → store.text (map_memory f m) p ≡ store.text m p
  pub text_at : (m : Memory A) (p : Pointer) (at : ℤ) → store.text_at (map_memory f m) p at ≡ store.text_at m p at
  pub moved : (m : Memory A) (p : Pointer) (by : ℤ) → store.moved (map_memory f m) p by ≡ store.moved m p by
  pub difference : (m : Memory A) (p q : Pointer) → store.difference (map_memory f m) p q ≡ store.difference m p q
  pub before : (m : Memory A) (p q : Pointer) → store.before (map_memory f m) p q ≡ store.before m p q
  pub same : (m : Memory A) (p q : Pointer) → store.same (map_memory f m) p q ≡ store.same m p q
  pub is_null : (m : Memory A) (p : Pointer) → store.is_null (map_memory f m) p ≡ store.is_null m p
  pub is_pointer : (m : Memory A) (p : Pointer) → blocks.is_pointer (map_memory f m) p ≡ blocks.is_pointer m p
  pub next_number : (m : Memory A) → blocks.next_number (map_memory f m).fixed ≡ blocks.next_number m.fixed
  -- what is found in a cell is f of it
  pub get : (m : Memory A) (p : Pointer) (at : ℤ) → store.get (map_memory f m) p at ≡ map_answer f (store.get m p at)
  -- what is left is what is left here, where each cell has f of what it has
  pub set_byte :
      (m : Memory A) (p : Pointer) (i : ℤ) → store.set_byte (map_memory f m) p i ≡ map_answer (map_memory f) (store.set_byte m p i)
  pub set_word :
      (m : Memory A) (p : Pointer) (i : ℤ) → store.set_word (map_memory f m) p i ≡ map_answer (map_memory f) (store.set_word m p i)
  pub put :
      (m : Memory A) (p : Pointer) (at : ℤ) (c : A) → store.put (map_memory f m) p at (f c) ≡ map_answer (map_memory f) (store.put m p at c)
  pub release : (m : Memory A) (p : Pointer) → store.release (map_memory f m) p ≡ map_answer (map_memory f) (store.release m p)
  pub allocate :
      (m : Memory A) (w : Surroundings) (size : ℤ) →
      store.allocate (map_memory f m) w size ≡ map_answer (map_allocation f) (store.allocate m w size)
  pub allocate_cells :
      (m : Memory A) (w : Surroundings) (count : ℤ) (fill : Option A) →
      store.allocate_cells (map_memory f m) w count (option_map f fill)
      ≡ map_answer (map_allocation f) (store.allocate_cells m w count fill)
  pub fixed :
      (m : Memory A) (number : ℕ) (b : Block A) →
      store.fixed (map_memory f m) number (map_block f b) ≡ map_memory f (store.fixed m number b)
