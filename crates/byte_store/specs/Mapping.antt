-- A store whose cells hold something else (this project's own).
--
-- Read `map_memory f m` as 'the store m, where each cell that was set has f of what it had'. Bytes, lengths, freed blocks and bases are
-- as they were.
use Rattle.std.specs.Prelude.{ℕ, map, Result, Ok, Err}
use Rattle.std.specs.Option.{option_map}
use Rattle.ps_base.specs.declared.faults.Op.{Op}
use Rattle.byte_store.specs.Blocks.{Block, Bytes, Cells, Freed, Memory}
use Rattle.byte_store.specs.Operations.{Allocation}

-- what an answer becomes; a cause stays
abbrev pub map_answer : {X Y : Type 0} → (X → Y) → Result X Op → Result Y Op
map_answer g (Ok x) = Ok (g x)
map_answer g (Err op) = Err op

module _ {A B : Type 0} (f : A → B) where
  abbrev pub map_block : Block A → Block B
  map_block (Bytes bytes) = Bytes bytes
  map_block (Cells cells) = Cells (map (option_map f) cells)
  map_block (Freed n) = Freed n

  abbrev pub map_numbered : ℕ × Block A → ℕ × Block B
  map_numbered e = (e.0, map_block e.1)

  abbrev pub map_memory : Memory A → Memory B
  map_memory m = record { fixed = map map_numbered m.fixed; made = map map_block m.made }

  abbrev pub map_allocation : Allocation A → Allocation B
  map_allocation a = record { memory = map_memory a.memory; world = a.world; pointer = a.pointer }
