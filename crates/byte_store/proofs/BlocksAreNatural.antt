-- The block of a base is, in a store whose cells hold something else, the same block with these cells.
-- For: operations_are_natural
use Rattle.std.proofs.Common.{◌≡◌, ℕ, ℤ, pos, negsuc, List, [], ◌∷◌, map, length, Bool, true, false, Option, Some, None, Result, Ok, refl, sym, ap, ◌∙◌}
use Rattle.std.specs.Prelude.{nat_eq, nat_le, if◌then◌else◌}
use Rattle.std.specs.Option.{option_map}
use Rattle.std.proofs.lemmas.List.{length-map, map-set}
use Rattle.std.proofs.lemmas.Option.{slice_get-map}
use Rattle.ps_base.specs.declared.faults.Op.{Op}
use Rattle.byte_store.specs.declared.pointer.Base.{Base}
use Rattle.byte_store.specs.declared.pointer.Base.TheVariants.{Fixed, Made}
use Rattle.byte_store.specs.declared.pointer.Pointer.{Pointer}
use Rattle.byte_store.specs.declared.pointer.Pointer.TheVariants.{Null, At}
use Rattle.byte_store.specs.Blocks.{Block, Bytes, Cells, Freed, Memory, rest, overwritten, find, replaced, next_number, block_of, with_block, length_of, is_freed_block, is_freed, is_end, is_within, is_pointer}
use Rattle.byte_store.specs.Operations.{and_then, inside, set, byte_at, word_at, cell_at, place_at, cells_from, text_from, text_in, with_bytes, with_cell, freed}
use Rattle.byte_store.specs.Mapping.{map_answer, map_block, map_numbered, map_memory}
use Rattle.byte_store.proofs.NumbersAreFound.{next_shown}
use Rattle.byte_store.proofs.AnswersAreNatural.{goes_on_map, goes_on_same, inside_map, set_map}
use Rattle.byte_store.proofs.PlacesAreNatural.{member_map, rest_map, overwritten_map}

module _ {A B : Type 0} (f : A → B) where
  -- ---- blocks by bases

  pub find_map : (n : ℕ) (es : List (ℕ × Block A)) → find n (map (map_numbered f) es) ≡ option_map (map_block f) (find n es)
  find_map n [] = refl
  find_map n (e ∷ es) = go (nat_eq n e.0) (find_map n es)
    where
      go : (b : Bool) → find n (map (map_numbered f) es) ≡ option_map (map_block f) (find n es) → (if b then Some (map_block f e.1) else find n (map (map_numbered f) es)) ≡ option_map (map_block f) (if b then Some e.1 else find n es)
      go true ih = refl
      go false ih = ih

  replaced_map : (n : ℕ) (b : Block A) (es : List (ℕ × Block A)) → replaced n (map_block f b) (map (map_numbered f) es) ≡ map (map_numbered f) (replaced n b es)
  replaced_map n b [] = refl
  replaced_map n b (e ∷ es) = go (nat_eq n e.0) (replaced_map n b es)
    where
      go : (is : Bool) → replaced n (map_block f b) (map (map_numbered f) es) ≡ map (map_numbered f) (replaced n b es) → (if is then (e.0, map_block f b) ∷ map (map_numbered f) es else map_numbered f e ∷ replaced n (map_block f b) (map (map_numbered f) es)) ≡ map (map_numbered f) (if is then (e.0, b) ∷ es else e ∷ replaced n b es)
      go true ih = refl
      go false ih = ap (λ l. map_numbered f e ∷ l) ih

  pub block_of_map : (m : Memory A) (base : Base) → block_of (map_memory f m) base ≡ option_map (map_block f) (block_of m base)
  block_of_map m (Fixed n) = find_map n m.fixed
  block_of_map m (Made n) = slice_get-map (map_block f) m.made n

  pub with_block_map : (m : Memory A) (base : Base) (b : Block A) → with_block (map_memory f m) base (map_block f b) ≡ map_memory f (with_block m base b)
  with_block_map m (Fixed n) b = ap (λ (fs : List (ℕ × Block B)). record { fixed = fs; made = map (map_block f) m.made }) (replaced_map n b m.fixed)
  with_block_map m (Made n) b = ap (λ (bs : List (Block B)). record { fixed = map (map_numbered f) m.fixed; made = bs }) (sym (map-set (map_block f) m.made n b))

  -- the number of the next fixed block
  pub next_number_map : (m : Memory A) → next_number (map_memory f m).fixed ≡ next_number m.fixed
  next_number_map m = next_shown (map_block f) m.fixed

  -- ---- what is found in a block

  pub byte_at_map : (b : Block A) (at : ℤ) → byte_at (map_block f b) at ≡ byte_at b at
  byte_at_map (Bytes bytes) at = refl
  byte_at_map (Cells cells) at = refl
  byte_at_map (Freed n) at = refl

  pub word_at_map : (b : Block A) (at : ℤ) → word_at (map_block f b) at ≡ word_at b at
  word_at_map (Bytes bytes) at = refl
  word_at_map (Cells cells) at = refl
  word_at_map (Freed n) at = refl

  pub text_from_map : (b : Block A) (at : ℤ) → text_from (map_block f b) at ≡ text_from b at
  text_from_map (Bytes bytes) at = refl
  text_from_map (Cells cells) at = refl
  text_from_map (Freed n) at = refl

  pub text_in_map : (b : Block A) (at : ℤ) → text_in (map_block f b) at ≡ text_in b at
  text_in_map (Bytes bytes) at = refl
  text_in_map (Cells cells) at = refl
  text_in_map (Freed n) at = refl

  pub cell_at_map : (b : Block A) (at : ℤ) → cell_at (map_block f b) at ≡ map_answer f (cell_at b at)
  cell_at_map (Bytes bytes) at = refl
  cell_at_map (Cells cells) at =
      ap (λ o. and_then (inside o) (λ c. set c)) (member_map (option_map f) cells at) ∙ ap (λ r. and_then r (λ c. set c)) (inside_map (option_map f) _) ∙ goes_on_map (option_map f) f (λ c. set c) (λ c. set c) (set_map f) (inside _)
  cell_at_map (Freed n) at = refl

  -- what is behind a place of the cells
  behind : {X : Type 0} (g : List (Option A) → Result X Op) (h : List (Option B) → Result X Op) → ((cs : List (Option A)) → h (map (option_map f) cs) ≡ g cs) → (cells : List (Option A)) (at : ℤ) → and_then (inside (rest (map (option_map f) cells) at)) h ≡ and_then (inside (rest cells at)) g
  behind g h e cells at = ap (λ o. and_then (inside o) h) (rest_map (option_map f) cells at) ∙ go (rest cells at)
    where
      go : (o : Option (List (Option A))) → and_then (inside (option_map (map (option_map f)) o)) h ≡ and_then (inside o) g
      go None = refl
      go (Some cs) = e cs

  pub place_at_map : (b : Block A) (at : ℤ) → place_at (map_block f b) at ≡ place_at b at
  place_at_map (Bytes bytes) at = refl
  place_at_map (Cells cells) at = behind (λ cs. Ok at) (λ cs. Ok at) (λ cs. refl) cells at
  place_at_map (Freed n) at = refl

  pub cells_from_map : (b : Block A) (at : ℤ) → cells_from (map_block f b) at ≡ cells_from b at
  cells_from_map (Bytes bytes) at = refl
  cells_from_map (Cells cells) at = behind (λ cs. Ok (pos (length cs))) (λ cs. Ok (pos (length cs))) (λ cs. ap (λ n. Ok (pos n)) (length-map cs (option_map f))) cells at
  cells_from_map (Freed n) at = refl

  -- ---- what a block becomes

  pub with_bytes_map : (new : List ℕ) (b : Block A) (at : ℤ) → with_bytes new (map_block f b) at ≡ map_answer (map_block f) (with_bytes new b at)
  with_bytes_map new (Bytes bytes) at = goes_on_same (map_block f) (λ bs. Ok (Bytes bs)) (λ bs. Ok (Bytes bs)) (λ bs. refl) (inside (overwritten (map Some new) bytes at))
  with_bytes_map new (Cells cells) at = refl
  with_bytes_map new (Freed n) at = refl

  pub with_cell_map : (x : A) (b : Block A) (at : ℤ) → with_cell (f x) (map_block f b) at ≡ map_answer (map_block f) (with_cell x b at)
  with_cell_map x (Bytes bytes) at = refl
  with_cell_map x (Cells cells) at =
      ap (λ o. and_then (inside o) (λ cs. Ok (Cells cs))) (overwritten_map (option_map f) (Some x) cells at)
      ∙ ap (λ r. and_then r (λ cs. Ok (Cells cs))) (inside_map (map (option_map f)) (overwritten (Some x ∷ []) cells at))
      ∙ goes_on_map (map (option_map f)) (map_block f) (λ cs. Ok (Cells cs)) (λ cs. Ok (Cells cs)) (λ cs. refl) (inside (overwritten (Some x ∷ []) cells at))
  with_cell_map x (Freed n) at = refl

  pub freed_map : (b : Block A) (at : ℤ) → freed (map_block f b) at ≡ map_answer (map_block f) (freed b at)
  freed_map (Bytes bytes) at = refl
  freed_map (Cells cells) at = ap (λ n. Ok (Freed n)) (length-map cells (option_map f))
  freed_map (Freed n) at = refl

  -- ---- what a block is

  pub length_of_map : (b : Block A) → length_of (map_block f b) ≡ length_of b
  length_of_map (Bytes bytes) = refl
  length_of_map (Cells cells) = length-map cells (option_map f)
  length_of_map (Freed n) = refl

  is_freed_block_map : (o : Option (Block A)) → is_freed_block (option_map (map_block f) o) ≡ is_freed_block o
  is_freed_block_map None = refl
  is_freed_block_map (Some (Bytes bytes)) = refl
  is_freed_block_map (Some (Cells cells)) = refl
  is_freed_block_map (Some (Freed n)) = refl

  pub base_freed_map : (m : Memory A) (base : Base) → is_freed_block (block_of (map_memory f m) base) ≡ is_freed_block (block_of m base)
  base_freed_map m base = ap is_freed_block (block_of_map m base) ∙ is_freed_block_map (block_of m base)

  pub is_freed_map : (m : Memory A) (p : Pointer) → is_freed (map_memory f m) p ≡ is_freed m p
  is_freed_map m Null = refl
  is_freed_map m (At base offset) = base_freed_map m base

  is_end_block_map : (o : Option (Block A)) (at : ℤ) → is_end (option_map (map_block f) o) at ≡ is_end o at
  is_end_block_map None at = refl
  is_end_block_map (Some b) (pos k) = ap (λ n. nat_eq k n) (length_of_map b)
  is_end_block_map (Some b) (negsuc k) = refl

  pub is_end_map : (m : Memory A) (base : Base) (at : ℤ) → is_end (block_of (map_memory f m) base) at ≡ is_end (block_of m base) at
  is_end_map m base at = ap (λ o. is_end o at) (block_of_map m base) ∙ is_end_block_map (block_of m base) at

  is_within_map : (o : Option (Block A)) (at : ℤ) → is_within (option_map (map_block f) o) at ≡ is_within o at
  is_within_map None at = refl
  is_within_map (Some b) (pos k) = ap (λ n. nat_le k n) (length_of_map b)
  is_within_map (Some b) (negsuc k) = refl

  pub is_pointer_map : (m : Memory A) (p : Pointer) → is_pointer (map_memory f m) p ≡ is_pointer m p
  is_pointer_map m Null = refl
  is_pointer_map m (At base offset) = ap (λ o. is_within o offset) (block_of_map m base) ∙ is_within_map (block_of m base) offset
