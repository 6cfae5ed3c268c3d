-- Operations of a store come to the same on two memories whose fixed blocks are the same where a program reaches.
-- For: `survivors_run_alike`
use Rattle.std.proofs.Common.{◌≡◌, ℕ, ℤ, pos, negsuc, zero, suc, List, [], ◌∷◌, ◌++◌, length, replicate, Bool, true, false, Option, Some, None, Result, Ok, Err, refl, sym, ap, ◌∙◌, subst, arith, ◌⊎◌, inl, inr}
use Rattle.std.specs.Prelude.{slice_get, slice_set, nat_eq, nat_lt, ◌||◌, if◌then◌else◌, map}
use Rattle.std.specs.Ordering.{int_eq}
use Rattle.std.specs.Option.{option_map}
use Rattle.ps_base.specs.declared.faults.Op.{Op}
use Rattle.ps_base.specs.declared.faults.Op.TheVariants as ops
use Rattle.byte_store.specs.declared.pointer.Base.{Base}
use Rattle.byte_store.specs.declared.pointer.Base.TheVariants.{Fixed, Made}
use Rattle.byte_store.specs.declared.pointer.Pointer.{Pointer}
use Rattle.byte_store.specs.declared.pointer.Pointer.TheVariants.{Null, At}
use Rattle.byte_store.specs.Worlds.{Surroundings, next_grant}
use Rattle.byte_store.specs.Blocks.{Block, Bytes, Cells, Freed, Memory, member, overwritten, find, replaced, block_of, with_block, beside, is_freed_block, is_freed, is_end, is_same_base}
use Rattle.byte_store.specs.Operations as store
use Rattle.byte_store.specs.Operations.{and_then, inside, set, cell_at, with_cell, with_bytes, freed, plus, look, compare, together, change, is_null_pointer, same_live, is_index, Allocation, granted, allocation, is_size}
use Rattle.ps_meaning.specs.declared.values.RunValue.{RunValue}
use Rattle.ps_surviving.proofs.ChangesPutOne.{some_same, Good, set_is, more_is, overwritten_is, with_block_is, copies_are}

-- the same memory with other fixed blocks
abbrev pub other : Memory RunValue → List (ℕ × Block RunValue) → Memory RunValue
other m fixed = record m { fixed = fixed }

abbrev Cellular : Block RunValue → Type 0
Cellular (Bytes bytes) = ⊥
Cellular (Cells xs) = Unit {0}
Cellular (Freed n) = ⊥

bytes_not : (bytes : List (Option ℕ)) (cs : List (Option RunValue)) → Bytes bytes ≡ Cells cs → ⊥
bytes_not bytes cs e = subst Cellular (sym e) tt

freed_not : (n : ℕ) (cs : List (Option RunValue)) → Freed n ≡ Cells cs → ⊥
freed_not n cs e = subst Cellular (sym e) tt

items_same : (cs ds : List (Option RunValue)) → Cells cs ≡ Cells ds → cs ≡ ds
items_same cs ds e = ap items e
  where
    items : Block RunValue → List (Option RunValue)
    items (Bytes bytes) = []
    items (Cells xs) = xs
    items (Freed n) = []

-- a value for one number
abbrev pick : {A : Type 0} → Bool → A → Option A → Option A
pick true c o = option_map (λ _. c) o
pick false c o = o

replaced_find : {A : Type 0} (n k : ℕ) (c : A) (es : List (ℕ × A)) → find k (replaced n c es) ≡ pick (nat_eq k n) c (find k es)
replaced_find n k c [] = none (nat_eq k n)
  where
    none : (d : Bool) → None ≡ pick d c None
    none true = refl
    none false = refl
replaced_find n k c (e ∷ es) = one (replaced_find n k c es) (nat_eq n e.0) (nat_eq k e.0) (nat_eq k n) refl refl refl
  where
    one : find k (replaced n c es) ≡ pick (nat_eq k n) c (find k es) → (a b d : Bool) → nat_eq n e.0 ≡ a → nat_eq k e.0 ≡ b → nat_eq k n ≡ d
        → find k (if a then (e.0, c) ∷ es else e ∷ replaced n c es) ≡ pick d c (if b then Some e.1 else find k es)
    one later true true true i j g = ap (λ z. if z then Some c else find k es) j
    one later true true false i j g = absurd (grind (arith, i, j, g))
    one later true false true i j g = absurd (grind (arith, i, j, g))
    one later true false false i j g = ap (λ z. if z then Some c else find k es) j
    one later false true true i j g = absurd (grind (arith, i, j, g))
    one later false true false i j g = ap (λ z. if z then Some e.1 else find k (replaced n c es)) j
    one later false false d i j g = ap (λ z. if z then Some e.1 else find k (replaced n c es)) j ∙ later ∙ ap (λ z. pick z c (find k es)) g

-- which fixed blocks are reached; all made ones are
module _ (reached : ℕ → Bool) where
  abbrev pub base_reached : Base → Bool
  base_reached (Fixed n) = reached n
  base_reached (Made n) = true

  abbrev pub pointer_reached : Pointer → Bool
  pointer_reached Null = true
  pointer_reached (At base offset) = base_reached base

module _ (reached : ℕ → Bool) (inside_value : RunValue → Bool) where
  -- The other fixed blocks are the same where they are reached, and what is in cells that are reached is inside.
  pub record Beside (m : Memory RunValue) (fixed : List (ℕ × Block RunValue)) : Type 0 where
    pub same : (n : ℕ) → reached n ≡ true → find n fixed ≡ find n m.fixed
    pub cells : (base : Base) (cs : List (Option RunValue)) (n : ℕ) (v : RunValue) → base_reached reached base ≡ true → block_of m base ≡ Some (Cells cs) → slice_get cs n ≡ Some (Some v) → inside_value v ≡ true

  -- an operation on the other memory comes to the same
  pub record Comes (m : Memory RunValue) (x : Memory RunValue) : Type 0 where
    pub fixed : List (ℕ × Block RunValue)
    pub is : x ≡ other m fixed
    pub beside : Beside m fixed

  abbrev pub ChangesSame : Result (Memory RunValue) Op → Result (Memory RunValue) Op → Type 0
  ChangesSame (Ok m) (Ok x) = Comes m x
  ChangesSame (Ok m) (Err op) = ⊥
  ChangesSame (Err op) r = r ≡ Err op

  -- ---- looks

  module _ (m : Memory RunValue) (fixed : List (ℕ × Block RunValue)) (b : Beside m fixed) where
    pub block_same : (base : Base) → base_reached reached base ≡ true → block_of (other m fixed) base ≡ block_of m base
    block_same (Fixed n) h = b.same n h
    block_same (Made n) h = refl

    pub look_same : {A : Type 0} (p : Pointer) (f : Block RunValue → ℤ → Result A Op) → pointer_reached reached p ≡ true → look (other m fixed) p f ≡ look m p f
    look_same Null f h = refl
    look_same (At base offset) f h = ap (λ o. and_then (inside (beside o offset)) (λ at. f at.0 at.1)) (block_same base h)

    pub plus_reached : (p : Pointer) (k : ℤ) → pointer_reached reached p ≡ true → pointer_reached reached (plus p k) ≡ true
    plus_reached Null k h = refl
    plus_reached (At base offset) k h = h

    freed_same : (p : Pointer) → pointer_reached reached p ≡ true → is_freed (other m fixed) p ≡ is_freed m p
    freed_same Null h = refl
    freed_same (At base offset) h = ap is_freed_block (block_same base h)

    pub null_same : (p : Pointer) → pointer_reached reached p ≡ true → store.is_null (other m fixed) p ≡ store.is_null m p
    null_same p h = ap (λ c. if c then Err ops.Freed else Ok (is_null_pointer p)) (freed_same p h)

    together_same : (x y : Base) → base_reached reached x ≡ true → base_reached reached y ≡ true → together (other m fixed) x y ≡ together m x y
    together_same x y h l =
        ap (λ o. if is_freed_block o || is_freed_block (block_of (other m fixed) y) then Err ops.Freed else if is_same_base x y then Ok tt else Err ops.Blocks) (block_same x h)
        ∙ ap (λ o. if is_freed_block (block_of m x) || is_freed_block o then Err ops.Freed else if is_same_base x y then Ok tt else Err ops.Blocks) (block_same y l)

    pub compare_same : {A : Type 0} (p q : Pointer) (f : ℤ → ℤ → Result A Op) → pointer_reached reached p ≡ true → pointer_reached reached q ≡ true → compare (other m fixed) p q f ≡ compare m p q f
    compare_same Null q f h l = refl
    compare_same (At x i) Null f h l = refl
    compare_same (At x i) (At y j) f h l = ap (λ r. and_then r (λ done. f i j)) (together_same x y h l)

    live_same : (p q : Pointer) → pointer_reached reached p ≡ true → pointer_reached reached q ≡ true → same_live (other m fixed) p q ≡ same_live m p q
    live_same Null Null h l = refl
    live_same Null (At y j) h l = refl
    live_same (At x i) Null h l = refl
    live_same (At x i) (At y j) h l =
        ap (λ o. if is_same_base x y then Ok (int_eq i j) else if is_end o i || is_end (block_of (other m fixed) y) j then Err ops.Blocks else Ok false) (block_same x h)
        ∙ ap (λ o. if is_same_base x y then Ok (int_eq i j) else if is_end (block_of m x) i || is_end o j then Err ops.Blocks else Ok false) (block_same y l)

    pub equal_same : (p q : Pointer) → pointer_reached reached p ≡ true → pointer_reached reached q ≡ true → store.same (other m fixed) p q ≡ store.same m p q
    equal_same p q h l =
        ap (λ c. if c || is_freed (other m fixed) q then Err ops.Freed else same_live (other m fixed) p q) (freed_same p h)
        ∙ ap (λ c. if is_freed m p || c then Err ops.Freed else same_live (other m fixed) p q) (freed_same q l)
        ∙ ap (λ r. if is_freed m p || is_freed m q then Err ops.Freed else r) (live_same p q h l)

    pub text_at_same : (p : Pointer) (k : ℤ) → pointer_reached reached p ≡ true → store.text_at (other m fixed) p k ≡ store.text_at m p k
    text_at_same p k h =
        ap (λ r. and_then r (λ n. if is_index k n then store.load (other m fixed) (plus p k) else Err ops.Bounds)) (look_same p store.text_from h)
        ∙ ap (λ r. and_then (store.text_length m p) (λ n. if is_index k n then r else Err ops.Bounds)) (look_same (plus p k) store.byte_at (plus_reached p k h))

    pub moved_same : (p : Pointer) (k : ℤ) → pointer_reached reached p ≡ true → store.moved (other m fixed) p k ≡ store.moved m p k
    moved_same p k h = ap (λ r. and_then r (λ at. Ok (plus p k))) (look_same (plus p k) store.place_at (plus_reached p k h))

    -- what is in a cell is inside
    pub cell_inside : (p : Pointer) → pointer_reached reached p ≡ true → Good (λ v. inside_value v ≡ true) (look m p cell_at)
    cell_inside Null h = tt
    cell_inside (At base offset) h = one (block_of m base) refl
      where
        cell : (cs : List (Option RunValue)) (at : ℤ) → block_of m base ≡ Some (Cells cs) → Good (λ v. inside_value v ≡ true) (and_then (inside (member cs at)) (λ c. set c))
        cell cs (negsuc n) there = tt
        cell cs (pos n) there = found (slice_get cs n) refl
          where
            found : (o : Option (Option RunValue)) → slice_get cs n ≡ o → Good (λ v. inside_value v ≡ true) (and_then (inside o) (λ c. set c))
            found None e = tt
            found (Some None) e = tt
            found (Some (Some v)) e = b.cells base cs n v h there e

        one : (o : Option (Block RunValue)) → block_of m base ≡ o → Good (λ v. inside_value v ≡ true) (and_then (inside (beside o offset)) (λ at. cell_at at.0 at.1))
        one None e = tt
        one (Some (Bytes bytes)) e = tt
        one (Some (Freed n)) e = tt
        one (Some (Cells cs)) e = cell cs offset e

    -- ---- changes

    -- what may stand in place of a block
    abbrev Stands : Block RunValue → Type 0
    Stands c = (cs : List (Option RunValue)) (n : ℕ) (v : RunValue) → c ≡ Cells cs → slice_get cs n ≡ Some (Some v) → inside_value v ≡ true

    replaced_same : (n k : ℕ) (c : Block RunValue) (es fs : List (ℕ × Block RunValue)) → find k es ≡ find k fs → find k (replaced n c es) ≡ find k (replaced n c fs)
    replaced_same n k c es fs e = replaced_find n k c es ∙ ap (pick (nat_eq k n) c) e ∙ sym (replaced_find n k c fs)

    with_block_beside : (base : Base) (c : Block RunValue) → Stands c → Comes (with_block m base c) (with_block (other m fixed) base c)
    with_block_beside (Fixed n) c s = record {
      fixed = replaced n c fixed;
      is = refl;
      beside = record { same = λ k h. replaced_same n k c fixed m.fixed (b.same k h); cells = λ at cs i v h is there. one at cs i v h there (with_block_is m (Fixed n) at c (Cells cs) is) };
    }
      where
        one : (at : Base) (cs : List (Option RunValue)) (i : ℕ) (v : RunValue) → base_reached reached at ≡ true → slice_get cs i ≡ Some (Some v) → ((Fixed n ≡ at) × (c ≡ Cells cs)) ⊎ (block_of m at ≡ Some (Cells cs)) → inside_value v ≡ true
        one at cs i v h there (inl e) = s cs i v e.1 there
        one at cs i v h there (inr e) = b.cells at cs i v h e there
    with_block_beside (Made n) c s = record {
      fixed = fixed;
      is = refl;
      beside = record { same = b.same; cells = λ at cs i v h is there. one at cs i v h there (with_block_is m (Made n) at c (Cells cs) is) };
    }
      where
        one : (at : Base) (cs : List (Option RunValue)) (i : ℕ) (v : RunValue) → base_reached reached at ≡ true → slice_get cs i ≡ Some (Some v) → ((Made n ≡ at) × (c ≡ Cells cs)) ⊎ (block_of m at ≡ Some (Cells cs)) → inside_value v ≡ true
        one at cs i v h there (inl e) = s cs i v e.1 there
        one at cs i v h there (inr e) = b.cells at cs i v h e there

    pub change_same : (p : Pointer) (f : Block RunValue → ℤ → Result (Block RunValue) Op) → pointer_reached reached p ≡ true
        → ((base : Base) (offset : ℤ) (c : Block RunValue) → base_reached reached base ≡ true → block_of m base ≡ Some c → Good Stands (f c offset)) → ChangesSame (change m p f) (change (other m fixed) p f)
    change_same Null f h g = refl
    change_same (At base offset) f h g =
        subst (λ o. ChangesSame (change m (At base offset) f) (and_then (inside o) (λ c. and_then (f c offset) (λ d. Ok (with_block (other m fixed) base d))))) (sym (block_same base h)) (one (block_of m base) refl)
      where
        two : (r : Result (Block RunValue) Op) → Good Stands r → ChangesSame (and_then r (λ d. Ok (with_block m base d))) (and_then r (λ d. Ok (with_block (other m fixed) base d)))
        two (Ok d) s = with_block_beside base d s
        two (Err op) s = refl

        one : (o : Option (Block RunValue)) → block_of m base ≡ o → ChangesSame (and_then (inside o) (λ c. and_then (f c offset) (λ d. Ok (with_block m base d)))) (and_then (inside o) (λ c. and_then (f c offset) (λ d. Ok (with_block (other m fixed) base d))))
        one None e = refl
        one (Some c) e = two (f c offset) (g base offset c h e)

    with_bytes_stands : (new : List ℕ) (c : Block RunValue) (at : ℤ) → Good Stands (with_bytes new c at)
    with_bytes_stands new (Bytes bytes) at = one (overwritten (map Some new) bytes at)
      where
        one : (o : Option (List (Option ℕ))) → Good Stands (and_then (inside o) (λ bs. Ok (Bytes bs)))
        one None = tt
        one (Some bs) = λ cs n v e is. absurd (bytes_not bs cs e)
    with_bytes_stands new (Cells cs) at = tt
    with_bytes_stands new (Freed n) at = tt

    pub put_bytes_same : (p : Pointer) (new : List ℕ) → pointer_reached reached p ≡ true → ChangesSame (change m p (with_bytes new)) (change (other m fixed) p (with_bytes new))
    put_bytes_same p new h = change_same p (with_bytes new) h (λ base offset c r is. with_bytes_stands new c offset)

    pub byte_same : (p : Pointer) (n : ℤ) → pointer_reached reached p ≡ true → ChangesSame (store.set_byte m p n) (store.set_byte (other m fixed) p n)
    byte_same p (negsuc n) h = refl
    byte_same p (pos n) h = one (nat_lt n 256)
      where
        one : (c : Bool) → ChangesSame (if c then change m p (with_bytes (n ∷ [])) else Err ops.Byte) (if c then change (other m fixed) p (with_bytes (n ∷ [])) else Err ops.Byte)
        one true = put_bytes_same p (n ∷ []) h
        one false = refl

    freed_stands : (c : Block RunValue) (at : ℤ) → Good Stands (freed c at)
    freed_stands (Bytes bytes) at = λ cs n v e is. absurd (freed_not (length bytes) cs e)
    freed_stands (Cells xs) at = λ cs n v e is. absurd (freed_not (length xs) cs e)
    freed_stands (Freed n) at = tt

    pub release_same : (p : Pointer) → ChangesSame (store.release m p) (store.release (other m fixed) p)
    release_same Null = refl
    release_same (At (Fixed n) offset) = refl
    release_same (At (Made n) (pos zero)) = change_same (At (Made n) (pos zero)) freed refl (λ base offset c r is. freed_stands c offset)
    release_same (At (Made n) (pos (suc k))) = refl
    release_same (At (Made n) (negsuc k)) = refl

    pub put_same : (p : Pointer) (k : ℤ) (v : RunValue) → pointer_reached reached p ≡ true → inside_value v ≡ true → ChangesSame (store.put m p k v) (store.put (other m fixed) p k v)
    put_same p k v h new = change_same (plus p k) (with_cell v) (plus_reached p k h) one
      where
        put_in : (cs : List (Option RunValue)) (base : Base) (i : ℕ) → base_reached reached base ≡ true → block_of m base ≡ Some (Cells cs) → Stands (Cells (slice_set cs i (Some v)))
        put_in cs base i r there ds n w e is = two (set_is cs i n (Some v) (Some w) (subst (λ xs. slice_get xs n ≡ Some (Some w)) (sym (items_same (slice_set cs i (Some v)) ds e)) is))
          where
            two : ((i ≡ n) × (Some v ≡ Some w)) ⊎ (slice_get cs n ≡ Some (Some w)) → inside_value w ≡ true
            two (inl g) = subst (λ z. inside_value z ≡ true) (some_same v w g.1) new
            two (inr g) = b.cells base cs n w r there g

        one : (base : Base) (offset : ℤ) (c : Block RunValue) → base_reached reached base ≡ true → block_of m base ≡ Some c → Good Stands (with_cell v c offset)
        one base offset (Bytes bytes) r there = tt
        one base offset (Freed n) r there = tt
        one base offset (Cells cs) r there = overwritten_is (λ o. Good Stands (and_then (inside o) (λ ds. Ok (Cells ds)))) cs offset (Some v) tt (λ i at. put_in cs base i r there)

    -- ---- new blocks

    pub record Allocates (a : Allocation RunValue) (y : Result (Allocation RunValue) Op) : Type 0 where
      pub fixed_after : List (ℕ × Block RunValue)
      pub is : y ≡ Ok (record { memory = other a.memory fixed_after; world = a.world; pointer = a.pointer })
      pub beside : Beside a.memory fixed_after
      pub reaches : pointer_reached reached a.pointer ≡ true

    abbrev pub AllocatesSame : Result (Allocation RunValue) Op → Result (Allocation RunValue) Op → Type 0
    AllocatesSame (Ok a) y = Allocates a y
    AllocatesSame (Err op) y = y ≡ Err op

    more_beside : (c : Block RunValue) → Stands c → Beside (record m { made = m.made ++ c ∷ [] }) fixed
    more_beside c s = record { same = b.same; cells = go }
      where
        one : (n : ℕ) (cs : List (Option RunValue)) (i : ℕ) (v : RunValue) → slice_get cs i ≡ Some (Some v) → ((n ≡ length m.made) × (c ≡ Cells cs)) ⊎ (slice_get m.made n ≡ Some (Cells cs)) → inside_value v ≡ true
        one n cs i v there (inl e) = s cs i v e.1 there
        one n cs i v there (inr e) = b.cells (Made n) cs i v refl e there

        go : (base : Base) (cs : List (Option RunValue)) (i : ℕ) (v : RunValue) → base_reached reached base ≡ true → block_of (record m { made = m.made ++ c ∷ [] }) base ≡ Some (Cells cs) → slice_get cs i ≡ Some (Some v) → inside_value v ≡ true
        go (Fixed n) cs i v h is there = b.cells (Fixed n) cs i v h is there
        go (Made n) cs i v h is there = one n cs i v there (more_is m.made n c (Cells cs) is)

    pub allocation_same : (w : Surroundings) (size : ℤ) (make : ℕ → Block RunValue) → ((n : ℕ) → Stands (make n)) → AllocatesSame (allocation m w size make) (allocation (other m fixed) w size make)
    allocation_same w (negsuc n) make s = refl
    allocation_same w (pos n) make s = one (is_size n) (next_grant w.grants)
      where
        one : (c d : Bool) → AllocatesSame (if c then Ok (granted m w (make n) d) else Err ops.Size) (if c then Ok (granted (other m fixed) w (make n) d) else Err ops.Size)
        one true true = record { fixed_after = fixed; is = refl; beside = more_beside (make n) (s n); reaches = refl }
        one true false = record { fixed_after = fixed; is = refl; beside = b; reaches = refl }
        one false d = refl

    pub cells_same : (w : Surroundings) (size : ℤ) (fill : Option RunValue) → ((v : RunValue) → fill ≡ Some v → inside_value v ≡ true) → AllocatesSame (store.allocate_cells m w size fill) (store.allocate_cells (other m fixed) w size fill)
    cells_same w size fill h = allocation_same w size (λ n. Cells (replicate n fill)) (λ n cs i v e is. h v (copies_are n i fill (Some v) (subst (λ xs. slice_get xs i ≡ Some (Some v)) (sym (items_same (replicate n fill) cs e)) is)))

    pub bytes_same : (w : Surroundings) (size : ℤ) → AllocatesSame (store.allocate m w size) (store.allocate (other m fixed) w size)
    bytes_same w size = allocation_same w size (λ n. Bytes (replicate n None)) (λ n cs i v e is. absurd (bytes_not (replicate n None) cs e))
