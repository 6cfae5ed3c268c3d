-- What is left in a memory is left in it when blocks were added and cells changed.
-- For: `forms_leave_what_can_be_kept`
use Rattle.std.proofs.Common.{◌≡◌, ℕ, suc, ◌≤◌, List, [], ◌∷◌, ◌++◌, length, Bool, true, false, Option, Some, None, refl, sym, ap, ◌∙◌, subst, arith, ◌⊎◌, inl, inr}
use Rattle.std.specs.Prelude.{nat_eq, if◌then◌else◌}
use Rattle.std.proofs.Math.Nat.{le-max_left, le-max_right}
use Rattle.ps_base.proofs.Choices.{none_some, some_same}
use Rattle.byte_store.specs.declared.pointer.Base.TheVariants.{Fixed}
use Rattle.byte_store.specs.declared.pointer.Value.{Value}
use Rattle.byte_store.specs.declared.pointer.Value.TheVariants as value
use Rattle.byte_store.specs.Blocks.{Memory, Block, Bytes, Cells, Freed, find, replaced, next_number, with_block}
use Rattle.byte_store.specs.Operations as store
use Rattle.ps_types.specs.declared.types.RecordKind.{RecordKind}
use Rattle.ps_prims.proofs.FieldsAreFilled.{nat_eq_self, nat_eq_same}
use Rattle.ps_runs.specs.Runs.{Env}
use Rattle.ps_meaning.specs.Left.{IsText, HasCells, HasFields, IsLeftValue, IsLeftOption, IsLeftCell, AreLeftCells, IsLeftBlock, AreLeftBlocks, AreLeftGlobals}

-- ---- how a memory grows

-- what may become of a block: bytes stay, and cells stay as many
abbrev pub Stays : Block Value → Option (Block Value) → Type 0
Stays (Bytes bytes) o = o ≡ Some (Bytes bytes)
Stays (Cells cells) o = HasFields (length cells) o
Stays (Freed n) o = Unit {0}

pub record Grows (m m' : Memory Value) : Type 0 where
  pub stays : (n : ℕ) (b : Block Value) → find n m.fixed ≡ Some b → Stays b (find n m'.fixed)

stays_same : (b : Block Value) (o : Option (Block Value)) → o ≡ Some b → Stays b o
stays_same (Bytes bytes) o is = is
stays_same (Cells cells) o is = record { cells = cells; is = is; all = refl }
stays_same (Freed n) o is = tt

pub grows_self : (m : Memory Value) → Grows m m
grows_self m = record { stays = λ n b is. stays_same b (find n m.fixed) is }

pub grows_then : (m m' m'' : Memory Value) → Grows m m' → Grows m' m'' → Grows m m''
grows_then m m' m'' g h = record { stays = λ n b is. go n b (g.stays n b is) }
  where
    go : (n : ℕ) (b : Block Value) → Stays b (find n m'.fixed) → Stays b (find n m''.fixed)
    go n (Bytes bytes) s = h.stays n (Bytes bytes) s
    go n (Cells cells) s = let t : HasFields (length s.cells) (find n m''.fixed) = h.stays n (Cells s.cells) s.is in record { cells = t.cells; is = t.is; all = t.all ∙ s.all }
    go n (Freed k) s = tt

-- ---- what is left

module _ (kinds : List RecordKind) (m : Memory Value) where
  abbrev pub AreLeftValues : List Value → Type 0
  AreLeftValues [] = Unit {0}
  AreLeftValues (v ∷ vs) = IsLeftValue kinds m v × AreLeftValues vs

  abbrev pub AreLeftLocals : Env Value → Type 0
  AreLeftLocals [] = Unit {0}
  AreLeftLocals (e ∷ es) = IsLeftValue kinds m e.1 × AreLeftLocals es

  -- no block was made at run time, and the fixed ones are left
  pub record IsGood : Type 0 where
    pub none_made : m.made ≡ []
    pub fixed : AreLeftBlocks kinds m m.fixed

module _ (kinds : List RecordKind) (m m' : Memory Value) (g : Grows m m') where
  text_grows : (n : ℕ) → IsText (find n m.fixed) → IsText (find n m'.fixed)
  text_grows n h = record { bytes = h.bytes; is = g.stays n _ h.is }

  cells_grow : (n : ℕ) → HasCells (find n m.fixed) → HasCells (find n m'.fixed)
  cells_grow n h = let t : HasFields (length h.cells) (find n m'.fixed) = g.stays n (Cells h.cells) h.is in record { cells = t.cells; is = t.is }

  fields_grow : (k n : ℕ) → HasFields k (find n m.fixed) → HasFields k (find n m'.fixed)
  fields_grow k n h = let t : HasFields (length h.cells) (find n m'.fixed) = g.stays n (Cells h.cells) h.is in record { cells = t.cells; is = t.is; all = t.all ∙ h.all }

  pub value_grows : (v : Value) → IsLeftValue kinds m v → IsLeftValue kinds m' v
  value_grows (value.Integer i) h = tt
  value_grows (value.Boolean b) h = tt
  value_grows (value.Char c) h = tt
  value_grows value.Unit h = tt
  value_grows (value.Address p) h = h
  value_grows (value.Text p) h = record { number = h.number; is = h.is; block = text_grows h.number h.block }
  value_grows (value.Vector p) h = record { number = h.number; is = h.is; block = cells_grow h.number h.block }
  value_grows (value.Tuple k p) h = record { number = h.number; is = h.is; block = fields_grow _ h.number h.block }

  option_grows : (o : Option Value) → IsLeftOption kinds m o → IsLeftOption kinds m' o
  option_grows None h = tt
  option_grows (Some v) h = value_grows v h

  cell_grows : (o : Option Value) → IsLeftCell kinds m o → IsLeftCell kinds m' o
  cell_grows None h = h
  cell_grows (Some v) h = value_grows v h

  pub all_cells_grow : (cs : List (Option Value)) → AreLeftCells kinds m cs → AreLeftCells kinds m' cs
  all_cells_grow [] h = tt
  all_cells_grow (c ∷ cs) h = (cell_grows c h.0, all_cells_grow cs h.1)

  pub block_grows : (b : Block Value) → IsLeftBlock kinds m b → IsLeftBlock kinds m' b
  block_grows (Bytes bytes) h = h
  block_grows (Cells cells) h = all_cells_grow cells h
  block_grows (Freed n) h = h

  pub blocks_grow : (es : List (ℕ × Block Value)) → AreLeftBlocks kinds m es → AreLeftBlocks kinds m' es
  blocks_grow [] h = tt
  blocks_grow (e ∷ es) h = (block_grows e.1 h.0, blocks_grow es h.1)

  pub globals_grow : (gs : List (Option Value)) → AreLeftGlobals kinds m gs → AreLeftGlobals kinds m' gs
  globals_grow [] h = tt
  globals_grow (x ∷ xs) h = (option_grows x h.0, globals_grow xs h.1)

  pub values_grow : (vs : List Value) → AreLeftValues kinds m vs → AreLeftValues kinds m' vs
  values_grow [] h = tt
  values_grow (v ∷ vs) h = (value_grows v h.0, values_grow vs h.1)

  pub locals_grow : (es : Env Value) → AreLeftLocals kinds m es → AreLeftLocals kinds m' es
  locals_grow [] h = tt
  locals_grow (e ∷ es) h = (value_grows e.1 h.0, locals_grow es h.1)

-- a block that is found is left
pub found_left : (kinds : List RecordKind) (m : Memory Value) (n : ℕ) (es : List (ℕ × Block Value)) (b : Block Value) → AreLeftBlocks kinds m es → find n es ≡ Some b → IsLeftBlock kinds m b
found_left kinds m n [] b h is = none_some is
found_left kinds m n (e ∷ es) b h is = go (nat_eq n e.0) (λ at. found_left kinds m n es b h.1 at) is
  where
    go : (t : Bool) → (find n es ≡ Some b → IsLeftBlock kinds m b) → (if t then Some e.1 else find n es) ≡ Some b → IsLeftBlock kinds m b
    go true ih at = subst (IsLeftBlock kinds m) (some_same at) h.0
    go false ih at = ih at

-- ---- a block is added

module _ {A : Type 0} where
  found_before : (n : ℕ) (a : A) (es fs : List (ℕ × A)) → find n es ≡ Some a → find n (es ++ fs) ≡ Some a
  found_before n a [] fs is = none_some is
  found_before n a (e ∷ es) fs is = go (nat_eq n e.0) (found_before n a es fs) is
    where
      go : (t : Bool) → (find n es ≡ Some a → find n (es ++ fs) ≡ Some a) → (if t then Some e.1 else find n es) ≡ Some a → (if t then Some e.1 else find n (es ++ fs)) ≡ Some a
      go true ih h = h
      go false ih h = ih h

  found_last : (n : ℕ) (a : A) (es : List (ℕ × A)) → next_number es ≤ n → find n (es ++ (n, a) ∷ []) ≡ Some a
  found_last n a [] above = ap (λ (b : Bool). if b then Some a else None) (nat_eq_self n)
  found_last n a (e ∷ es) above = go (nat_eq n e.0) refl (found_last n a es (omega (arith, le-max_right (suc e.0) (next_number es), above)))
    where
      go : (b : Bool) → nat_eq n e.0 ≡ b → find n (es ++ (n, a) ∷ []) ≡ Some a → (if b then Some e.1 else find n (es ++ (n, a) ∷ [])) ≡ Some a
      go true is ih = absurd (omega (arith, nat_eq_same n e.0 is, le-max_left (suc e.0) (next_number es), above))
      go false is ih = ih

module _ (kinds : List RecordKind) (m : Memory Value) (b : Block Value) where
  abbrev pub with_next : Memory Value
  with_next = store.fixed m (next_number m.fixed) b

  pub next_found : find (next_number m.fixed) with_next.fixed ≡ Some b
  next_found = found_last (next_number m.fixed) b m.fixed (omega arith)

  pub next_grows : Grows m with_next
  next_grows = record { stays = λ n a is. stays_same a _ (found_before n a m.fixed ((next_number m.fixed, b) ∷ []) is) }

  all_with_last : (es : List (ℕ × Block Value)) (n : ℕ) → AreLeftBlocks kinds m es → IsLeftBlock kinds m b → AreLeftBlocks kinds m (es ++ (n, b) ∷ [])
  all_with_last [] n h left = (left, tt)
  all_with_last (e ∷ es) n h left = (h.0, all_with_last es n h.1 left)

  pub next_good : IsGood kinds m → IsLeftBlock kinds m b → IsGood kinds with_next
  next_good good left = record {
    none_made = good.none_made;
    fixed = blocks_grow kinds m with_next next_grows with_next.fixed (all_with_last m.fixed (next_number m.fixed) good.fixed left);
  }

-- ---- a block is changed

found_after : {A : Type 0} (n k : ℕ) (a : A) (es : List (ℕ × A)) → (find k (replaced n a es) ≡ find k es) ⊎ ((k ≡ n) × (find k (replaced n a es) ≡ Some a) × Unit {0})
found_after n k a [] = inl refl
found_after {A} n k a (e ∷ es) = go (nat_eq n e.0) refl (found_after n k a es)
  where
    After : List (ℕ × A) → List (ℕ × A) → Type 0
    After fs es = (find k fs ≡ find k es) ⊎ ((k ≡ n) × (find k fs ≡ Some a) × Unit {0})

    here : nat_eq n e.0 ≡ true → (u : Bool) → nat_eq k e.0 ≡ u → After ((e.0, a) ∷ es) (e ∷ es)
    here is true at = inr (nat_eq_same k e.0 at ∙ sym (nat_eq_same n e.0 is), ap (λ (t : Bool). if t then Some a else find k es) at, tt)
    here is false at = inl (ap (λ (t : Bool). if t then Some a else find k es) at ∙ sym (ap (λ (t : Bool). if t then Some e.1 else find k es) at))

    there : (u : Bool) → nat_eq k e.0 ≡ u → After (replaced n a es) es → After (e ∷ replaced n a es) (e ∷ es)
    there u at (inl same) = inl (ap (λ o. if nat_eq k e.0 then Some e.1 else o) same)
    there true at (inr is) = inl (ap (λ (t : Bool). if t then Some e.1 else find k (replaced n a es)) at ∙ sym (ap (λ (t : Bool). if t then Some e.1 else find k es) at))
    there false at (inr is) = inr (is.0, ap (λ (t : Bool). if t then Some e.1 else find k (replaced n a es)) at ∙ is.1, tt)

    go : (t : Bool) → nat_eq n e.0 ≡ t → After (replaced n a es) es → After (if t then (e.0, a) ∷ es else e ∷ replaced n a es) (e ∷ es)
    go true is ih = here is (nat_eq k e.0) refl
    go false is ih = there (nat_eq k e.0) refl ih

module _ (kinds : List RecordKind) (m : Memory Value) (n : ℕ) (cells cs : List (Option Value)) (found : find n m.fixed ≡ Some (Cells cells)) (long : length cs ≡ length cells) where
  abbrev pub with_cells : Memory Value
  with_cells = with_block m (Fixed n) (Cells cs)

  pub cells_grows : Grows m with_cells
  cells_grows = record { stays = λ k b is. go k b is (found_after n k (Cells cs) m.fixed) }
    where
      same_block : (b : Block Value) (o : Option (Block Value)) → Cells cells ≡ b → o ≡ Some (Cells cs) → Stays b o
      same_block b o at is = subst (λ b. Stays b o) at (record { cells = cs; is = is; all = long })

      go : (k : ℕ) (b : Block Value) → find k m.fixed ≡ Some b → (find k (replaced n (Cells cs) m.fixed) ≡ find k m.fixed) ⊎ ((k ≡ n) × (find k (replaced n (Cells cs) m.fixed) ≡ Some (Cells cs)) × Unit {0}) → Stays b (find k with_cells.fixed)
      go k b is (inl same) = stays_same b _ (same ∙ is)
      go k b is (inr at) = same_block b _ (some_same (sym found ∙ ap (λ j. find j m.fixed) (sym at.0) ∙ is)) at.1

  all_with : (es : List (ℕ × Block Value)) → AreLeftBlocks kinds m es → AreLeftCells kinds m cs → AreLeftBlocks kinds m (replaced n (Cells cs) es)
  all_with [] h left = tt
  all_with (e ∷ es) h left = go (nat_eq n e.0) (all_with es h.1 left)
    where
      go : (t : Bool) → AreLeftBlocks kinds m (replaced n (Cells cs) es) → AreLeftBlocks kinds m (if t then (e.0, Cells cs) ∷ es else e ∷ replaced n (Cells cs) es)
      go true ih = (left, h.1)
      go false ih = (h.0, ih)

  pub cells_good : IsGood kinds m → AreLeftCells kinds m cs → IsGood kinds with_cells
  cells_good good left = record {
    none_made = good.none_made;
    fixed = blocks_grow kinds m with_cells cells_grows with_cells.fixed (all_with m.fixed good.fixed left);
  }
