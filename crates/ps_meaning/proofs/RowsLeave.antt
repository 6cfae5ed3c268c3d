-- At compile time a primitive leaves a good memory and a left answer, where its operands are left.
-- For: `forms_leave_what_can_be_kept`
use Rattle.std.proofs.Common.{◌≡◌, ℕ, zero, suc, ◌+◌, ◌<◌, ℤ, pos, negsuc, List, [], ◌∷◌, ◌++◌, map, length, take, drop, Bool, true, false, Option, Some, None, Result, Ok, Err, refl, sym, ap, ◌∙◌, subst, arith, append_assoc}
use Rattle.std.specs.Prelude.{◌+ℤ◌, ◌-ℤ◌, ◌*ℤ◌, not, nat_eq, nat_lt, int_lt, int_div, int_rem, nat_le, replicate, slice_get, slice_set, if◌then◌else◌}
use Rattle.std.specs.Ordering.{int_eq}
use Rattle.std.specs.Int.{w64, int_bit_and, int_bit_or, int_bit_xor, int_bit_not, int_shl, int_shr}
use Rattle.std.proofs.lemmas.Bool.{leb-true}
use Rattle.std.proofs.lemmas.List.{take-append-drop, take-set, drop-set, length-set, length-replicate, length-map}
use Rattle.ps_base.proofs.Choices.{none_some, some_same, true_false, err_ok, ok_same}
use Rattle.ps_base.specs.declared.faults.Op.{Op}
use Rattle.ps_base.specs.declared.faults.Op.TheVariants as ops
use Rattle.ps_base.specs.declared.language.PrimName.{PrimName}
use Rattle.ps_base.specs.declared.language.PrimName.TheVariants as prims
use Rattle.byte_store.specs.declared.event.Event.{Event}
use Rattle.byte_store.specs.declared.event.Event.TheVariants as events
use Rattle.byte_store.specs.declared.pointer.Base.TheVariants.{Fixed, Made}
use Rattle.byte_store.specs.declared.pointer.Pointer.{Pointer}
use Rattle.byte_store.specs.declared.pointer.Pointer.TheVariants.{Null, At}
use Rattle.byte_store.specs.declared.pointer.Value.{Value}
use Rattle.byte_store.specs.declared.pointer.Value.TheVariants as value
use Rattle.byte_store.specs.Blocks.{Memory, Block, Bytes, Cells, Freed, overwritten, beside, find, next_number, with_block}
use Rattle.byte_store.specs.Operations as store
use Rattle.byte_store.specs.Operations.{and_then, inside, set, plus, is_size, change, look, cell_at, with_cell}
use Rattle.byte_store.specs.Words.{word_of}
use Rattle.ps_types.specs.declared.types.RecordKind.{RecordKind}
use Rattle.ps_prims.specs.declared.stages.Stage.TheVariants.{Compile}
use Rattle.ps_prims.specs.Once.{EachOnce}
use Rattle.ps_prims.specs.Kinds.{AreKinds}
use Rattle.ps_prims.specs.declared.sorts.Sort.{Sort}
use Rattle.ps_prims.specs.declared.sorts.Sort.TheVariants.{Integer, Boolean, Char, Unit as Unit', Address, Text, Vector, Record, Any}
use Rattle.ps_prims.specs.Sorts.{Meant, Taking, first_order, read, answered, applied, and_takes, collecting}
use Rattle.ps_prims.specs.Records.{fields, fields_of, maker_of, maker_order, sort_of_field, put_fields, filled, made}
use Rattle.ps_prims.specs.Rows.{unseen, equal_texts, fitting, dividing, modulo, shifting, logical_shr, char_of, is_zero, is_negative, is_same, Scene, Done, Act, Row, answers, gives, finds, changes, fixes, vector_of, appended, arithmetic, comparison, test, row, Performed, Answers, performed, at_scene, perform_row}
use Rattle.ps_prims.specs.Rows as rows
use Rattle.ps_prims.specs.InsideRecords.{scattered, record_seen}
use Rattle.ps_prims.proofs.FieldsAreFilled.{Below, below_each, fixed_filled, each_set, length_scattered}
use Rattle.ps_prims.proofs.ValuesAreCollected.{read_again}
use Rattle.ps_meaning.specs.Eval.{belongs}
use Rattle.ps_meaning.specs.Left.{IsLeftValue, IsLeftCell, AreLeftCells, IsLeftBlock}
use Rattle.ps_meaning.proofs.LeftAsMemoryGrows.{Grows, grows_self, AreLeftValues, IsGood, found_left, with_next, next_found, next_grows, next_good, cells_grows, cells_good}

-- ---- lists of values

module _ (kinds : List RecordKind) (m : Memory Value) where
  replicated_left : (n : ℕ) (v : Value) → IsLeftValue kinds m v → AreLeftCells kinds m (replicate n (Some v))
  replicated_left zero v h = tt
  replicated_left (suc n) v h = (h, replicated_left n v h)

  repeated_left : (n : ℕ) (v : Value) → IsLeftValue kinds m v → AreLeftValues kinds m (replicate n v)
  repeated_left zero v h = tt
  repeated_left (suc n) v h = (h, repeated_left n v h)

  set_left : (vs : List Value) (f : ℕ) (v : Value) → AreLeftValues kinds m vs → IsLeftValue kinds m v → AreLeftValues kinds m (slice_set vs f v)
  set_left [] f v h left = tt
  set_left (w ∷ vs) zero v h left = (left, h.1)
  set_left (w ∷ vs) (suc f) v h left = (h.0, set_left vs f v h.1 left)

  set_cell_left : (cs : List (Option Value)) (f : ℕ) (v : Value) → AreLeftCells kinds m cs → IsLeftValue kinds m v → AreLeftCells kinds m (slice_set cs f (Some v))
  set_cell_left [] f v h left = tt
  set_cell_left (c ∷ cs) zero v h left = (left, h.1)
  set_cell_left (c ∷ cs) (suc f) v h left = (h.0, set_cell_left cs f v h.1 left)

  scattered_left : (fs : List ℕ) (vs cs : List Value) → AreLeftValues kinds m vs → AreLeftValues kinds m cs → AreLeftValues kinds m (scattered fs vs cs)
  scattered_left [] vs cs h left = left
  scattered_left (f ∷ fs) [] cs h left = left
  scattered_left (f ∷ fs) (v ∷ vs) cs h left = scattered_left fs vs (slice_set cs f v) h.1 (set_left cs f v left h.0)

  some_left : (vs : List Value) → AreLeftValues kinds m vs → AreLeftCells kinds m (map Some vs)
  some_left [] h = tt
  some_left (v ∷ vs) h = (h.0, some_left vs h.1)

  member_left : (cs : List (Option Value)) (i : ℕ) (c : Option Value) → AreLeftCells kinds m cs → slice_get cs i ≡ Some c → IsLeftCell kinds m c
  member_left [] i c h is = none_some is
  member_left (d ∷ cs) zero c h is = subst (IsLeftCell kinds m) (some_same is) h.0
  member_left (d ∷ cs) (suc i) c h is = member_left cs i c h.1 is

set_is : {A : Type 0} (xs : List A) (k : ℕ) (y : A) → k < length xs → take k xs ++ (y ∷ drop (k + 1) xs) ≡ slice_set xs k y
set_is xs k y lt = sym (sym (take-append-drop k (slice_set xs k y)) ∙ ap (λ l. l ++ drop k (slice_set xs k y)) (take-set xs k y) ∙ ap (λ l. take k xs ++ l) (drop-set xs k y lt))

-- a member that is put over another
overwritten_is : {A : Type 0} (xs ys : List A) (k : ℕ) (y : A) → overwritten (y ∷ []) xs (pos k) ≡ Some ys → ys ≡ slice_set xs k y
overwritten_is {A} xs ys k y is = go (nat_le (k + length (y ∷ [])) (length xs)) refl is
  where
    go : (b : Bool) → nat_le (k + length (y ∷ [])) (length xs) ≡ b → (if b then Some (take k xs ++ (y ∷ []) ++ drop (k + length (y ∷ [])) xs) else None) ≡ Some ys → ys ≡ slice_set xs k y
    go true fits h = sym (some_same h) ∙ append_assoc (take k xs) (y ∷ []) (drop (k + 1) xs) ∙ set_is xs k y (omega (arith, leb-true (k + length (y ∷ [])) (length xs) fits))
    go false fits h = none_some h

-- ---- cells

module _ (kinds : List RecordKind) (m : Memory Value) (good : IsGood kinds m) where
  none_made : (n : ℕ) → slice_get m.made n ≡ None
  none_made n = ap (λ bs. slice_get bs n) good.none_made

  -- the value of a cell
  set_is_left : (c : Option Value) (v : Value) → IsLeftCell kinds m c → set c ≡ Ok v → IsLeftValue kinds m v
  set_is_left None v h is = err_ok is
  set_is_left (Some w) v h is = subst (IsLeftValue kinds m) (ok_same is) h

  in_cells : (cs : List (Option Value)) (i : ℕ) (v : Value) → AreLeftCells kinds m cs → and_then (inside (slice_get cs i)) (λ c. set c) ≡ Ok v → IsLeftValue kinds m v
  in_cells cs i v h is = go (slice_get cs i) refl is
    where
      go : (o : Option (Option Value)) → slice_get cs i ≡ o → and_then (inside o) (λ c. set c) ≡ Ok v → IsLeftValue kinds m v
      go None at is = err_ok is
      go (Some c) at is = set_is_left c v (member_left kinds m cs i c h at) is

  in_block : (b : Block Value) (offset : ℤ) (v : Value) → IsLeftBlock kinds m b → cell_at b offset ≡ Ok v → IsLeftValue kinds m v
  in_block (Bytes bytes) offset v h is = err_ok is
  in_block (Cells cells) (pos i) v h is = in_cells cells i v h is
  in_block (Cells cells) (negsuc i) v h is = err_ok is
  in_block (Freed n) offset v h is = err_ok is

  abbrev looked : Option (Block Value) → ℤ → Result Value Op
  looked o offset = and_then (inside (beside o offset)) (λ at. cell_at at.0 at.1)

  looked_left : (q : Pointer) (v : Value) → look m q cell_at ≡ Ok v → IsLeftValue kinds m v
  looked_left Null v is = err_ok is
  looked_left (At (Fixed n) offset) v is = go (find n m.fixed) refl is
    where
      go : (o : Option (Block Value)) → find n m.fixed ≡ o → looked o offset ≡ Ok v → IsLeftValue kinds m v
      go None at is = err_ok is
      go (Some b) at is = in_block b offset v (found_left kinds m n m.fixed b good.fixed at) is
  looked_left (At (Made n) offset) v is = err_ok (sym (ap (λ o. looked o offset) (none_made n)) ∙ is)

  -- a cell is changed
  abbrev Changed : Result (Memory Value) Op → Type 0
  Changed (Ok m') = IsGood kinds m' × Grows m m'
  Changed (Err op) = Unit {0}

  change_left : (q : Pointer) (v : Value) → IsLeftValue kinds m v → Changed (change m q (with_cell v))
  change_left Null v left = tt
  change_left (At (Made n) offset) v left = subst (λ o. Changed (and_then (inside o) (λ b. and_then (with_cell v b offset) (λ c. Ok (with_block m (Made n) c))))) (sym (none_made n)) tt
  change_left (At (Fixed n) offset) v left = go (find n m.fixed) refl
    where
      after : Option (Block Value) → Result (Memory Value) Op
      after o = and_then (inside o) (λ b. and_then (with_cell v b offset) (λ c. Ok (with_block m (Fixed n) c)))

      over : Option (List (Option Value)) → Result (Memory Value) Op
      over o = and_then (and_then (inside o) (λ cs. Ok (Cells cs))) (λ c. Ok (with_block m (Fixed n) c))

      replaced_cells : (cells cs : List (Option Value)) (k : ℕ) → find n m.fixed ≡ Some (Cells cells) → cs ≡ slice_set cells k (Some v) → Changed (Ok (with_block m (Fixed n) (Cells cs)))
      replaced_cells cells cs k at is =
          let long : length cs ≡ length cells = ap length is ∙ length-set cells k (Some v) in
          let all : AreLeftCells kinds m cs = subst (AreLeftCells kinds m) (sym is) (set_cell_left kinds m cells k v (found_left kinds m n m.fixed (Cells cells) good.fixed at) left) in
          (cells_good kinds m n cells cs at long good all, cells_grows kinds m n cells cs at long)

      in_place : (cells : List (Option Value)) (k : ℕ) → find n m.fixed ≡ Some (Cells cells) → (o : Option (List (Option Value))) → overwritten (Some v ∷ []) cells (pos k) ≡ o → Changed (over o)
      in_place cells k at None is = tt
      in_place cells k at (Some cs) is = replaced_cells cells cs k at (overwritten_is cells cs k (Some v) is)

      in_cells_at : (cells : List (Option Value)) (i : ℤ) → find n m.fixed ≡ Some (Cells cells) → Changed (over (overwritten (Some v ∷ []) cells i))
      in_cells_at cells (pos k) at = in_place cells k at (overwritten (Some v ∷ []) cells (pos k)) refl
      in_cells_at cells (negsuc k) at = tt

      go : (o : Option (Block Value)) → find n m.fixed ≡ o → Changed (after o)
      go None at = tt
      go (Some (Bytes bytes)) at = tt
      go (Some (Cells cells)) at = in_cells_at cells offset at
      go (Some (Freed k)) at = tt

-- ---- what is done

module _ (kinds : List RecordKind) (m : Memory Value) where
  -- a good memory that grew, and a value that is left in it
  pub record After (m' : Memory Value) (v : Value) : Type 0 where
    pub good : IsGood kinds m'
    pub grows : Grows m m'
    pub left : IsLeftValue kinds m' v

  abbrev pub Leaves : (s : Sort) → Result (Done Value (Meant Value s)) Op → Type 0
  Leaves s (Ok d) = After d.memory (answered first_order s d.answer)
  Leaves s (Err op) = Unit {0}

  abbrev pub PerformedLeft : Performed Value → Type 0
  PerformedLeft (Answers d) = After d.memory d.answer
  PerformedLeft (rows.Undefined op) = Unit {0}
  PerformedLeft rows.Wrong = Unit {0}

module _ (kinds : List RecordKind) (m : Memory Value) {R : Type 0} (P : R → Type 0) where
  -- of left operands comes what has a property
  abbrev pub Takes : (ss : List Sort) → Taking Value ss R → Type 0
  Takes [] r = P r
  Takes (s ∷ ss) f = (x : Meant Value s) → IsLeftValue kinds m (answered first_order s x) → Takes ss (f x)

  abbrev pub Given : Option R → Type 0
  Given None = Unit {0}
  Given (Some r) = P r

  applied_left : (ss : List Sort) (f : Taking Value ss R) (vs : List Value) → Takes ss f → AreLeftValues kinds m vs → Given (applied first_order ss f vs)
  applied_left [] f [] h left = h
  applied_left [] f (v ∷ vs) h left = tt
  applied_left (s ∷ ss) f [] h left = tt
  applied_left (s ∷ ss) f (v ∷ vs) h left = go (read first_order s v) refl (λ x given. applied_left ss (f x) vs given left.1)
    where
      go : (o : Option (Meant Value s)) → read first_order s v ≡ o → ((x : Meant Value s) → Takes ss (f x) → Given (applied first_order ss (f x) vs)) → Given (and_takes first_order o (λ x. applied first_order ss (f x) vs))
      go None is ih = tt
      go (Some x) is ih = ih x (h x (subst (IsLeftValue kinds m) (sym (read_again s v x is)) left.0))

  collecting_left : (ss : List Sort) (f : List Value → R) → ((vs : List Value) → AreLeftValues kinds m vs → length vs ≡ length ss → P (f vs)) → Takes ss (collecting first_order ss f)
  collecting_left [] f h = h [] tt refl
  collecting_left (s ∷ ss) f h = λ x left. collecting_left ss (λ vs. f (answered first_order s x ∷ vs)) (λ vs all long. h (answered first_order s x ∷ vs) (left, all) (ap suc long))

-- the maker of a kind names each of its fields once
each_once : (kinds : List RecordKind) (k : ℕ) → AreKinds kinds → EachOnce (length (fields kinds k)) (maker_order kinds k)
each_once kinds k are = go (slice_get kinds k) refl
  where
    go : (o : Option RecordKind) → slice_get kinds k ≡ o → EachOnce (length (fields_of o)) (maker_of o)
    go None e = record { once = λ x lt. absurd (omega (arith, lt)); others = λ x le. refl }
    go (Some kind) e = (are.each k kind e).maker

module _ (kinds : List RecordKind) (s : Scene Value) (good : IsGood kinds s.memory) where
  abbrev pub ActLeft : (t : Sort) → Act Value (Meant Value t) → Type 0
  ActLeft t act = Leaves kinds s.memory t (act Compile s)

  abbrev pub RowLeft : Row Value → Type 0
  RowLeft r = Takes kinds s.memory (ActLeft r.answer) r.operands r.does

  pub row_performed : (r : Row Value) → RowLeft r → (vs : List Value) → AreLeftValues kinds s.memory vs → PerformedLeft kinds s.memory (perform_row first_order r vs Compile s)
  row_performed r h vs left = go (applied first_order r.operands r.does vs) (applied_left kinds s.memory (ActLeft r.answer) r.operands r.does vs h left)
    where
      done : (d : Result (Done Value (Meant Value r.answer)) Op) → Leaves kinds s.memory r.answer d → PerformedLeft kinds s.memory (performed (answered first_order r.answer) Compile (Some d))
      done (Err op) g = tt
      done (Ok d) g = record { good = g.good; grows = g.grows; left = g.left }

      go : (o : Option (Act Value (Meant Value r.answer))) → Given kinds s.memory (ActLeft r.answer) o → PerformedLeft kinds s.memory (performed (answered first_order r.answer) Compile (at_scene Compile s o))
      go None g = tt
      go (Some act) g = done (act Compile s) g

  -- ---- the memory stays

  unchanged : (v : Value) → IsLeftValue kinds s.memory v → After kinds s.memory s.memory v
  unchanged v left = record { good = good; grows = grows_self s.memory; left = left }

  gives_left : (t : Sort) (x : Meant Value t) → IsLeftValue kinds s.memory (answered first_order t x) → ActLeft t (gives x)
  gives_left t x left = unchanged (answered first_order t x) left

  answers_left : (t : Sort) (r : Result (Meant Value t) Op) → ((x : Meant Value t) → IsLeftValue kinds s.memory (answered first_order t x)) → ActLeft t (answers r)
  answers_left t (Ok x) left = unchanged (answered first_order t x) (left x)
  answers_left t (Err op) left = tt

  finds_left : (t : Sort) (look : Memory Value → Result (Meant Value t) Op) (told : Meant Value t → List Event) → ((x : Meant Value t) → look s.memory ≡ Ok x → IsLeftValue kinds s.memory (answered first_order t x)) → ActLeft t (finds look told)
  finds_left t look told left = go (look s.memory) refl
    where
      go : (r : Result (Meant Value t) Op) → look s.memory ≡ r → Leaves kinds s.memory t (and_then r (λ x. Ok (record { answer = x; memory = s.memory; world = s.world; events = told x })))
      go (Ok x) is = unchanged (answered first_order t x) (left x is)
      go (Err op) is = tt

  arithmetic_left : (f : ℤ → ℤ → Result ℤ Op) → RowLeft (arithmetic first_order f)
  arithmetic_left f = λ i a j b. answers_left Integer (f i j) (λ x. tt)

  comparison_left : (f : ℤ → ℤ → Bool) → RowLeft (comparison first_order f)
  comparison_left f = λ i a j b. gives_left Boolean (f i j) tt

  test_left : (f : ℤ → Bool) → RowLeft (test first_order f)
  test_left f = λ i a. gives_left Boolean (f i) tt

  -- ---- cells

  get_left : (p : Pointer) (i : ℤ) (told : Value → List Event) → ActLeft Any (finds (λ m. store.get m p i) told)
  get_left p i told = finds_left Any (λ m. store.get m p i) told (λ x is. looked_left kinds s.memory good (plus p i) x is)

  put_left : (p : Pointer) (i : ℤ) (v : Value) (event : Event) → IsLeftValue kinds s.memory v → ActLeft Unit' (changes (λ m. store.put m p i v) event)
  put_left p i v event left = go (store.put s.memory p i v) (change_left kinds s.memory good (plus p i) v left)
    where
      go : (r : Result (Memory Value) Op) → Changed kinds s.memory good r → Leaves kinds s.memory Unit' (and_then r (λ m. Ok (record { answer = tt; memory = m; world = s.world; events = event ∷ [] })))
      go (Ok m) h = record { good = h.0; grows = h.1; left = tt }
      go (Err op) h = tt

  -- ---- new blocks

  abbrev next : Block Value → Memory Value
  next b = with_next kinds s.memory b

  abbrev start : Pointer
  start = At (Fixed (next_number s.memory.fixed)) (pos 0)

  added : (b : Block Value) (v : Value) → IsLeftBlock kinds s.memory b → IsLeftValue kinds (next b) v → After kinds s.memory (next b) v
  added b v block left = record { good = next_good kinds s.memory b good block; grows = next_grows kinds s.memory b; left = left }

  vector_left : (i : ℤ) (v : Value) → IsLeftValue kinds s.memory v → ActLeft Vector (vector_of word_of i v)
  vector_left (negsuc n) v left = tt
  vector_left (pos n) v left = go (is_size n)
    where
      go : (b : Bool) → Leaves kinds s.memory Vector (if b then fixes (Cells (replicate n (Some v))) Compile s else Err ops.Size)
      go true = added (Cells (replicate n (Some v))) (value.Vector start) (replicated_left kinds s.memory n v left) (record {
        number = next_number s.memory.fixed;
        is = refl;
        block = record { cells = replicate n (Some v); is = next_found kinds s.memory (Cells (replicate n (Some v))) };
      })
      go false = tt

  appended_left : (p q : Pointer) → ActLeft Text (appended p q)
  appended_left p q = go (store.text s.memory p) (store.text s.memory q)
    where
      both : (a b : List ℕ) → Leaves kinds s.memory Text (fixes (Bytes (map Some (a ++ b ++ 0 ∷ []))) Compile s)
      both a b = added (Bytes (map Some (a ++ b ++ 0 ∷ []))) (value.Text start) (record { bytes = a ++ b; is = refl }) (record {
        number = next_number s.memory.fixed;
        is = refl;
        block = record { bytes = a ++ b; is = next_found kinds s.memory (Bytes (map Some (a ++ b ++ 0 ∷ []))) };
      })

      go : (r t : Result (List ℕ) Op) → Leaves kinds s.memory Text (and_then r (λ a. and_then t (λ b. fixes (Bytes (map Some (a ++ b ++ 0 ∷ []))) Compile s)))
      go (Err op) t = tt
      go (Ok a) (Err op) = tt
      go (Ok a) (Ok b) = both a b

  module _ (k : ℕ) (fs : List ℕ) (vs : List Value) (once : EachOnce (length (fields kinds k)) fs) (long : length vs ≡ length fs) (left : AreLeftValues kinds s.memory vs) where
    abbrev size : ℕ
    size = length (fields kinds k)

    abbrev cells : List Value
    cells = scattered fs vs (replicate size value.Unit)

    abbrev does : Result (Memory Value) Op → Result (Done Value Pointer) Op
    does r = and_then r (λ m. Ok (record { answer = start; memory = m; world = s.world; events = record_seen first_order (Fixed (next_number s.memory.fixed)) size fs vs }))

    abbrev block : Block Value
    block = Cells (map Some cells)

    put_all : put_fields (next (Cells (replicate size None))) start fs vs ≡ Ok (next block)
    put_all =
        fixed_filled s.memory fs vs (replicate size None) (subst (λ n. Below n fs) (sym (length-replicate size None)) (below_each size fs once))
        ∙ ap (λ cs. Ok (next (Cells cs))) (sym (each_set size fs vs value.Unit once long))

    block_left : AreLeftCells kinds s.memory (map Some cells)
    block_left = some_left kinds s.memory cells (scattered_left kinds s.memory fs vs (replicate size value.Unit) left (repeated_left kinds s.memory size value.Unit tt))

    all_fields : length (map Some cells) ≡ size
    all_fields = length-map cells Some ∙ length_scattered fs vs (replicate size value.Unit) ∙ length-replicate size value.Unit

    record_added : After kinds s.memory (next block) (value.Tuple k start)
    record_added = added block (value.Tuple k start) block_left (record {
      number = next_number s.memory.fixed;
      is = refl;
      block = record { cells = map Some cells; is = next_found kinds s.memory block; all = all_fields };
    })

    made_left : ActLeft (Record k) (made first_order size fs vs)
    made_left = go (is_size size)
      where
        go : (b : Bool) → Leaves kinds s.memory (Record k) (if b then filled first_order size fs vs (next (Cells (replicate size None))) s.world start else Err ops.Size)
        go true = subst (λ r. Leaves kinds s.memory (Record k) (does r)) (sym put_all) record_added
        go false = tt

  -- ---- the table

  pub row_left : AreKinds kinds → (p : PrimName) → belongs (row first_order kinds p).stages Compile ≡ true → RowLeft (row first_order kinds p)
  row_left are prims.Add h = arithmetic_left (λ i j. fitting ops.Overflow (i +ℤ j))
  row_left are prims.Subtract h = arithmetic_left (λ i j. fitting ops.Overflow (i -ℤ j))
  row_left are prims.Multiply h = arithmetic_left (λ i j. fitting ops.Overflow (i *ℤ j))
  row_left are prims.Quotient h = arithmetic_left (dividing int_div)
  row_left are prims.Remainder h = arithmetic_left (dividing int_rem)
  row_left are prims.Modulo h = arithmetic_left (dividing modulo)
  row_left are prims.Equal h = comparison_left int_eq
  row_left are prims.Less h = comparison_left int_lt
  row_left are prims.Greater h = comparison_left (λ i j. int_lt j i)
  row_left are prims.LessOrEqual h = comparison_left (λ i j. not (int_lt j i))
  row_left are prims.GreaterOrEqual h = comparison_left (λ i j. not (int_lt i j))
  row_left are prims.IsZero h = test_left is_zero
  row_left are prims.IsPositive h = test_left (λ i. int_lt (pos 0) i)
  row_left are prims.IsNegative h = test_left is_negative
  row_left are prims.BitwiseAnd h = arithmetic_left (λ i j. Ok (int_bit_and w64 i j))
  row_left are prims.BitwiseOr h = arithmetic_left (λ i j. Ok (int_bit_or w64 i j))
  row_left are prims.BitwiseXor h = arithmetic_left (λ i j. Ok (int_bit_xor w64 i j))
  row_left are prims.BitwiseNot h = λ i a. gives_left Integer (int_bit_not w64 i) tt
  row_left are prims.ShiftLeft h = arithmetic_left (shifting (λ i k. int_shl w64 i k))
  row_left are prims.ArithmeticShiftRight h = arithmetic_left (shifting int_shr)
  row_left are prims.LogicalShiftRight h = arithmetic_left (shifting logical_shr)
  row_left are prims.Not h = λ b a. gives_left Boolean (not b) tt
  row_left are prims.BooleanEqual h = λ b a c d. gives_left Boolean (is_same b c) tt
  row_left are prims.CharEqual h = λ b a c d. gives_left Boolean (nat_eq b c) tt
  row_left are prims.CharLess h = λ b a c d. gives_left Boolean (nat_lt b c) tt
  row_left are prims.CharToAscii h = λ c a. gives_left Integer (pos c) tt
  row_left are prims.AsciiToChar h = λ i a. answers_left Char (char_of i) (λ x. tt)
  row_left are prims.Unspecific h = gives_left Unit' tt tt
  row_left are prims.StringLength h = λ p a. finds_left Integer (λ m. store.text_length m p) (λ n. events.Length p n ∷ []) (λ x is. tt)
  row_left are prims.StringRef h = λ p a k b. finds_left Char (λ m. and_then (store.text_at m p k) char_of) (λ c. events.Load (plus p k) (pos c) ∷ []) (λ x is. tt)
  row_left are prims.MakeVector h = λ n a x b. vector_left n x b
  row_left are prims.VectorRef h = λ p a k b. get_left p k (λ x. events.Get (plus p k) (word_of x) ∷ [])
  row_left are prims.VectorSet h = λ p a k b x c. put_left p k x (events.Put (plus p k) (word_of x)) c
  row_left are prims.IsNullVector h = λ p a. finds_left Boolean (λ m. store.is_null m p) unseen (λ x is. tt)
  row_left are prims.DeallocateVector h = true_false (sym h)
  row_left are prims.ReadByte h = true_false (sym h)
  row_left are prims.WriteByte h = true_false (sym h)
  row_left are prims.NullAddress h = gives_left Address Null refl
  row_left are prims.IsNullAddress h = λ p a. finds_left Boolean (λ m. store.is_null m p) unseen (λ x is. tt)
  row_left are prims.AllocateMemory h = true_false (sym h)
  row_left are prims.DeallocateMemory h = true_false (sym h)
  row_left are prims.UnsignedByteRef h = true_false (sym h)
  row_left are prims.UnsignedByteSet h = true_false (sym h)
  row_left are prims.WordRef h = true_false (sym h)
  row_left are prims.WordSet h = true_false (sym h)
  row_left are prims.AddressAdd h = true_false (sym h)
  row_left are prims.AddressDifference h = true_false (sym h)
  row_left are prims.AddressEqual h = true_false (sym h)
  row_left are prims.AddressLess h = true_false (sym h)
  row_left are prims.StringAppend h = λ p a q b. appended_left p q
  row_left are prims.StringEqual h = λ p a q b. finds_left Boolean (λ m. equal_texts m p q) unseen (λ x is. tt)
  row_left are prims.VectorLength h = λ p a. finds_left Integer (λ m. store.cell_count m p) unseen (λ x is. tt)
  row_left are (prims.Maker k) h =
      let fs : List ℕ = maker_order kinds k in
      collecting_left kinds s.memory (ActLeft (Record k)) (map (sort_of_field (fields kinds k)) fs) (made first_order (length (fields kinds k)) fs) (λ vs left long. made_left k fs vs (each_once kinds k are) (long ∙ length-map fs (sort_of_field (fields kinds k))) left)
  row_left are (prims.Predicate k) h = λ p a. finds_left Boolean (λ m. and_then (store.is_null m p) (λ b. Ok (not b))) unseen (λ x is. tt)
  row_left are (prims.Accessor k f) h = λ p a. get_left p (pos f) (λ x. events.Get (plus p (pos f)) (word_of x) ∷ [])
  row_left are (prims.Modifier k f) h = λ p a x b. put_left p (pos f) (answered first_order (sort_of_field (fields kinds k) f) x) (events.Put (plus p (pos f)) (word_of (answered first_order (sort_of_field (fields kinds k) f) x))) b
