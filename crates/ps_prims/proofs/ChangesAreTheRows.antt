-- What changes the memory does what its row says.
-- For: the functions of changes.rt
use Rattle.std.proofs.Common.{◌≡◌, ℤ, pos, negsuc, ◌+◌, ◌<◌, List, [], ◌∷◌, ◌++◌, take, drop, length, Bool, true, false, Option, Some, None, Result, Ok, Err, refl, sym, ap, ◌∙◌, arith}
use Rattle.std.specs.Prelude.{nat_le, if◌then◌else◌, ◌+ℤ◌}
use Rattle.std.proofs.lemmas.Bool.{leb-true, leb-false}
use Rattle.ps_base.specs.declared.faults.Op.{Op}
use Rattle.ps_base.specs.declared.faults.Op.TheVariants as ops
use Rattle.ps_base.specs.declared.language.PrimName.TheVariants as prims
use Rattle.byte_store.specs.declared.event.Event.{Event}
use Rattle.byte_store.specs.declared.event.Event.TheVariants as events
use Rattle.byte_store.specs.declared.pointer.Value.{Value}
use Rattle.byte_store.specs.declared.pointer.Value.TheVariants as value
use Rattle.byte_store.specs.declared.pointer.Pointer.{Pointer}
use Rattle.byte_store.specs.declared.pointer.Pointer.TheVariants.{Null, At}
use Rattle.byte_store.specs.Blocks.{Block, Bytes, Cells, Freed, Memory, rest, overwritten, block_of, with_block, beside}
use Rattle.byte_store.specs.Operations as store
use Rattle.byte_store.specs.Operations.{and_then, inside, change, with_cell, place_at, plus, moved, put}
use Rattle.byte_store.specs.Words.{word_of}
use Rattle.ps_prims.specs.declared.outcome.PrimOut.{PrimOut}
use Rattle.ps_prims.specs.declared.outcome.PrimOut.TheVariants as out
use Rattle.ps_prims.specs.declared.stages.Stage.{Stage}
use Rattle.ps_prims.specs.declared.stages.Stages.{Stages}
use Rattle.ps_prims.specs.Sorts.{Sort, Unit', Taking, answered, applied, first_order, fits}
use Rattle.ps_prims.specs.Rows.{Row, Scene, Act, Performed, Answers, row, changes, perform_row, performed, at_scene, seen_at}
use Rattle.byte_store.specs.Worlds.{Surroundings}
use Rattle.ps_prims.specs.Needs.{Events, Takes, Wanting}
use Rattle.ps_prims.specs.Performing.{Comes, State}
use Rattle.ps_prims.specs.InsidePerforming.{Changes}
use Rattle.ps_prims.specs.Inside.{Changed}
use Rattle.ps_prims.proofs.OtherNumbersFitNoRow.{applied_none}

abbrev row_of : (ss : List Sort) → Stages → Taking Value ss (Act Value (Unit {0})) → Row Value
row_of ss st does = record { operands = ss; answer = Unit'; stages = st; does = does }

pub changes_wrong : (r : Row Value) (vs : List Value) (m : Memory Value) (stage : Stage) (old : List Event) → fits first_order r.operands vs ≡ false → Changes out.Wrong stage m m old old (perform_row first_order r vs)
changes_wrong r vs m stage old other = (tt, λ w. (ap (λ f. performed (answered first_order r.answer) stage (at_scene stage (record { memory = m; world = w }) f)) (applied_none first_order r.operands r.does vs other), refl))

-- memory is wanting for events alone
wanting : (o : PrimOut) (a : Result (Memory Value) Op) (event : Event) (stage : Stage) (m n : Memory Value) (old new : List Event) → Changed o a event stage m n old new → Wanting o (Takes Events stage)
wanting (out.Value v) a event stage m n old new h = tt
wanting (out.Undefined op) a event stage m n old new h = tt
wanting out.Wrong a event stage m n old new h = tt
wanting out.NoMemory a event stage m n old new h = h.0

module _ (ss : List Sort) (st : Stages) (does : Taking Value ss (Act Value (Unit {0}))) (vs args : List Value) (m n : Memory Value) (stage : Stage) (old new : List Event) where
  changes_in : (w : Surroundings) (f : Memory Value → Result (Memory Value) Op) (event : Event) (o : PrimOut) →
      vs ≡ args → applied first_order ss does args ≡ Some (changes f event) → Changed o (f m) event stage m n old new →
      Comes o (record { memory = m; world = w; events = old }) (record { memory = n; world = w; events = new }) (perform_row first_order (row_of ss st does) vs stage (record { memory = m; world = w }))
  changes_in w f event o is at found = go o found
    where
      scene : Scene Value
      scene = record { memory = m; world = w }

      act : Performed Value
      act = perform_row first_order (row_of ss st does) vs stage scene

      here : act ≡ performed (answered first_order Unit') stage (Some (changes f event stage scene))
      here = ap (λ g. performed (answered first_order Unit') stage (at_scene stage scene g)) (ap (applied first_order ss does) is ∙ at)

      goes_on : (a : Result (Memory Value) Op) → f m ≡ a → act ≡ performed (answered first_order Unit') stage (Some (and_then a (λ x. Ok (record { answer = tt; memory = x; world = w; events = event ∷ [] }))))
      goes_on a e = here ∙ ap (λ b. performed (answered first_order Unit') stage (Some (and_then b (λ x. Ok (record { answer = tt; memory = x; world = w; events = event ∷ [] }))))) e

      same : n ≡ m → new ≡ old → ◌≡◌ {A = State} (record { memory = n; world = w; events = new }) (record { memory = m; world = w; events = old })
      same a b = ap (λ x. record { memory = x; world = w; events = new }) a ∙ ap (λ (es : List Event). record { memory = m; world = w; events = es }) b

      go : (o : PrimOut) → Changed o (f m) event stage m n old new → Comes o (record { memory = m; world = w; events = old }) (record { memory = n; world = w; events = new }) act
      go (out.Value v) h = (seen_at stage (event ∷ []), goes_on (Ok n) h.1 ∙ ap (λ u. Answers (record { answer = u; memory = n; world = w; events = seen_at stage (event ∷ []) })) (sym h.0), h.2)
      go (out.Undefined op) h = (goes_on (Err op) h.0, same h.1 h.2)
      go out.Wrong h = absurd h
      go out.NoMemory h = same h.1 h.2

  pub changes_of : (f : Memory Value → Result (Memory Value) Op) (event : Event) (o : PrimOut) →
      vs ≡ args → applied first_order ss does args ≡ Some (changes f event) → Changed o (f m) event stage m n old new → Changes o stage m n old new (perform_row first_order (row_of ss st does) vs)
  changes_of f event o is at found = (wanting o (f m) event stage m n old new found, λ w. changes_in w f event o is at found)

module _ (vs : List Value) (m n : Memory Value) (stage : Stage) (old new : List Event) (o : PrimOut) where
  pub vector_set_changes : (p : Pointer) (k : ℤ) (x : Value) → vs ≡ value.Vector p ∷ value.Integer k ∷ x ∷ [] →
      Changed o (put m p k x) (events.Put (plus p k) (word_of x)) stage m n old new → Changes o stage m n old new (perform_row first_order (row first_order [] prims.VectorSet) vs)
  vector_set_changes p k x is h = changes_of (row first_order [] prims.VectorSet).operands (row first_order [] prims.VectorSet).stages (row first_order [] prims.VectorSet).does vs (value.Vector p ∷ value.Integer k ∷ x ∷ []) m n stage old new (λ m. put m p k x) (events.Put (plus p k) (word_of x)) o is refl h

  pub free_vector_changes : (p : Pointer) → vs ≡ value.Vector p ∷ [] → Changed o (store.release m p) (events.Free p) stage m n old new → Changes o stage m n old new (perform_row first_order (row first_order [] prims.DeallocateVector) vs)
  free_vector_changes p is h = changes_of (row first_order [] prims.DeallocateVector).operands (row first_order [] prims.DeallocateVector).stages (row first_order [] prims.DeallocateVector).does vs (value.Vector p ∷ []) m n stage old new (λ m. store.release m p) (events.Free p) o is refl h

  pub free_memory_changes : (p : Pointer) → vs ≡ value.Address p ∷ [] → Changed o (store.release m p) (events.Free p) stage m n old new → Changes o stage m n old new (perform_row first_order (row first_order [] prims.DeallocateMemory) vs)
  free_memory_changes p is h = changes_of (row first_order [] prims.DeallocateMemory).operands (row first_order [] prims.DeallocateMemory).stages (row first_order [] prims.DeallocateMemory).does vs (value.Address p ∷ []) m n stage old new (λ m. store.release m p) (events.Free p) o is refl h

  pub byte_set_changes : (p : Pointer) (i : ℤ) → vs ≡ value.Address p ∷ value.Integer i ∷ [] → Changed o (store.set_byte m p i) (events.Keep p i) stage m n old new → Changes o stage m n old new (perform_row first_order (row first_order [] prims.UnsignedByteSet) vs)
  byte_set_changes p i is h = changes_of (row first_order [] prims.UnsignedByteSet).operands (row first_order [] prims.UnsignedByteSet).stages (row first_order [] prims.UnsignedByteSet).does vs (value.Address p ∷ value.Integer i ∷ []) m n stage old new (λ m. store.set_byte m p i) (events.Keep p i) o is refl h

  pub word_set_changes : (p : Pointer) (i : ℤ) → vs ≡ value.Address p ∷ value.Integer i ∷ [] → Changed o (store.set_word m p i) (events.KeepWord p i) stage m n old new → Changes o stage m n old new (perform_row first_order (row first_order [] prims.WordSet) vs)
  word_set_changes p i is h = changes_of (row first_order [] prims.WordSet).operands (row first_order [] prims.WordSet).stages (row first_order [] prims.WordSet).does vs (value.Address p ∷ value.Integer i ∷ []) m n stage old new (λ m. store.set_word m p i) (events.KeepWord p i) o is refl h

-- ---- what may not be moved to may not be put to

abbrev IsSameErr : Type 0 → Op → Op → Type 0
IsSameErr A a b = ◌≡◌ {A = Result A Op} (Err a) (Err b)

err_same : {A : Type 0} {a b : Op} → IsSameErr A a b → a ≡ b
err_same {A} {a} {b} e = let same : IsSameErr A a b = e in cc

abbrev IsOkErr : {A : Type 0} → A → Op → Type 0
IsOkErr {A} a op = ◌≡◌ {A = Result A Op} (Ok a) (Err op)

ok_err : {A B : Type 0} {a : A} {op : Op} → IsOkErr a op → B
ok_err {A} {B} {a} {op} e = absurd (let clash : IsOkErr a op = e in cc)

rest_none : {A : Type 0} (xs : List A) (at : ℤ) (op : Op) → and_then (inside (rest xs at)) (λ ys. Ok at) ≡ Err op → (rest xs at ≡ None) × (op ≡ ops.Bounds)
rest_none {A} xs at op is = go (rest xs at) refl is
  where
    go : (r : Option (List A)) → rest xs at ≡ r → and_then (inside r) (λ ys. Ok at) ≡ Err op → (rest xs at ≡ None) × (op ≡ ops.Bounds)
    go None e h = (e, sym (err_same h))
    go (Some ys) e h = ok_err h

module _ {C : Type 0} where
  none_over : (xs : List (Option C)) (x : C) (at : ℤ) → rest xs at ≡ None → overwritten (Some x ∷ []) xs at ≡ None
  none_over xs x (pos k) is = go (nat_le k (length xs)) refl is
    where
      after : Option (List (Option C))
      after = Some (take k xs ++ (Some x ∷ []) ++ drop (k + length (Some x ∷ [])) xs)

      past : (b : Bool) → nat_le (k + length (Some x ∷ [])) (length xs) ≡ b → length xs < k → (if b then after else None) ≡ None
      past true e far = absurd (omega (arith, leb-true _ _ e, far))
      past false e far = refl

      go : (b : Bool) → nat_le k (length xs) ≡ b → (if b then Some (drop k xs) else None) ≡ None → overwritten (Some x ∷ []) xs (pos k) ≡ None
      go true e h = absurd (let clash : Some (drop k xs) ≡ None = h in cc)
      go false e h = past (nat_le (k + length (Some x ∷ [])) (length xs)) refl (leb-false _ _ e)
  none_over xs x (negsuc k) is = refl

  no_place_no_cell : (b : Block C) (at : ℤ) (x : C) (op : Op) → place_at b at ≡ Err op → with_cell x b at ≡ Err op
  no_place_no_cell (Bytes bytes) at x op is = ap Err (sym (rest_none bytes at op is).1)
  no_place_no_cell (Cells cells) at x op is = let r = rest_none cells at op is in ap (λ o. and_then (inside o) (λ cs. Ok (Cells cs))) (none_over cells x at r.0) ∙ ap Err (sym r.1)
  no_place_no_cell (Freed n) at x op is = ap Err (err_same is)

  pub put_is_further : (m : Memory C) (p : Pointer) (k : ℤ) (x : C) (op : Op) → moved m p k ≡ Err op → put m p k x ≡ Err op
  put_is_further m Null k x op is = ap Err (err_same is)
  put_is_further m (At base offset) k x op is = go (block_of m base) is
    where
      at : ℤ
      at = offset +ℤ k

      goes_on : Option (Block C) → Result (Memory C) Op
      goes_on found = and_then (inside found) (λ b. and_then (with_cell x b at) (λ c. Ok (with_block m base c)))

      go : (found : Option (Block C)) → and_then (and_then (inside (beside found at)) (λ l. place_at l.0 l.1)) (λ i. Ok (At base at)) ≡ Err op → goes_on found ≡ Err op
      go None h = ap Err (err_same h)
      go (Some b) h = into (place_at b at) refl h
        where
          into : (r : Result ℤ Op) → place_at b at ≡ r → and_then r (λ i. Ok (At base at)) ≡ Err op → goes_on (Some b) ≡ Err op
          into (Ok i) e k = ok_err k
          into (Err cause) e k = ap (λ r. and_then r (λ c. Ok (with_block m base c))) (no_place_no_cell b at x cause e) ∙ ap Err (err_same k)
