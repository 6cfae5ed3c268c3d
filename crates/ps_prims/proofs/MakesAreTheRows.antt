-- What makes a block, or copies two strings, does what its row says.
-- For: the functions of makes.rt
use Rattle.std.proofs.Common.{◌≡◌, ℕ, zero, suc, Bool, true, false, subst, ℤ, pos, negsuc, List, [], ◌∷◌, ◌++◌, map, Some, Result, Ok, Err, refl, sym, ap, ◌∙◌}
use Rattle.std.proofs.lemmas.List.{append-nil}
use Rattle.std.specs.Prelude.{replicate, if◌then◌else◌}
use Rattle.ps_base.specs.declared.faults.Op.{Op}
use Rattle.ps_base.specs.declared.faults.Op.TheVariants as ops
use Rattle.ps_base.specs.declared.language.PrimName.TheVariants as prims
use Rattle.byte_store.specs.declared.event.Event.{Event}
use Rattle.byte_store.specs.declared.event.Event.TheVariants as events
use Rattle.byte_store.specs.declared.pointer.Value.{Value}
use Rattle.byte_store.specs.declared.pointer.Value.TheVariants as value
use Rattle.byte_store.specs.declared.pointer.Pointer.{Pointer}
use Rattle.byte_store.specs.declared.pointer.Pointer.TheVariants.{At}
use Rattle.byte_store.specs.declared.pointer.Base.TheVariants.{Fixed}
use Rattle.byte_store.specs.Blocks.{Memory, Block, Bytes, Cells, next_number}
use Rattle.byte_store.specs.Worlds.{Surroundings}
use Rattle.byte_store.specs.Operations as store
use Rattle.byte_store.specs.Operations.{and_then, Allocation, is_size}
use Rattle.byte_store.specs.Words.{word_of}
use Rattle.ps_prims.specs.declared.outcome.PrimOut.{PrimOut}
use Rattle.ps_prims.specs.declared.outcome.PrimOut.TheVariants as out
use Rattle.ps_prims.specs.declared.stages.Stage.{Stage}
use Rattle.ps_prims.specs.declared.stages.Stage.TheVariants.{Compile, Run}
use Rattle.ps_prims.specs.Sorts.{Meant, answered, applied, first_order, fits}
use Rattle.ps_prims.specs.Rows.{fixes, finds, unseen, equal_texts, Row, Scene, Act, Done, Answers, row, makes, vector_of, appended, perform_row, performed, at_scene, seen_at}
use Rattle.ps_prims.specs.Performing.{Comes, State, state}
use Rattle.ps_prims.specs.Needs.{Blocks, HasNumber, HasRoom}
use Rattle.ps_prims.specs.Inside.{Makes, Acts, Fixes, FoundInCopies, vector_block, string_block}
use Rattle.ps_prims.proofs.OtherNumbersFitNoRow.{applied_none}
use Rattle.ps_prims.proofs.LooksChangeNothing.{nothing_added}

-- a row that its operands do not fit is wrong, whatever there is
pub comes_wrong : (r : Row Value) (vs : List Value) (stage : Stage) (s : State) → fits first_order r.operands vs ≡ false → Comes out.Wrong s s (perform_row first_order r vs stage (record { memory = s.memory; world = s.world }))
comes_wrong r vs stage s other = (ap (λ f. performed (answered first_order r.answer) stage (at_scene stage (record { memory = s.memory; world = s.world }) f)) (applied_none first_order r.operands r.does vs other), refl)

module _ (r : Row Value) (vs args : List Value) (stage : Stage) (old new : State) where
  -- what an act of code is, the row is
  pub comes_of : (act : Act Value (Meant Value r.answer)) (o : PrimOut) →
      vs ≡ args → applied first_order r.operands r.does args ≡ Some act → Acts o (answered first_order r.answer) stage (act stage (record { memory = old.memory; world = old.world })) old new →
      Comes o old new (perform_row first_order r vs stage (record { memory = old.memory; world = old.world }))
  comes_of act o is at h = go o h
    where
      scene : Scene Value
      scene = record { memory = old.memory; world = old.world }

      here : perform_row first_order r vs stage scene ≡ performed (answered first_order r.answer) stage (Some (act stage scene))
      here = ap (λ g. performed (answered first_order r.answer) stage (at_scene stage scene g)) (ap (applied first_order r.operands r.does) is ∙ at)

      go : (o : PrimOut) → Acts o (answered first_order r.answer) stage (act stage scene) old new → Comes o old new (perform_row first_order r vs stage scene)
      go (out.Value v) h = (
        seen_at stage h.1,
        here ∙ ap (λ a. performed (answered first_order r.answer) stage (Some a)) h.2 ∙ ap (λ u. Answers (record { answer = u; memory = new.memory; world = new.world; events = seen_at stage h.1 })) (sym h.3),
        h.4,
      )
      go (out.Undefined op) h = (here ∙ ap (λ a. performed (answered first_order r.answer) stage (Some a)) h.0, h.1)
      go out.Wrong h = absurd h
      go out.NoMemory h = h

-- a block that is made
makes_acts : (o : PrimOut) (of : Pointer → Value) (make : Memory Value → Surroundings → Result (Allocation Value) Op) (event : Pointer → Event) (old new : State) →
    Makes o of (make old.memory old.world) event old new → Acts o of Run (makes make event Run (record { memory = old.memory; world = old.world })) old new
makes_acts (out.Value v) of make event old new h =
    (h.0, event h.0 ∷ [], ap (λ r. and_then r (λ a. Ok (record { answer = a.pointer; memory = a.memory; world = a.world; events = event a.pointer ∷ [] }))) h.2, h.1, h.3)
makes_acts (out.Undefined op) of make event old new h = (ap (λ r. and_then r (λ a. Ok (record { answer = a.pointer; memory = a.memory; world = a.world; events = event a.pointer ∷ [] }))) h.0, h.1)
makes_acts out.Wrong of make event old new h = absurd h
makes_acts out.NoMemory of make event old new h = h

-- a fixed block
abbrev fixes_of : State → Result (Block Value) Op → Result (Done Value Pointer) Op
fixes_of s r = and_then r (λ b. fixes b Compile (record { memory = s.memory; world = s.world }))

fixes_acts : (o : PrimOut) (of : Pointer → Value) (r : Result (Block Value) Op) (m n : Memory Value) (w : Surroundings) (es : List Event) →
    Fixes o of r m n → Acts o of Compile (fixes_of (state m w es) r) (state m w es) (state n w es)
fixes_acts (out.Value v) of r m n w es h = (
  At (Fixed (next_number m.fixed)) (pos 0),
  [],
  ap (λ a. fixes_of (state m w es) a) h.1 ∙ ap (λ (x : Memory Value). Ok (record { answer = At (Fixed (next_number m.fixed)) (pos 0); memory = x; world = w; events = [] })) (sym h.3),
  h.2,
  sym (append-nil es),
)
fixes_acts (out.Undefined op) of r m n w es h = (ap (λ a. fixes_of (state m w es) a) h.0, ap (λ x. state x w es) h.1)
fixes_acts out.Wrong of r m n w es h = absurd h
fixes_acts out.NoMemory of r m n w es h = ap (λ x. state x w es) h

-- ---- the rows

pub allocate_comes : (vs : List Value) (i : ℤ) (o : PrimOut) (old new : State) → vs ≡ value.Integer i ∷ [] →
    Makes o (λ p. value.Address p) (store.allocate old.memory old.world i) (λ p. events.Allocate i p) old new → Comes o old new (perform_row first_order (row first_order [] prims.AllocateMemory) vs Run (record { memory = old.memory; world = old.world }))
allocate_comes vs i o old new is h =
    comes_of (row first_order [] prims.AllocateMemory) vs (value.Integer i ∷ []) Run old new (makes (λ m w. store.allocate m w i) (λ p. events.Allocate i p)) o is refl (makes_acts o (λ p. value.Address p) (λ m w. store.allocate m w i) (λ p. events.Allocate i p) old new h)

pub vector_comes : (vs : List Value) (i : ℤ) (x : Value) (o : PrimOut) (old new : State) → vs ≡ value.Integer i ∷ x ∷ [] →
    Makes o (λ p. value.Vector p) (store.allocate_cells old.memory old.world i (Some x)) (λ p. events.Fill i (word_of x) p) old new → Comes o old new (perform_row first_order (row first_order [] prims.MakeVector) vs Run (record { memory = old.memory; world = old.world }))
vector_comes vs i x o old new is h =
    comes_of (row first_order [] prims.MakeVector) vs (value.Integer i ∷ x ∷ []) Run old new (vector_of word_of i x) o is refl (makes_acts o (λ p. value.Vector p) (λ m w. store.allocate_cells m w i (Some x)) (λ p. events.Fill i (word_of x) p) old new h)

-- what a vector is at compile time
vector_fixes : (i : ℤ) (x : Value) (s : State) → vector_of word_of i x Compile (record { memory = s.memory; world = s.world }) ≡ fixes_of s (vector_block i x)
vector_fixes (pos n) x s = go (is_size n)
  where
    go : (b : Bool) → (if b then fixes (Cells (replicate n (Some x))) Compile (record { memory = s.memory; world = s.world }) else Err ops.Size) ≡ fixes_of s (if b then Ok (Cells (replicate n (Some x))) else Err ops.Size)
    go true = refl
    go false = refl
vector_fixes (negsuc n) x s = refl

pub vector_comes_fixed : (vs : List Value) (i : ℤ) (x : Value) (o : PrimOut) (m n : Memory Value) (w : Surroundings) (es : List Event) → vs ≡ value.Integer i ∷ x ∷ [] →
    Fixes o (λ p. value.Vector p) (vector_block i x) m n → Comes o (state m w es) (state n w es) (perform_row first_order (row first_order [] prims.MakeVector) vs Compile (record { memory = m; world = w }))
vector_comes_fixed vs i x o m n w es is h =
    comes_of (row first_order [] prims.MakeVector) vs (value.Integer i ∷ x ∷ []) Compile (state m w es) (state n w es) (vector_of word_of i x) o is refl
    (subst (λ r. Acts o (λ p. value.Vector p) Compile r (state m w es) (state n w es)) (sym (vector_fixes i x (state m w es))) (fixes_acts o (λ p. value.Vector p) (vector_block i x) m n w es h))

-- what a string of two is
string_fixes : (p q : Pointer) (s : State) → appended p q Compile (record { memory = s.memory; world = s.world }) ≡ fixes_of s (string_block s.memory p q)
string_fixes p q s = go (store.text s.memory p) (store.text s.memory q)
  where
    scene : Scene Value
    scene = record { memory = s.memory; world = s.world }

    go : (a b : Result (List ℕ) Op) → and_then a (λ x. and_then b (λ y. fixes (Bytes (map Some (x ++ y ++ 0 ∷ []))) Compile scene)) ≡ fixes_of s (and_then a (λ x. and_then b (λ y. Ok (Bytes (map Some (x ++ y ++ 0 ∷ []))))))
    go (Ok a) (Ok b) = refl
    go (Ok a) (Err op) = refl
    go (Err op) b = refl

pub string_comes : (vs : List Value) (p q : Pointer) (o : PrimOut) (m n : Memory Value) (w : Surroundings) (es : List Event) → vs ≡ value.Text p ∷ value.Text q ∷ [] →
    Fixes o (λ p. value.Text p) (string_block m p q) m n → Comes o (state m w es) (state n w es) (perform_row first_order (row first_order [] prims.StringAppend) vs Compile (record { memory = m; world = w }))
string_comes vs p q o m n w es is h =
    comes_of (row first_order [] prims.StringAppend) vs (value.Text p ∷ value.Text q ∷ []) Compile (state m w es) (state n w es) (appended p q) o is refl
    (subst (λ r. Acts o (λ p. value.Text p) Compile r (state m w es) (state n w es)) (sym (string_fixes p q (state m w es))) (fixes_acts o (λ p. value.Text p) (string_block m p q) m n w es h))

pub filled_is : {A : Type 0} (n : ℕ) (x : A) → map Some (replicate n x) ≡ replicate n (Some x)
filled_is zero x = refl
filled_is (suc n) x = ap (λ l. Some x ∷ l) (filled_is n x)

-- what is found in copies
copies_act : {X : Type 0} (o : PrimOut) (of : X → Value) (look : Memory Value → Result X Op) (stage : Stage) (s : State) → FoundInCopies o (look s.memory) of → Acts o of stage (finds look (λ x. unseen x) stage (record { memory = s.memory; world = s.world })) s s
copies_act (out.Value v) of look stage s f = (f.0, [], ap (λ r. and_then r (λ x. Ok (record { answer = x; memory = s.memory; world = s.world; events = [] }))) f.1, f.2, sym (nothing_added stage s.events))
copies_act (out.Undefined op) of look stage s f = (ap (λ r. and_then r (λ x. Ok (record { answer = x; memory = s.memory; world = s.world; events = [] }))) f, refl)
copies_act out.Wrong of look stage s f = absurd f
copies_act out.NoMemory of look stage s f = refl

pub string_equal_comes : (vs : List Value) (p q : Pointer) (o : PrimOut) (stage : Stage) (m : Memory Value) (w : Surroundings) (es : List Event) → vs ≡ value.Text p ∷ value.Text q ∷ [] →
    FoundInCopies o (equal_texts m p q) (λ b. value.Boolean b) → Comes o (state m w es) (state m w es) (perform_row first_order (row first_order [] prims.StringEqual) vs stage (record { memory = m; world = w }))
string_equal_comes vs p q o stage m w es is found =
    comes_of (row first_order [] prims.StringEqual) vs (value.Text p ∷ value.Text q ∷ []) stage (state m w es) (state m w es) (finds (λ m. equal_texts m p q) (λ x. unseen x)) o is refl (copies_act o (λ b. value.Boolean b) (λ m. equal_texts m p q) stage (state m w es) found)

-- where a block is made there is a number for it
pub room_for_block : (stage : Stage) (m : Memory Value) → HasRoom Blocks stage m → HasNumber stage m
room_for_block Compile m h = h
room_for_block Run m h = h refl
