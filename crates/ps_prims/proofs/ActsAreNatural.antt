-- The shapes of rows do on values that stand for others what they do on those.
-- For: the law that rows are natural
use Rattle.std.proofs.Common.{◌≡◌, ℕ, ℤ, pos, negsuc, List, [], ◌∷◌, ◌++◌, map, replicate, Bool, true, false, Some, Result, Ok, Err, refl, sym, ap, ◌∙◌}
use Rattle.std.specs.Prelude.{if◌then◌else◌, bytes_eq}
use Rattle.std.specs.Option.{option_map}
use Rattle.ps_base.specs.declared.faults.Op.{Op}
use Rattle.ps_base.specs.declared.faults.Op.TheVariants as ops
use Rattle.byte_store.specs.declared.event.Event.{Event}
use Rattle.byte_store.specs.declared.event.Event.TheVariants as events
use Rattle.byte_store.specs.declared.pointer.Base.TheVariants.{Fixed}
use Rattle.byte_store.specs.declared.pointer.Pointer.{Pointer}
use Rattle.byte_store.specs.declared.pointer.Pointer.TheVariants.{At}
use Rattle.byte_store.specs.Worlds.{Surroundings}
use Rattle.byte_store.specs.Blocks.{Block, Bytes, Cells, Memory, next_number}
use Rattle.byte_store.specs.Mapping.{map_answer, map_block, map_memory, map_allocation}
use Rattle.byte_store.specs.Operations as store
use Rattle.byte_store.specs.Operations.{and_then, is_size, Allocation}
use Rattle.byte_store.proofs.AnswersAreNatural.{answer_stays, goes_on_map, goes_on_same}
use Rattle.byte_store.proofs.PlacesAreNatural.{map-replicate}
use Rattle.byte_store.proofs.BlocksAreNatural.{next_number_map}
use Rattle.byte_store.proofs.OperationsAreNatural.{fixed_map, text_map, allocate_cells_map}
use Rattle.ps_prims.specs.declared.stages.Stage.{Stage}
use Rattle.ps_prims.specs.declared.stages.Stage.TheVariants.{Compile, Run}
use Rattle.ps_prims.specs.Sorts.{Values}
use Rattle.ps_prims.specs.Rows.{Act, Done, Scene, byte_of, answers, gives, finds, changes, makes, fixes, reads, writes, vector_of, appended, equal_texts}
use Rattle.ps_prims.specs.Mapping.{SeenAlike, map_scene, map_done}
use Rattle.ps_prims.proofs.OperandsAreNatural.{Acts}

module _ {A B : Type 0} (f : A → B) (values : Values A) (others : Values B) (alike : SeenAlike f values others) where
  -- an answer that is not a value goes to itself
  abbrev pub Alike : {X : Type 0} → Act A X → Act B X → Type 0
  Alike a b = Acts f values others alike (λ x. x) a b

  pub answers_map : {X : Type 0} (r : Result X Op) → Alike (answers r) (answers r)
  answers_map r = record { same = λ stage s. goes_on_same (map_done f (λ x. x)) (λ x. Ok (record { answer = x; memory = s.memory; world = s.world; events = [] })) (λ x. Ok (record { answer = x; memory = map_memory f s.memory; world = s.world; events = [] })) (λ x. refl) r }

  pub gives_map : {X : Type 0} (x : X) → Alike (gives x) (gives x)
  gives_map x = record { same = λ stage s. refl }

  -- what is found in a memory
  pub finds_in : {X Y : Type 0} (h : X → Y) (look : Memory A → Result X Op) (look' : Memory B → Result Y Op) (told : X → List Event) (told' : Y → List Event)
      → ((m : Memory A) → look' (map_memory f m) ≡ map_answer h (look m)) → ((x : X) → told' (h x) ≡ told x) → Acts f values others alike h (finds look told) (finds look' told')
  finds_in h look look' told told' e t = record { same = λ stage s. found s }
    where
      found : (s : Scene A) → and_then (look' (map_memory f s.memory)) (λ y. Ok (record { answer = y; memory = map_memory f s.memory; world = s.world; events = told' y })) ≡ map_answer (map_done f h) (and_then (look s.memory) (λ x. Ok (record { answer = x; memory = s.memory; world = s.world; events = told x })))
      found s =
          ap (λ r. and_then r (λ y. Ok (record { answer = y; memory = map_memory f s.memory; world = s.world; events = told' y }))) (e s.memory)
          ∙ goes_on_map h (map_done f h) (λ x. Ok (record { answer = x; memory = s.memory; world = s.world; events = told x })) (λ y. Ok (record { answer = y; memory = map_memory f s.memory; world = s.world; events = told' y })) (λ x. ap (λ (es : List Event). Ok (record { answer = h x; memory = map_memory f s.memory; world = s.world; events = es })) (t x)) (look s.memory)

  pub finds_map : {X : Type 0} (look : Memory A → Result X Op) (look' : Memory B → Result X Op) (told : X → List Event) → ((m : Memory A) → look' (map_memory f m) ≡ look m) → Alike (finds look told) (finds look' told)
  finds_map look look' told e = finds_in (λ x. x) look look' told told (λ m. e m ∙ sym (answer_stays (look m))) (λ x. refl)

  -- a memory after a change
  abbrev changed_to : {V : Type 0} → Event → Surroundings → Memory V → Result (Done V (Unit {0})) Op
  changed_to event w m = Ok (record { answer = tt; memory = m; world = w; events = event ∷ [] })

  pub changes_map : (change : Memory A → Result (Memory A) Op) (change' : Memory B → Result (Memory B) Op) (event event' : Event) → ((m : Memory A) → change' (map_memory f m) ≡ map_answer (map_memory f) (change m)) → event' ≡ event → Alike (changes change event) (changes change' event')
  changes_map change change' event event' e t = record { same = λ stage s. changed s }
    where
      changed : (s : Scene A) → and_then (change' (map_memory f s.memory)) (changed_to event' s.world) ≡ map_answer (map_done f (λ x. x)) (and_then (change s.memory) (changed_to event s.world))
      changed s =
          ap (λ r. and_then r (changed_to event' s.world)) (e s.memory) ∙ goes_on_map (map_memory f) (map_done f (λ x. x)) (changed_to event s.world) (changed_to event' s.world) (λ m. ap (λ (x : Event). changed_to x s.world (map_memory f m)) t) (change s.memory)

  pub makes_map : (make : Memory A → Surroundings → Result (Allocation A) Op) (make' : Memory B → Surroundings → Result (Allocation B) Op) (event event' : Pointer → Event)
      → ((m : Memory A) (w : Surroundings) → make' (map_memory f m) w ≡ map_answer (map_allocation f) (make m w)) → ((p : Pointer) → event' p ≡ event p) → Alike (makes make event) (makes make' event')
  makes_map make make' event event' e t = record { same = λ stage s. made s }
    where
      made : (s : Scene A) → and_then (make' (map_memory f s.memory) s.world) (λ a. Ok (record { answer = a.pointer; memory = a.memory; world = a.world; events = event' a.pointer ∷ [] })) ≡ map_answer (map_done f (λ x. x)) (and_then (make s.memory s.world) (λ a. Ok (record { answer = a.pointer; memory = a.memory; world = a.world; events = event a.pointer ∷ [] })))
      made s =
          ap (λ r. and_then r (λ a. Ok (record { answer = a.pointer; memory = a.memory; world = a.world; events = event' a.pointer ∷ [] }))) (e s.memory s.world)
          ∙ goes_on_map (map_allocation f) (map_done f (λ x. x)) (λ a. Ok (record { answer = a.pointer; memory = a.memory; world = a.world; events = event a.pointer ∷ [] })) (λ a. Ok (record { answer = a.pointer; memory = a.memory; world = a.world; events = event' a.pointer ∷ [] })) (λ a. ap (λ (x : Event). Ok (record { answer = a.pointer; memory = map_memory f a.memory; world = a.world; events = x ∷ [] })) (t a.pointer)) (make s.memory s.world)

  pub fixes_map : (b : Block A) → Alike (fixes b) (fixes (map_block f b))
  fixes_map b = record { same = λ stage s. fixed s }
    where
      after : Surroundings → ℕ → Memory B → Result (Done B Pointer) Op
      after w n m = Ok (record { answer = At (Fixed n) (pos 0); memory = m; world = w; events = [] })

      fixed : (s : Scene A) → after s.world (next_number (map_memory f s.memory).fixed) (store.fixed (map_memory f s.memory) (next_number (map_memory f s.memory).fixed) (map_block f b)) ≡ after s.world (next_number s.memory.fixed) (map_memory f (store.fixed s.memory (next_number s.memory.fixed) b))
      fixed s =
          ap (λ n. after s.world n (store.fixed (map_memory f s.memory) n (map_block f b))) (next_number_map f s.memory) ∙ ap (λ m. after s.world (next_number s.memory.fixed) m) (fixed_map f s.memory (next_number s.memory.fixed) b)

  pub reads_map : Alike reads reads
  reads_map = record { same = λ stage s. refl }

  pub writes_map : (i : ℤ) → Alike (writes i) (writes i)
  writes_map i = record { same = λ stage s. goes_on_same (map_done f (λ x. x)) (λ b. Ok (record { answer = tt; memory = s.memory; world = s.world; events = events.Output b ∷ [] })) (λ b. Ok (record { answer = tt; memory = map_memory f s.memory; world = s.world; events = events.Output b ∷ [] })) (λ b. refl) (byte_of i) }

  -- ---- vectors and strings

  pub vector_of_map : (i : ℤ) (x : A) → Alike (vector_of values.word i x) (vector_of others.word i (f x))
  vector_of_map i x = record { same = at i }
    where
      at_size : (n : ℕ) (b : Bool) (s : Scene A) → (if b then fixes (Cells (replicate n (Some (f x)))) Compile (map_scene f s) else Err ops.Size) ≡ map_answer (map_done f (λ p. p)) (if b then fixes (Cells (replicate n (Some x))) Compile s else Err ops.Size)
      at_size n true s = ap (λ (cells : List _). fixes (Cells cells) Compile (map_scene f s)) (sym (map-replicate (option_map f) n (Some x))) ∙ (fixes_map (Cells (replicate n (Some x)))).same Compile s
      at_size n false s = refl

      at : (i : ℤ) (stage : Stage) (s : Scene A) → vector_of others.word i (f x) stage (map_scene f s) ≡ map_answer (map_done f (λ p. p)) (vector_of values.word i x stage s)
      at i Run s = (makes_map (λ m w. store.allocate_cells m w i (Some x)) (λ m w. store.allocate_cells m w i (Some (f x))) (λ p. events.Fill i (values.word x) p) (λ p. events.Fill i (others.word (f x)) p) (λ m w. allocate_cells_map f m w i (Some x)) (λ p. ap (λ y. events.Fill i y p) (alike.word x))).same Run s
      at (pos n) Compile s = at_size n (is_size n) s
      at (negsuc n) Compile s = refl

  pub appended_map : (p q : Pointer) → Alike (appended p q) (appended p q)
  appended_map p q = record { same = λ stage s. joined stage s }
    where
      joined : (stage : Stage) (s : Scene A) → appended p q stage (map_scene f s) ≡ map_answer (map_done f (λ x. x)) (appended p q stage s)
      joined stage s =
          ap (λ r. and_then r (λ a. and_then (store.text (map_memory f s.memory) q) (λ b. fixes (Bytes (map Some (a ++ b ++ 0 ∷ []))) stage (map_scene f s)))) (text_map f s.memory p)
          ∙ ap (λ r. and_then (store.text s.memory p) (λ a. and_then r (λ b. fixes (Bytes (map Some (a ++ b ++ 0 ∷ []))) stage (map_scene f s)))) (text_map f s.memory q)
          ∙ goes_on_same (map_done f (λ x. x)) (λ a. and_then (store.text s.memory q) (λ b. fixes (Bytes (map Some (a ++ b ++ 0 ∷ []))) stage s)) (λ a. and_then (store.text s.memory q) (λ b. fixes (Bytes (map Some (a ++ b ++ 0 ∷ []))) stage (map_scene f s))) (λ a. goes_on_same (map_done f (λ x. x)) (λ b. fixes (Bytes (map Some (a ++ b ++ 0 ∷ []))) stage s) (λ b. fixes (Bytes (map Some (a ++ b ++ 0 ∷ []))) stage (map_scene f s)) (λ b. (fixes_map (Bytes (map Some (a ++ b ++ 0 ∷ [])))).same stage s) (store.text s.memory q)) (store.text s.memory p)

  pub equal_texts_map : (p q : Pointer) (m : Memory A) → equal_texts (map_memory f m) p q ≡ equal_texts m p q
  equal_texts_map p q m =
      ap (λ r. and_then r (λ a. and_then (store.text (map_memory f m) q) (λ b. Ok (bytes_eq a b)))) (text_map f m p) ∙ ap (λ r. and_then (store.text m p) (λ a. and_then r (λ b. Ok (bytes_eq a b)))) (text_map f m q)
