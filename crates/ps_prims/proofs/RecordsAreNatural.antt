-- The rows of records do on values that stand for others what they do on those.
-- For: the law that rows are natural
use Rattle.std.proofs.Common.{◌≡◌, ℕ, pos, List, [], ◌∷◌, length, map, replicate, not, Bool, true, false, Option, None, Result, Ok, Err, refl, sym, ap, ◌∙◌, subst}
use Rattle.std.specs.Prelude.{if◌then◌else◌}
use Rattle.std.specs.Option.{option_map}
use Rattle.ps_base.specs.declared.faults.Op.{Op}
use Rattle.ps_base.specs.declared.faults.Op.TheVariants as ops
use Rattle.byte_store.specs.declared.event.Event.{Event}
use Rattle.byte_store.specs.declared.event.Event.TheVariants as events
use Rattle.byte_store.specs.declared.pointer.Pointer.{Pointer}
use Rattle.byte_store.specs.declared.pointer.Pointer.TheVariants.{Null, At}
use Rattle.byte_store.specs.declared.pointer.Base.TheVariants.{Fixed}
use Rattle.byte_store.specs.Blocks.{Memory, Cells, next_number}
use Rattle.byte_store.specs.Mapping.{map_answer, map_memory, map_allocation}
use Rattle.byte_store.specs.Operations as store
use Rattle.byte_store.specs.Operations.{and_then, is_size, plus}
use Rattle.byte_store.specs.Worlds.{Surroundings}
use Rattle.byte_store.proofs.AnswersAreNatural.{goes_on_map}
use Rattle.byte_store.proofs.PlacesAreNatural.{map-replicate}
use Rattle.byte_store.proofs.BlocksAreNatural.{next_number_map}
use Rattle.byte_store.proofs.OperationsAreNatural.{fixed_map, allocate_cells_map, is_null_map, get_map, put_map}
use Rattle.ps_types.specs.declared.types.RecordKind.{RecordKind}
use Rattle.ps_prims.specs.declared.sorts.Sort.{Sort}
use Rattle.ps_prims.specs.declared.stages.Stage.{Stage}
use Rattle.ps_prims.specs.declared.stages.Stage.TheVariants.{Compile, Run}
use Rattle.ps_prims.specs.Sorts.{Values, Meant, answered}
use Rattle.ps_prims.specs.Rows.{Done, Scene, finds, unseen}
use Rattle.ps_prims.specs.Records.{fields, maker_order, sort_of_field, put_fields, puts_seen, filled, made, maker, puts, modifier}
use Rattle.ps_prims.specs.Mapping.{SeenAlike, map_scene, map_done}
use Rattle.ps_prims.proofs.OperandsAreNatural.{Acts, Takes, meant, answered_map, collecting_map}
use Rattle.ps_prims.proofs.ActsAreNatural.{finds_in, finds_map, changes_map}

-- a record after its fields were filled
abbrev full : {V : Type 0} → Pointer → Surroundings → List Event → Memory V → Result (Done V Pointer) Op
full p w es m = Ok (record { answer = p; memory = m; world = w; events = es })

module _ {A B : Type 0} (f : A → B) (values : Values A) (others : Values B) (alike : SeenAlike f values others) where
  put_fields_map : (m : Memory A) (p : Pointer) (fs : List ℕ) (vs : List A) → put_fields (map_memory f m) p fs (map f vs) ≡ map_answer (map_memory f) (put_fields m p fs vs)
  put_fields_map m p [] vs = refl
  put_fields_map m p (n ∷ fs) [] = refl
  put_fields_map m p (n ∷ fs) (v ∷ vs) =
      ap (λ r. and_then r (λ m'. put_fields m' p fs (map f vs))) (put_map f m p (pos n) v)
      ∙ goes_on_map (map_memory f) (map_memory f) (λ m'. put_fields m' p fs vs) (λ m'. put_fields m' p fs (map f vs)) (λ m'. put_fields_map m' p fs vs) (store.put m p (pos n) v)

  puts_seen_map : (p : Pointer) (fs : List ℕ) (vs : List A) → puts_seen others p fs (map f vs) ≡ puts_seen values p fs vs
  puts_seen_map p [] vs = refl
  puts_seen_map p (n ∷ fs) [] = refl
  puts_seen_map p (n ∷ fs) (v ∷ vs) =
      ap (λ y. events.Put (plus p (pos n)) y ∷ puts_seen others p fs (map f vs)) (alike.word v) ∙ ap (λ (es : List Event). events.Put (plus p (pos n)) (values.word v) ∷ es) (puts_seen_map p fs vs)

  -- a pointer is answered as it is
  abbrev pointer_done : Done A Pointer → Done B Pointer
  pointer_done = map_done f (λ p. p)

  filled_map : (n : ℕ) (fs : List ℕ) (vs : List A) (m : Memory A) (w : Surroundings) (p : Pointer) → filled others n fs (map f vs) (map_memory f m) w p ≡ map_answer pointer_done (filled values n fs vs m w p)
  filled_map n fs vs m w Null = refl
  filled_map n fs vs m w (At base offset) =
      ap (λ r. and_then r (full (At base offset) w (events.Tuple (pos n) (At base offset) ∷ puts_seen others (At base offset) fs (map f vs)))) (put_fields_map m (At base offset) fs vs)
      ∙ ap (λ (es : List Event). and_then (map_answer (map_memory f) (put_fields m (At base offset) fs vs)) (full (At base offset) w (events.Tuple (pos n) (At base offset) ∷ es))) (puts_seen_map (At base offset) fs vs)
      ∙ goes_on_map (map_memory f) pointer_done (full (At base offset) w (events.Tuple (pos n) (At base offset) ∷ puts_seen values (At base offset) fs vs)) (full (At base offset) w (events.Tuple (pos n) (At base offset) ∷ puts_seen values (At base offset) fs vs)) (λ m'. refl) (put_fields m (At base offset) fs vs)

  module _ (n : ℕ) (fs : List ℕ) (vs : List A) where
    abbrev fill : Memory B → Surroundings → Pointer → Result (Done B Pointer) Op
    fill m w p = filled others n fs (map f vs) m w p

    fixed_record : (s : Scene A) → fill (store.fixed (map_memory f s.memory) (next_number (map_memory f s.memory).fixed) (Cells (replicate n None))) s.world (At (Fixed (next_number (map_memory f s.memory).fixed)) (pos 0))
        ≡ map_answer pointer_done (filled values n fs vs (store.fixed s.memory (next_number s.memory.fixed) (Cells (replicate n None))) s.world (At (Fixed (next_number s.memory.fixed)) (pos 0)))
    fixed_record s =
        ap (λ k. fill (store.fixed (map_memory f s.memory) k (Cells (replicate n None))) s.world (At (Fixed k) (pos 0))) (next_number_map f s.memory)
        ∙ ap (λ (cells : List (Option B)). fill (store.fixed (map_memory f s.memory) (next_number s.memory.fixed) (Cells cells)) s.world (At (Fixed (next_number s.memory.fixed)) (pos 0))) (sym (map-replicate (option_map f) n None))
        ∙ ap (λ m. fill m s.world (At (Fixed (next_number s.memory.fixed)) (pos 0))) (fixed_map f s.memory (next_number s.memory.fixed) (Cells (replicate n None)))
        ∙ filled_map n fs vs (store.fixed s.memory (next_number s.memory.fixed) (Cells (replicate n None))) s.world (At (Fixed (next_number s.memory.fixed)) (pos 0))

    sized : (b : Bool) (x : Result (Done B Pointer) Op) (y : Result (Done A Pointer) Op) → x ≡ map_answer pointer_done y → (if b then x else Err ops.Size) ≡ map_answer pointer_done (if b then y else Err ops.Size)
    sized true x y h = h
    sized false x y h = refl

    made_same : (stage : Stage) (s : Scene A) → made others n fs (map f vs) stage (map_scene f s) ≡ map_answer pointer_done (made values n fs vs stage s)
    made_same Compile s = sized (is_size n) _ _ (fixed_record s)
    made_same Run s =
        ap (λ r. and_then r (λ a. fill a.memory a.world a.pointer)) (allocate_cells_map f s.memory s.world (pos n) None)
        ∙ goes_on_map (map_allocation f) pointer_done (λ a. filled values n fs vs a.memory a.world a.pointer) (λ a. fill a.memory a.world a.pointer) (λ a. filled_map n fs vs a.memory a.world a.pointer) (store.allocate_cells s.memory s.world (pos n) None)

    made_map : Acts f values others alike (λ p. p) (made values n fs vs) (made others n fs (map f vs))
    made_map = record { same = made_same }

  pub maker_map : (kinds : List RecordKind) (k : ℕ) → Takes f values others alike (Acts f values others alike (λ p. p)) (maker values kinds k).operands (maker values kinds k).does (maker others kinds k).does
  maker_map kinds k = collecting_map f values others alike (Acts f values others alike (λ p. p)) (map (sort_of_field (fields kinds k)) (maker_order kinds k)) (made values (length (fields kinds k)) (maker_order kinds k)) (made others (length (fields kinds k)) (maker_order kinds k)) (made_map (length (fields kinds k)) (maker_order kinds k))

  pub predicate_map : (p : Pointer) → Acts f values others alike (λ b. b) (finds (λ m. and_then (store.is_null m p) (λ b. Ok (not b))) unseen) (finds (λ m. and_then (store.is_null m p) (λ b. Ok (not b))) unseen)
  predicate_map p = finds_map f values others alike (λ m. and_then (store.is_null m p) (λ b. Ok (not b))) (λ m. and_then (store.is_null m p) (λ b. Ok (not b))) unseen (λ m. ap (λ a. and_then a (λ b. Ok (not b))) (is_null_map f m p))

  pub accessor_map : (n : ℕ) (p : Pointer) → Acts f values others alike f (finds (λ m. store.get m p (pos n)) (λ x. events.Get (plus p (pos n)) (values.word x) ∷ [])) (finds (λ m. store.get m p (pos n)) (λ x. events.Get (plus p (pos n)) (others.word x) ∷ []))
  accessor_map n p =
      finds_in f values others alike f (λ m. store.get m p (pos n)) (λ m. store.get m p (pos n)) (λ x. events.Get (plus p (pos n)) (values.word x) ∷ []) (λ x. events.Get (plus p (pos n)) (others.word x) ∷ []) (λ m. get_map f m p (pos n)) (λ x. ap (λ y. events.Get (plus p (pos n)) y ∷ []) (alike.word x))

  puts_map : (n : ℕ) (p : Pointer) (v : A) → Acts f values others alike (λ u. u) (puts values n p v) (puts others n p (f v))
  puts_map n p v =
      changes_map f values others alike (λ m. store.put m p (pos n) v) (λ m. store.put m p (pos n) (f v)) (events.Put (plus p (pos n)) (values.word v)) (events.Put (plus p (pos n)) (others.word (f v))) (λ m. put_map f m p (pos n) v) (ap (λ y. events.Put (plus p (pos n)) y) (alike.word v))

  pub modifier_map : (kinds : List RecordKind) (k n : ℕ) → Takes f values others alike (Acts f values others alike (λ u. u)) (modifier values kinds k n).operands (modifier values kinds k n).does (modifier others kinds k n).does
  modifier_map kinds k n = λ p x. one p (sort_of_field (fields kinds k) n) x
    where
      one : (p : Pointer) (s : Sort) (x : Meant A s) → Acts f values others alike (λ u. u) (puts values n p (answered values s x)) (puts others n p (answered others s (meant f values others alike s x)))
      one p s x = subst (λ y. Acts f values others alike (λ u. u) (puts values n p (answered values s x)) (puts others n p y)) (sym (answered_map f values others alike s x)) (puts_map n p (answered values s x))
