-- Makers, predicates, accessors and modifiers of records (this project's own).
--
-- A record is a pointer to a block with a cell for each field, in the order of the fields, or null. The maker of a kind takes a
-- value for each field, in an order of its own, which the kind says; the others take a record of their kind first.
use Rattle.std.specs.Prelude.{ℕ, pos, List, [], ◌∷◌, length, map, replicate, not, if◌then◌else◌, slice_get, Option, Some, None, Result, Ok, Err}
use Rattle.ps_base.specs.declared.faults.Op.{Op}
use Rattle.ps_base.specs.declared.faults.Op.TheVariants as ops
use Rattle.byte_store.specs.declared.event.Event.{Event}
use Rattle.byte_store.specs.declared.event.Event.TheVariants as events
use Rattle.byte_store.specs.declared.pointer.Pointer.{Pointer}
use Rattle.byte_store.specs.declared.pointer.Pointer.TheVariants.{Null, At}
use Rattle.byte_store.specs.declared.pointer.Base.TheVariants.{Fixed}
use Rattle.byte_store.specs.Blocks.{Memory, Cells, next_number}
use Rattle.byte_store.specs.Operations as store
use Rattle.byte_store.specs.Operations.{and_then, plus, is_size}
use Rattle.byte_store.specs.Worlds.{Surroundings}
use Rattle.ps_types.specs.declared.types.Ty.{Ty, Ty-F, out-Ty}
use Rattle.ps_types.specs.declared.types.RecordKind.{RecordKind}
use Rattle.ps_prims.specs.declared.stages.Stage.TheVariants.{Compile, Run}
use Rattle.ps_prims.specs.declared.stages.Stages.TheVariants.{Both}
use Rattle.ps_prims.specs.Sorts.{Sort, Integer, Boolean, Char, Unit', Address, Text, Vector, Record, Any, Values, answered, collecting}
use Rattle.ps_prims.specs.Acts.{Done, Act, finds, changes, unseen, Row}

-- ---- kinds and fields

-- a kind that is not there has no fields
abbrev pub fields_of : Option RecordKind → List Ty
fields_of None = []
fields_of (Some kind) = kind.fields

abbrev pub maker_of : Option RecordKind → List ℕ
maker_of None = []
maker_of (Some kind) = kind.maker

-- the types of the fields of a kind, and its fields in the maker's order
abbrev pub fields : List RecordKind → ℕ → List Ty
fields kinds k = fields_of (slice_get kinds k)

abbrev pub maker_order : List RecordKind → ℕ → List ℕ
maker_order kinds k = maker_of (slice_get kinds k)

-- The sort of the values of a type. Of a vector the items are not looked at. No field has the type of a procedure or a variable.
abbrev pub sort_of_layer : Ty-F Ty → Sort
sort_of_layer Ty-F.Integer = Integer
sort_of_layer Ty-F.Boolean = Boolean
sort_of_layer Ty-F.Char = Char
sort_of_layer Ty-F.Unit = Unit'
sort_of_layer Ty-F.Address = Address
sort_of_layer Ty-F.Text = Text
sort_of_layer (Ty-F.Vector t) = Vector
sort_of_layer (Ty-F.Tuple k) = Record k
sort_of_layer (Ty-F.Proc ts t) = Any
sort_of_layer (Ty-F.Var x) = Any

abbrev pub sort_of : Ty → Sort
sort_of t = sort_of_layer (out-Ty t)

-- the sort of a field, where it is there
abbrev pub sort_in : Option Ty → Sort
sort_in None = Any
sort_in (Some t) = sort_of t

abbrev pub sort_of_field : List Ty → ℕ → Sort
sort_of_field ts f = sort_in (slice_get ts f)

module _ {V : Type 0} where
  -- values are put into these fields of a record, one after another
  abbrev pub put_fields : Memory V → Pointer → List ℕ → List V → Result (Memory V) Op
  put_fields m p [] vs = Ok m
  put_fields m p (f ∷ fs) [] = Ok m
  put_fields m p (f ∷ fs) (v ∷ vs) = and_then (store.put m p (pos f) v) (λ m'. put_fields m' p fs vs)

  -- (predicate r)
  abbrev pub predicate : ℕ → Row V
  predicate k = record {
    operands = Record k ∷ [];
    answer = Boolean;
    stages = Both;
    does = λ p. finds (λ m. and_then (store.is_null m p) (λ b. Ok (not b))) unseen;
  }

module _ {V : Type 0} (values : Values V) where
  -- ---- making

  -- what is seen of it
  abbrev pub puts_seen : Pointer → List ℕ → List V → List Event
  puts_seen p [] vs = []
  puts_seen p (f ∷ fs) [] = []
  puts_seen p (f ∷ fs) (v ∷ vs) = events.Put (plus p (pos f)) (values.word v) ∷ puts_seen p fs vs

  -- a record of n fields begins at a pointer, and its fields are filled; where it is null there are none
  abbrev pub filled : ℕ → List ℕ → List V → Memory V → Surroundings → Pointer → Result (Done V Pointer) Op
  filled n fs vs m w Null = Ok (record { answer = Null; memory = m; world = w; events = events.Tuple (pos n) Null ∷ [] })
  filled n fs vs m w (At base offset) =
      and_then (put_fields m (At base offset) fs vs) (λ m'. Ok (record {
        answer = At base offset;
        memory = m';
        world = w;
        events = events.Tuple (pos n) (At base offset) ∷ puts_seen (At base offset) fs vs;
      }))

  -- A record of n fields is made, and filled in this order. At compile time it is the next fixed block, and at run time one
  -- that uses a grant.
  abbrev pub made : ℕ → List ℕ → List V → Act V Pointer
  made n fs vs Compile s =
      if is_size n
      then
      filled n fs vs (store.fixed s.memory (next_number s.memory.fixed) (Cells (replicate n None))) s.world
      (At (Fixed (next_number s.memory.fixed)) (pos 0))
      else Err ops.Size
  made n fs vs Run s =
      and_then (store.allocate_cells s.memory s.world (pos n) None) (λ a. filled n fs vs a.memory a.world a.pointer)

  -- ---- the rows

  -- (maker v ...)
  abbrev pub maker : List RecordKind → ℕ → Row V
  maker kinds k = record {
    operands = map (sort_of_field (fields kinds k)) (maker_order kinds k);
    answer = Record k;
    stages = Both;
    does = collecting values (map (sort_of_field (fields kinds k)) (maker_order kinds k)) (made (length (fields kinds k)) (maker_order kinds k));
  }

  -- (accessor r)
  abbrev pub accessor : ℕ → ℕ → Row V
  accessor k f = record {
    operands = Record k ∷ [];
    answer = Any;
    stages = Both;
    does = λ p. finds (λ m. store.get m p (pos f)) (λ x. events.Get (plus p (pos f)) (values.word x) ∷ []);
  }

  -- a value is put into a field
  abbrev pub puts : ℕ → Pointer → V → Act V (Unit {0})
  puts f p v = changes (λ m. store.put m p (pos f) v) (events.Put (plus p (pos f)) (values.word v))

  -- (modifier r v)
  abbrev pub modifier : List RecordKind → ℕ → ℕ → Row V
  modifier kinds k f = record {
    operands = Record k ∷ sort_of_field (fields kinds k) f ∷ [];
    answer = Unit';
    stages = Both;
    does = λ p x. puts f p (answered values (sort_of_field (fields kinds k) f) x);
  }
