-- What primitives do, and what a row of their table is (this project's own).
--
-- What a row does is a function of its operands (`Taking`), of the stage, and of the memory and the world; it answers a value,
-- the memory and world after, and what is seen from outside.
use Rattle.std.specs.Prelude.{ℤ, pos, negsuc, List, [], ◌∷◌, ◌++◌, map, replicate, Bool, nat_lt, bytes_eq, if◌then◌else◌, Some, Result, Ok, Err}
use Rattle.ps_base.specs.declared.faults.Op.{Op}
use Rattle.ps_base.specs.declared.faults.Op.TheVariants as ops
use Rattle.byte_store.specs.declared.event.Event.{Event}
use Rattle.byte_store.specs.declared.event.Event.TheVariants as events
use Rattle.byte_store.specs.declared.pointer.Pointer.{Pointer}
use Rattle.byte_store.specs.declared.pointer.Pointer.TheVariants.{At}
use Rattle.byte_store.specs.declared.pointer.Base.TheVariants.{Fixed}
use Rattle.byte_store.specs.declared.pointer.Word.{Word}
use Rattle.byte_store.specs.Worlds.{Surroundings, next_byte, rest_of}
use Rattle.byte_store.specs.Blocks.{Memory, Block, Bytes, Cells, next_number}
use Rattle.byte_store.specs.Operations as store
use Rattle.byte_store.specs.Operations.{and_then, is_size, Allocation}
use Rattle.ps_prims.specs.declared.stages.Stage.{Stage}
use Rattle.ps_prims.specs.declared.stages.Stage.TheVariants.{Compile, Run}
use Rattle.ps_prims.specs.declared.stages.Stages.{Stages}
use Rattle.ps_prims.specs.Sorts.{Sort, Meant, Taking}

-- the memory and the world that a primitive is performed in
pub record Scene (V : Type 0) : Type 0 where
  pub memory : Memory V
  pub world : Surroundings

-- the answer, the memory and the world after, and what was seen from outside
pub record Done (V X : Type 0) : Type 0 where
  pub answer : X
  pub memory : Memory V
  pub world : Surroundings
  pub events : List Event

-- what is done at a stage in a scene: it is done, or it is undefined by a cause
abbrev pub Act : Type 0 → Type 0 → Type 0
Act V X = Stage → Scene V → Result (Done V X) Op

abbrev pub byte_of : ℤ → Result ℤ Op
byte_of (pos n) = if nat_lt n 256 then Ok (pos n) else Err ops.Byte
byte_of (negsuc n) = Err ops.Byte

-- what is not seen from outside
abbrev pub unseen : {X : Type 0} → X → List Event
unseen x = []

module _ {V : Type 0} where
  -- nothing is done, and the answer is this one, or a cause
  abbrev pub answers : {X : Type 0} → Result X Op → Act V X
  answers r stage s = and_then r (λ x. Ok (record { answer = x; memory = s.memory; world = s.world; events = [] }))

  abbrev pub gives : {X : Type 0} → X → Act V X
  gives x stage s = Ok (record { answer = x; memory = s.memory; world = s.world; events = [] })

  -- the memory is looked at, and what is found is seen
  abbrev pub finds : {X : Type 0} → (Memory V → Result X Op) → (X → List Event) → Act V X
  finds look told stage s = and_then (look s.memory) (λ x. Ok (record { answer = x; memory = s.memory; world = s.world; events = told x }))

  -- the memory is changed, and this is seen
  abbrev pub changes : (Memory V → Result (Memory V) Op) → Event → Act V (Unit {0})
  changes change event stage s =
      and_then (change s.memory) (λ m. Ok (record { answer = tt; memory = m; world = s.world; events = event ∷ [] }))

  -- a block is made, and this is seen
  abbrev pub makes : (Memory V → Surroundings → Result (Allocation V) Op) → (Pointer → Event) → Act V Pointer
  makes make event stage s =
      and_then
      (make s.memory s.world)
      (λ a. Ok (record { answer = a.pointer; memory = a.memory; world = a.world; events = event a.pointer ∷ [] }))

  -- a fixed block is made, the next one
  abbrev pub fixes : Block V → Act V Pointer
  fixes b stage s =
      Ok (record {
        answer = At (Fixed (next_number s.memory.fixed)) (pos 0);
        memory = store.fixed s.memory (next_number s.memory.fixed) b;
        world = s.world;
        events = [];
      })

  -- the next byte of the input
  abbrev pub reads : Act V ℤ
  reads stage s =
      Ok (record {
        answer = next_byte s.world.input;
        memory = s.memory;
        world = record s.world { input = rest_of s.world.input };
        events = events.Input (next_byte s.world.input) ∷ [];
      })

  -- a byte of the output
  abbrev pub writes : ℤ → Act V (Unit {0})
  writes i stage s =
      and_then (byte_of i) (λ b. Ok (record { answer = tt; memory = s.memory; world = s.world; events = events.Output b ∷ [] }))

  -- A vector of so many cells. At compile time it is the next fixed block, and at run time one that uses a grant.
  abbrev pub vector_of : (V → Word) → ℤ → V → Act V Pointer
  vector_of word n x Run s = makes (λ m w. store.allocate_cells m w n (Some x)) (λ p. events.Fill n (word x) p) Run s
  vector_of word (pos n) x Compile s = if is_size n then fixes (Cells (replicate n (Some x))) Compile s else Err ops.Size
  vector_of word (negsuc n) x Compile s = Err ops.Size

  -- a string of two, one behind the other, which is the next fixed block
  abbrev pub appended : Pointer → Pointer → Act V Pointer
  appended p q stage s =
      and_then (store.text s.memory p) (λ a. and_then (store.text s.memory q) (λ b. fixes (Bytes (map Some (a ++ b ++ 0 ∷ []))) stage s))

  -- whether two strings have the same bytes
  abbrev pub equal_texts : Memory V → Pointer → Pointer → Result Bool Op
  equal_texts m p q = and_then (store.text m p) (λ a. and_then (store.text m q) (λ b. Ok (bytes_eq a b)))

-- ---- rows

-- the sorts of the operands and of the answer, the stages to which the row belongs, and what it does
pub record Row (V : Type 0) : Type 0 where
  pub operands : List Sort
  pub answer : Sort
  pub stages : Stages
  pub does : Taking V operands (Act V (Meant V answer))
