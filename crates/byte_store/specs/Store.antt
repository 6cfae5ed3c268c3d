-- What a call of a store by code has to do with the operation.
use Rattle.std.specs.Prelude.{◌≡◌, ◌≢◌, ℕ, ℤ, Option, Result, Ok, Err, IsTrue}
use Rattle.ps_base.specs.declared.faults.Op.{Op}
use Rattle.byte_store.specs.declared.pointer.Pointer.{Pointer}
use Rattle.byte_store.specs.declared.pointer.Pointer.TheVariants.{Null}
use Rattle.byte_store.specs.declared.fault.StoreFault.{StoreFault}
use Rattle.byte_store.specs.declared.fault.StoreFault.TheVariants as faults
use Rattle.byte_store.specs.Worlds.{Surroundings}
use Rattle.byte_store.specs.Blocks.{Block, Memory, is_pointer}
use Rattle.byte_store.specs.Operations.{Allocation, set_byte, set_word, put, release, moved, allocate, allocate_cells, fixed}

-- A copy of what the operation answers, or its cause. Want of memory for the copy is free.
abbrev pub Copies : {A : Type 0} → Result A StoreFault → Result A Op → Type 0
Copies (Ok a) answer = answer ≡ Ok a
Copies (Err (faults.Undefined op)) answer = answer ≡ Err op
Copies (Err faults.NoMemory) answer = Unit {0}

module _ {C : Type 0} where
  -- the call leaves what the operation answers, or has the operation's cause and leaves all as it was
  abbrev pub Leaves : Result (Unit {0}) Op → Memory C → Memory C → Result (Memory C) Op → Type 0
  Leaves (Ok done) old new answer = answer ≡ Ok new
  Leaves (Err op) old new answer = (answer ≡ Err op) × (new ≡ old)

  -- the operation makes a block
  pub record MakesBlock (answer : Result (Allocation C) Op) : Type 0 where
    pub allocation : Allocation C
    pub answers : answer ≡ Ok allocation
    pub granted : allocation.pointer ≢ Null

  -- The same of an allocation. Want of memory comes only where a block is to be made, and leaves all as it was, too.
  abbrev pub Allocates : Result Pointer StoreFault → Memory C → Memory C → Surroundings → Surroundings → Result (Allocation C) Op → Type 0
  Allocates (Ok p) old new world world' answer = answer ≡ Ok (record { memory = new; world = world'; pointer = p })
  Allocates (Err (faults.Undefined op)) old new world world' answer = (answer ≡ Err op) × (new ≡ old) × (world' ≡ world)
  Allocates (Err faults.NoMemory) old new world world' answer = MakesBlock answer × (new ≡ old) × (world' ≡ world)

  -- each pointer of the one store is a pointer of the other
  abbrev pub KeepsPointers : Memory C → Memory C → Type 0
  KeepsPointers old new = (p : Pointer) → IsTrue (is_pointer old p) → IsTrue (is_pointer new p)

-- what an operation leaves has the pointers that were there
abbrev pub Keeps : {C : Type 0} → Memory C → Result (Memory C) Op → Type 0
Keeps m answer = (new : Memory _) → answer ≡ Ok new → KeepsPointers m new

abbrev pub AllocationKeeps : {C : Type 0} → Memory C → Result (Allocation C) Op → Type 0
AllocationKeeps m answer = (a : Allocation _) → answer ≡ Ok a → KeepsPointers m a.memory × IsTrue (is_pointer a.memory a.pointer)

-- No operation takes a pointer's block away or makes it shorter, and each pointer that one answers is a pointer of the store.
pub record PointersStay (C : Type 0) : Type 0 where
  pub set_byte : (m : Memory C) (p : Pointer) (i : ℤ) → Keeps m (set_byte m p i)
  pub set_word : (m : Memory C) (p : Pointer) (i : ℤ) → Keeps m (set_word m p i)
  pub put : (m : Memory C) (p : Pointer) (at : ℤ) (c : C) → Keeps m (put m p at c)
  pub release : (m : Memory C) (p : Pointer) → Keeps m (release m p)
  pub allocate : (m : Memory C) (w : Surroundings) (size : ℤ) → AllocationKeeps m (allocate m w size)
  pub allocate_cells : (m : Memory C) (w : Surroundings) (count : ℤ) (fill : Option C) → AllocationKeeps m (allocate_cells m w count fill)
  pub fixed : (m : Memory C) (number : ℕ) (b : Block C) → KeepsPointers m (fixed m number b)
  pub moved : (m : Memory C) (p q : Pointer) (by : ℤ) → moved m p by ≡ Ok q → IsTrue (is_pointer m q)
