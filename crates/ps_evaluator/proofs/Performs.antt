-- What comes of a primitive on plain values, in the state of a run.
-- For: `perform_row` and `perform_plain`
use Rattle.std.proofs.Common.{◌≡◌, List, map, Bool, true, false, refl, sym, ap, ◌∙◌}
use Rattle.std.specs.Prelude.{if◌then◌else◌, IsTrue}
use Rattle.byte_store.specs.Blocks.{Memory}
use Rattle.byte_store.specs.Worlds.{Surroundings}
use Rattle.ps_base.specs.declared.faults.Op.{Op}
use Rattle.ps_base.specs.declared.faults.Place.{Place}
use Rattle.ps_base.specs.declared.language.PrimName.{PrimName}
use Rattle.ps_base.specs.declared.language.PrimName.TheVariants as prims
use Rattle.byte_store.specs.declared.event.Event.{Event}
use Rattle.byte_store.specs.declared.pointer.Value.{Value}
use Rattle.byte_store.specs.Outcome as ends
use Rattle.ps_types.specs.declared.types.RecordKind.{RecordKind}
use Rattle.ps_prims.specs.declared.outcome.PrimOut.{PrimOut}
use Rattle.ps_prims.specs.declared.stages.Stage.TheVariants.{Run as AtRun}
use Rattle.ps_prims.specs.declared.outcome.PrimOut.TheVariants as out
use Rattle.ps_prims.specs.Sorts.{first_order}
use Rattle.ps_prims.specs.Rows.{Scene, row, perform}
use Rattle.ps_prims.specs.Performing.{Comes, State as Scenes, state}
use Rattle.ps_prims.specs.Cells.{asked_at}
use Rattle.ps_prims.specs.Mapping.{map_performed}
use Rattle.ps_kernel.specs.declared.kernel.Kernel.{Kernel}
use Rattle.ps_runs.specs.Runs.{Run, Goes, Stops, Ends, stop, stopped}
use Rattle.ps_runs.specs.Effects.{came, performing}
use Rattle.ps_meaning.specs.declared.values.RunValue.{RunValue}
use Rattle.ps_meaning.specs.declared.values.RunValue.TheVariants.{Plain}
use Rattle.ps_meaning.specs.Values.{run_values}
use Rattle.ps_meaning.specs.Eval.{belongs, misplaced, operation}
use Rattle.ps_meaning.proofs.PrimitivesKeepTheirRows.{primitives_run}
use Rattle.ps_evaluator.specs.declared.machine.Machine.{Machine}
use Rattle.ps_evaluator.specs.InsideMachine.{state_of}

abbrev pub scene : Machine → Scene Value
scene s = record { memory = s.store; world = s.world }

-- a row belongs to the same stages, whatever values are
pub stages_same : (kinds : List RecordKind) (p : PrimName) → (row run_values kinds p).stages ≡ (row first_order kinds p).stages
stages_same kinds prims.Add = refl
stages_same kinds prims.Subtract = refl
stages_same kinds prims.Multiply = refl
stages_same kinds prims.Quotient = refl
stages_same kinds prims.Remainder = refl
stages_same kinds prims.Modulo = refl
stages_same kinds prims.Equal = refl
stages_same kinds prims.Less = refl
stages_same kinds prims.Greater = refl
stages_same kinds prims.LessOrEqual = refl
stages_same kinds prims.GreaterOrEqual = refl
stages_same kinds prims.IsZero = refl
stages_same kinds prims.IsPositive = refl
stages_same kinds prims.IsNegative = refl
stages_same kinds prims.BitwiseAnd = refl
stages_same kinds prims.BitwiseOr = refl
stages_same kinds prims.BitwiseXor = refl
stages_same kinds prims.BitwiseNot = refl
stages_same kinds prims.ShiftLeft = refl
stages_same kinds prims.ArithmeticShiftRight = refl
stages_same kinds prims.LogicalShiftRight = refl
stages_same kinds prims.Not = refl
stages_same kinds prims.BooleanEqual = refl
stages_same kinds prims.CharEqual = refl
stages_same kinds prims.CharLess = refl
stages_same kinds prims.CharToAscii = refl
stages_same kinds prims.AsciiToChar = refl
stages_same kinds prims.Unspecific = refl
stages_same kinds prims.StringLength = refl
stages_same kinds prims.StringRef = refl
stages_same kinds prims.MakeVector = refl
stages_same kinds prims.VectorRef = refl
stages_same kinds prims.VectorSet = refl
stages_same kinds prims.IsNullVector = refl
stages_same kinds prims.DeallocateVector = refl
stages_same kinds prims.ReadByte = refl
stages_same kinds prims.WriteByte = refl
stages_same kinds prims.NullAddress = refl
stages_same kinds prims.IsNullAddress = refl
stages_same kinds prims.AllocateMemory = refl
stages_same kinds prims.DeallocateMemory = refl
stages_same kinds prims.UnsignedByteRef = refl
stages_same kinds prims.UnsignedByteSet = refl
stages_same kinds prims.WordRef = refl
stages_same kinds prims.WordSet = refl
stages_same kinds prims.AddressAdd = refl
stages_same kinds prims.AddressDifference = refl
stages_same kinds prims.AddressEqual = refl
stages_same kinds prims.AddressLess = refl
stages_same kinds prims.StringAppend = refl
stages_same kinds prims.StringEqual = refl
stages_same kinds prims.VectorLength = refl
stages_same kinds (prims.Maker r) = refl
stages_same kinds (prims.Predicate r) = refl
stages_same kinds (prims.Accessor r f) = refl
stages_same kinds (prims.Modifier r f) = refl

-- a primitive that belongs to run time, by its row on values of first order
pub by_row : (k : Kernel) (at : Place) (p : PrimName) (vs : List Value) (s : Machine) → belongs (row first_order k.kinds p).stages AtRun ≡ true
    → operation k AtRun run_values at p (map Plain vs) (state_of s) ≡ came at (map_performed Plain (perform first_order k.kinds p vs AtRun (scene s))) (state_of s)
by_row k at p vs s is =
    let m : Run RunValue RunValue = performing at (asked_at run_values k.kinds p (map Plain vs) AtRun) (perform run_values k.kinds p (map Plain vs) AtRun) in
    ap (λ (b : Bool). (if b then m else stop (misplaced AtRun at)) (state_of s)) (ap (λ z. belongs z AtRun) (stages_same k.kinds p) ∙ is)
    ∙ ap (λ z. came at z (state_of s)) (primitives_run.performs k.kinds p vs AtRun (scene s))

-- a primitive that does not belong to run time
pub misfit : (k : Kernel) (at : Place) (p : PrimName) (vs : List RunValue) (s : Machine) → belongs (row first_order k.kinds p).stages AtRun ≡ false
    → operation k AtRun run_values at p vs (state_of s) ≡ stop (Ends (ends.Wrong at)) (state_of s)
misfit k at p vs s is =
    let m : Run RunValue RunValue = performing at (asked_at run_values k.kinds p vs AtRun) (perform run_values k.kinds p vs AtRun) in
    ap (λ (b : Bool). (if b then m else stop (misplaced AtRun at)) (state_of s)) (ap (λ z. belongs z AtRun) (stages_same k.kinds p) ∙ is)

module _ (k : Kernel) (at : Place) (p : PrimName) (vs : List Value) (s : Machine) (store : Memory Value) (world : Surroundings) (events : List Event) (belonging : IsTrue (belongs (row first_order k.kinds p).stages AtRun)) where
  abbrev after : Machine
  after = record s { store = store; world = world; events = events }

  abbrev comes : PrimOut → Type 0
  comes o = Comes o (state s.store s.world s.events) (state store world events) (perform first_order k.kinds p vs AtRun (scene s))

  -- it answers
  pub answers : (v : Value) → comes (out.Value v) → operation k AtRun run_values at p (map Plain vs) (state_of s) ≡ Goes (Plain v) (state_of after)
  answers v h =
      by_row k at p vs s belonging
      ∙ ap (λ z. came at (map_performed Plain z) (state_of s)) h.1
      ∙ ap (λ z. Goes (Plain v) (state_of (record s { store = store; world = world; events = z }))) (sym h.2)

  -- it is undefined
  pub undefined : (op : Op) → comes (out.Undefined op) → operation k AtRun run_values at p (map Plain vs) (state_of s) ≡ Stops (Ends (ends.Undefined op at)) (stopped (state_of after))
  undefined op h =
      by_row k at p vs s belonging
      ∙ ap (λ z. came at (map_performed Plain z) (state_of s)) h.0
      ∙ ap (λ (z : Scenes). Stops (Ends (ends.Undefined op at)) (stopped (state_of (record s { store = z.memory; world = z.world; events = z.events })))) (sym h.1)

  -- it is wrong
  pub wrong : comes out.Wrong → operation k AtRun run_values at p (map Plain vs) (state_of s) ≡ Stops (Ends (ends.Wrong at)) (stopped (state_of after))
  wrong h =
      by_row k at p vs s belonging
      ∙ ap (λ z. came at (map_performed Plain z) (state_of s)) h.0
      ∙ ap (λ (z : Scenes). Stops (Ends (ends.Wrong at)) (stopped (state_of (record s { store = z.memory; world = z.world; events = z.events })))) (sym h.1)
