-- What the evaluation of the forms of a kernel answers (this project's own).
--
-- Read `ComesTo limits r m end` as: the answer r, with the store m left behind, is the end of the forms. Want of memory says
-- nothing of it.
use Rattle.std.specs.Prelude.{◌≡◌, List, Option, Some, None, Result, Ok, Err}
use Rattle.ps_base.specs.declared.limits.Limits.{Limits}
use Rattle.ps_base.specs.declared.faults.Fault.{Fault}
use Rattle.ps_base.specs.declared.faults.Fault.TheVariants.{StaticWrong, StaticUndefined, StaticRunOnly, BudgetSpent, CellsSpent}
use Rattle.ps_base.specs.declared.faults.Refusal.{Refusal}
use Rattle.ps_base.specs.declared.faults.Refusal.TheVariants as refusal
use Rattle.byte_store.specs.declared.pointer.Value.{Value}
use Rattle.byte_store.specs.Blocks.{Memory}
use Rattle.byte_store.specs.Outcome.{Returned, Running, Undefined, Wrong, StoppedAtCells, Stuck}
use Rattle.ps_runs.specs.Runs.{Halt, Ends, RunOnly}
use Rattle.ps_meaning.specs.Source.{TopEnd, Finished, Halted}

-- the fault of a run that stops; at compile time none returns, and none is stuck
abbrev pub fault_of : Limits → Halt → Option Fault
fault_of limits (Ends (Returned i)) = None
fault_of limits (Ends Running) = Some (BudgetSpent limits.budget)
fault_of limits (Ends (Undefined op at)) = Some (StaticUndefined op at)
fault_of limits (Ends (Wrong at)) = Some (StaticWrong at)
fault_of limits (Ends StoppedAtCells) = Some (CellsSpent limits.cells)
fault_of limits (Ends (Stuck op)) = None
fault_of limits (RunOnly at) = Some (StaticRunOnly at)

-- the forms stop, and this is the fault
pub record Refuses (limits : Limits) (f : Fault) (end : TopEnd) : Type 0 where
  pub halt : Halt
  pub stops : end ≡ Halted halt
  pub fault : fault_of limits halt ≡ Some f

abbrev pub ComesTo : Limits → Result (List (Option Value)) Refusal → Memory Value → TopEnd → Type 0
ComesTo limits (Ok globals) m end = end ≡ Finished globals m
ComesTo limits (Err (refusal.Fault f)) m end = Refuses limits f end
ComesTo limits (Err refusal.NoMemory) m end = Unit {0}
