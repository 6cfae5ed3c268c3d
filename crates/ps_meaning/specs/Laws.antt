-- Laws of the source's meaning.
use Rattle.std.specs.Prelude.{◌≡◌, ◌≢◌, ℕ, ◌≤◌, List, Option, Some, None}
use Rattle.byte_store.specs.Agree.{KeepsWhatItHas}
use Rattle.byte_store.specs.Outcome.{Outcome, Begins, Running, StoppedAtCells}
use Rattle.byte_store.specs.Worlds.{Surroundings}
use Rattle.ps_base.specs.declared.faults.Place.{Place}
use Rattle.byte_store.specs.declared.pointer.Value.{Value}
use Rattle.ps_kernel.specs.declared.kernel.Kernel.{Kernel}
use Rattle.ps_meaning.specs.Values.{RunValue}
use Rattle.ps_runs.specs.Runs.{State, Ends}
use Rattle.ps_meaning.specs.Eval.{run_entering, run_enters, compile_entering, compile_enters}
use Rattle.ps_meaning.specs.Source.{Top, Halted, Begun, Runs}

-- what the forms come to within a budget, they come to within a larger one
abbrev pub LargerBudgetKeeps : Type 0
LargerBudgetKeeps = (k : Kernel) (n m cells : ℕ) → n ≤ m → Top k n cells ≢ Halted (Ends Running) → Top k m cells ≡ Top k n cells

-- a larger bound keeps an outcome that is not Running, and extends the events of a Running one, whether cells are counted or not
abbrev pub LargerBoundKeeps : Type 0
LargerBoundKeeps = (b : Begun) (w : Surroundings) (cells : Option ℕ) → KeepsWhatItHas (Runs b w cells)

-- A call with no more calls left than the bound is entering the procedure, where calls are the same. So the bound on nesting
-- is never met before the calls that are left.
abbrev pub CallsEnterProcedures : Type 0
CallsEnterProcedures =
    (k : Kernel) (n d : ℕ) (at : Place) (v : RunValue) (vs : List RunValue) (s : State RunValue) → s.calls ≤ n →
    run_enters k n d at v vs s ≡ run_entering k (run_enters k n) d at v vs s

-- the same at compile time
abbrev pub CompileCallsEnter : Type 0
CompileCallsEnter =
    (k : Kernel) (n d : ℕ) (at : Place) (l : ℕ) (vs : List Value) (s : State Value) → s.calls ≤ n → compile_enters k n d at l vs s ≡
    compile_entering k (compile_enters k n) d at l vs s

-- ---- cells

-- The second does what the first does, unless the first was stopped at its cells: then it goes on.
pub record StopsOnlyAtCells (o p : Outcome) : Type 0 where
  pub stays : o.end ≢ StoppedAtCells → p ≡ o
  pub adds : Begins o.events p.events

-- a limit on cells only stops a run
abbrev pub CellsOnlyStop : Type 0
CellsOnlyStop = (b : Begun) (w : Surroundings) (cells n : ℕ) → StopsOnlyAtCells (Runs b w (Some cells) n) (Runs b w None n)

-- and a higher one stops it later, or never
abbrev pub MoreCellsKeep : Type 0
MoreCellsKeep = (b : Begun) (w : Surroundings) (c d n : ℕ) → c ≤ d → StopsOnlyAtCells (Runs b w (Some c) n) (Runs b w (Some d) n)

-- the same at compile time
abbrev pub MoreCellsKeepForms : Type 0
MoreCellsKeepForms = (k : Kernel) (n c d : ℕ) → c ≤ d → Top k n c ≢ Halted (Ends StoppedAtCells) → Top k n d ≡ Top k n c
