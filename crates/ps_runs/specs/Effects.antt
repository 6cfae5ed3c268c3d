-- The words of runs about calls, definitions, cells and primitives (this project's own).
use Rattle.std.specs.Prelude.{ℕ, zero, suc, max, ◌-◌, nat_le, List, ◌++◌, Option, Some, None, is_some, slice_get, slice_set, if◌then◌else◌}
use Rattle.ps_base.specs.declared.faults.Place.{Place}
use Rattle.byte_store.specs.Outcome.{Running, Undefined, Wrong, StoppedAtCells}
use Rattle.ps_prims.specs.Rows.{Scene, Done, Performed, Answers}
use Rattle.ps_prims.specs.Rows as rows
use Rattle.ps_runs.specs.Runs.{State, Goes, Run, Ends, ◌>>=◌, ◌>>◌, pure, stop, or_wrong}

module _ {V : Type 0} where
  -- ---- calls

  abbrev pub take_one : ℕ → Run V (Unit {0})
  take_one zero = stop (Ends Running)
  take_one (suc n) = λ s. Goes tt (record s { calls = n })

  -- One procedure is entered, of those that may be. Where none may, the run is still Running.
  abbrev pub take_call : Run V (Unit {0})
  take_call = λ s. take_one s.calls s

  abbrev pub at_depth : ℕ → Run V (Unit {0})
  at_depth d = λ s. Goes tt (record s { deepest = max s.deepest d })

  -- ---- definitions

  abbrev pub value_in : Option (Option V) → Option V
  value_in None = None
  value_in (Some v) = v

  -- the value of a definition, where it has one
  abbrev pub defined_in : ℕ → List (Option V) → Option V
  defined_in g globals = value_in (slice_get globals g)

  -- A definition without a value, since its form was not evaluated yet, is given none by an assignment.
  abbrev pub assigned : ℕ → V → List (Option V) → List (Option V)
  assigned g v globals = if is_some (defined_in g globals) then slice_set globals g (Some v) else globals

  abbrev pub get_globals : Run V (List (Option V))
  get_globals = λ s. Goes s.globals s

  abbrev pub put_globals : List (Option V) → Run V (Unit {0})
  put_globals globals = λ s. Goes tt (record s { globals = globals })

  -- the value of a definition, or Wrong at a place where it has none
  abbrev pub global : Place → ℕ → Run V V
  global at g = get_globals >>= (λ globals. or_wrong at (defined_in g globals))

  abbrev pub set_global : ℕ → V → Run V (Unit {0})
  set_global g v = get_globals >>= (λ globals. put_globals (assigned g v globals))

  -- ---- cells

  abbrev pub pay : ℕ → Option ℕ → Run V (Unit {0})
  pay n None = pure tt
  pay n (Some left) = if nat_le n left then (λ s. Goes tt (record s { cells = Some (left - n) })) else stop (Ends StoppedAtCells)

  -- So many cells are made, of those that may be. Where there are not so many, the run is stopped.
  abbrev pub take_cells : ℕ → Run V (Unit {0})
  take_cells n = λ s. pay n s.cells s

  -- ---- primitives

  -- the memory and the world that a primitive is performed in
  abbrev pub get_scene : Run V (Scene V)
  get_scene = λ s. Goes (record { memory = s.memory; world = s.world }) s

  -- what was done is left behind
  abbrev pub leave : Done V V → Run V V
  leave d = λ s. Goes d.answer (record s { memory = d.memory; world = d.world; events = s.events ++ d.events })

  -- what came of a primitive at a place
  abbrev pub came : Place → Performed V → Run V V
  came at (Answers d) = leave d
  came at (rows.Undefined op) = stop (Ends (Undefined op at))
  came at rows.Wrong = stop (Ends (Wrong at))

  -- A primitive is performed at a place: the cells that it asks for are counted, and then it takes effect.
  abbrev pub performing : Place → (Scene V → ℕ) → (Scene V → Performed V) → Run V V
  performing at asks act = do
    scene ← get_scene
    take_cells (asks scene)
    came at (act scene)
