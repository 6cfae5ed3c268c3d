-- What the top-level forms of a kernel come to, and what its program does in a world (R5RS 5.1 and 5.2 in outline; the
-- bounds are this project's own).
use Rattle.std.specs.Prelude.{ℕ, ℤ, suc, nat_le, ◌-◌, List, [], ◌∷◌, length, replicate, Option, Some, None, if◌then◌else◌, slice_get}
use Rattle.std.specs.Prelude.{slice_set}
use Rattle.std.specs.Option.{option_map}
use Rattle.ps_base.specs.declared.faults.Place.{Place}
use Rattle.byte_store.specs.declared.pointer.Value.{Value}
use Rattle.byte_store.specs.Blocks.{Memory}
use Rattle.byte_store.specs.Mapping.{map_memory}
use Rattle.byte_store.specs.Outcome.{Outcomes, StoppedAtCells}
use Rattle.byte_store.specs.Worlds.{Surroundings}
use Rattle.ps_kernel.specs.declared.expr.Expr.{Expr}
use Rattle.ps_kernel.specs.declared.kernel.Kernel.{Kernel}
use Rattle.ps_kernel.specs.declared.kernel.Lambda.{Lambda}
use Rattle.ps_kernel.specs.declared.kernel.Definition.{Definition}
use Rattle.ps_kernel.specs.declared.kernel.Form.{Form}
use Rattle.ps_kernel.specs.declared.kernel.Form.TheVariants.{Define, Do}
use Rattle.ps_prims.specs.Sorts.{and_seen, as_integer}
use Rattle.ps_prims.specs.Cells.{cells_in}
use Rattle.ps_meaning.specs.Values.{RunValue, Plain, Procedure, run_values}
use Rattle.ps_meaning.specs.Literals.{lay_all, numbered}
use Rattle.ps_runs.specs.Runs.{State, Step, Goes, Stops, Run, Halt, Ends, ◌>>=◌, ◌>>◌, pure}
use Rattle.ps_runs.specs.Effects.{get_globals, put_globals, global}
use Rattle.ps_runs.specs.Ends.{outcome}
use Rattle.ps_kernel.specs.Texts.{lambda_in, procedure_of}
use Rattle.ps_meaning.specs.Eval.{CompileEnter, compile, compile_enters, run_enters}

-- ---- compile time

-- what the forms come to: values of definitions and a memory, or why they stop
pub data TopEnd : Type 0 where
  Finished : (globals : List (Option Value)) (memory : Memory Value) → TopEnd
  Halted : (halt : Halt) → TopEnd

-- The form of a procedure definition does nothing.
abbrev pub define : Kernel → CompileEnter → ℕ → Expr → Option ℕ → Run Value (Unit {0})
define k enter g e (Some l) = pure tt
define k enter g e None = do
  v ← compile k enter e 0
  globals ← get_globals
  put_globals (slice_set globals g (Some v))

abbrev pub form : Kernel → CompileEnter → Form → Run Value (Unit {0})
form k enter (Define g e) = define k enter g e (lambda_in e)
form k enter (Do e) = compile k enter e 0 >> pure tt

abbrev pub all_forms : Kernel → CompileEnter → List Form → Run Value (Unit {0})
all_forms k enter [] = pure tt
all_forms k enter (f ∷ fs) = form k enter f >> all_forms k enter fs

-- the memory before the first form: the blocks of the literals
abbrev pub first_memory : Kernel → Memory Value
first_memory k = record { fixed = numbered 0 (lay_all k.literals).blocks; made = [] }

abbrev pub top_start : Kernel → ℕ → ℕ → State Value
top_start k budget cells = record {
  calls = budget;
  cells = Some cells;
  memory = first_memory k;
  globals = replicate (length k.definitions) None;
  locals = [];
  world = record { input = []; grants = [] };
  events = [];
  deepest = 0;
}

abbrev pub top_end : Step Value (Unit {0}) → TopEnd
top_end (Goes u s) = Finished s.globals s.memory
top_end (Stops h s) = Halted h

abbrev pub top_within : Kernel → ℕ → ℕ → TopEnd
top_within k budget left = top_end (all_forms k (compile_enters k budget) k.forms (top_start k budget left))

-- The forms in order, where so many procedures may be entered and so many cells be made. The cells of the literals count
-- before the first form.
abbrev pub Top : Kernel → ℕ → ℕ → TopEnd
Top k budget cells =
    if nat_le (cells_in (lay_all k.literals).blocks) cells
    then top_within k budget (cells - cells_in (lay_all k.literals).blocks)
    else Halted (Ends StoppedAtCells)

-- ---- run time

-- a program: a kernel with the values of definitions and the memory that its forms come to
pub record Program : Type 0 where
  pub kernel : Kernel
  pub globals : List (Option Value)
  pub memory : Memory Value

-- what a run at run time begins from
pub record Begun : Type 0 where
  pub kernel : Kernel
  pub globals : List (Option RunValue)
  pub memory : Memory RunValue

-- the same memory at run time, where cells may come to hold procedures
abbrev pub run_memory : Memory Value → Memory RunValue
run_memory = map_memory Plain

-- a procedure definition has the procedure of its lambda, which keeps nothing
abbrev pub run_global : Option ℕ → Option Value → Option RunValue
run_global (Some l) v = Some (Procedure l [])
run_global None v = option_map Plain v

abbrev pub run_globals : Kernel → ℕ → List (Option Value) → List (Option RunValue)
run_globals k g [] = []
run_globals k g (v ∷ vs) = run_global (procedure_of k g) v ∷ run_globals k (suc g) vs

abbrev pub begun_of : Program → Begun
begun_of p = record { kernel = p.kernel; globals = run_globals p.kernel 0 p.globals; memory = run_memory p.memory }

abbrev pub run_start : Begun → Surroundings → ℕ → Option ℕ → State RunValue
run_start b w calls cells = record {
  calls = calls;
  cells = cells;
  memory = b.memory;
  globals = b.globals;
  locals = [];
  world = w;
  events = [];
  deepest = 0;
}

-- where `main` stands: its lambda, or else its definition
abbrev pub lambda_place : Option Lambda → Place → Place
lambda_place None at = at
lambda_place (Some m) at = m.place

abbrev pub procedure_place : Kernel → Option ℕ → Place → Place
procedure_place k None at = at
procedure_place k (Some l) at = lambda_place (slice_get k.lambdas l) at

abbrev pub start_place : Place
start_place = record { file = 0; line = 1; column = 1 }

abbrev pub definition_place : Option Definition → Place
definition_place None = start_place
definition_place (Some d) = d.place

abbrev pub main_place : Kernel → Place
main_place k = procedure_place k (procedure_of k k.main) (definition_place (slice_get k.definitions k.main))

-- `main` is called without operands at depth 0, where n procedures may be entered
abbrev pub call_main : Kernel → ℕ → Run RunValue RunValue
call_main k n = global (main_place k) k.main >>= (λ v. run_enters k n 0 (main_place k) v [])

-- the integer that a value is
abbrev pub integer_of : RunValue → Option ℤ
integer_of v = and_seen run_values (run_values.seen v) as_integer

-- The run of what was begun in a world, for each number of procedures that may be entered, `main` included; so many cells may
-- be made, or any number.
abbrev pub Runs : Begun → Surroundings → Option ℕ → Outcomes
Runs b w cells n = outcome integer_of (main_place b.kernel) (call_main b.kernel n (run_start b w n cells))

-- the run of a program
abbrev pub Source : Program → Surroundings → Outcomes
Source p w = Runs (begun_of p) w None

-- the same, where so many cells may be made
abbrev pub Traced : Program → Surroundings → ℕ → Outcomes
Traced p w cells = Runs (begun_of p) w (Some cells)
