-- What the parts of a step by code have to do with the machine.
use Rattle.std.specs.Prelude.{◌≡◌, ℕ, ℤ, ◌+◌, ◌<◌, List, drop, length, slice_get, Some}
use Rattle.byte_store.specs.declared.event.Event.{Event}
use Rattle.byte_store.specs.Worlds.{Surroundings}
use Rattle.c_ast.specs.declared.unit.CUnit.{CUnit}
use Rattle.c_ast.specs.WellFormed.{IsStatement}
use Rattle.c_ast.specs.declared.unit.Atom.{Atom}
use Rattle.c_ast.specs.declared.unit.Statement.{Statement}
use Rattle.c_ast.specs.declared.unit.Statement.TheVariants as statements
use Rattle.c_meaning.specs.Machine.{Locals, after_label, body_of, jump, leave, perform}
use Rattle.c_meaning.specs.declared.stack.Waiting.{Waiting}
use Rattle.c_meaning.specs.Stack.{Stack}
use Rattle.c_meaning.specs.Steps.{callers_of, machine_state, IsMove}
use Rattle.c_meaning.specs.declared.machine.StepOut.{StepOut}

-- a frame that waits has the variable to which the value goes
abbrev pub HasTarget : Waiting → Type 0
HasTarget c = c.target < length c.locals

-- the statement is the next one of the function that runs
abbrev pub IsNext : CUnit → Stack → Statement → Type 0
IsNext u s t = slice_get (body_of u s.function) s.next ≡ Some t

-- the statement names variables of the frame alone
abbrev pub NamesOwn : Locals → Statement → Type 0
NamesOwn locals t =
    (labels : ℕ) × (functions : List ℕ) × IsStatement (record { variables = length locals; labels = labels; functions = functions }) t

-- the code's performance of a statement is the machine's
abbrev pub Performs : StepOut → CUnit → Statement → Stack → Stack → Surroundings → Surroundings → List Event → List Event → Type 0
Performs out u t s s' w w' e e' =
    IsMove out (perform u (machine_state u s w e) t (drop (s.next + 1) (body_of u s.function))) u s s' w w' e e'

-- the same of a statement that neither reads nor writes a byte
abbrev pub PerformsQuietly : StepOut → CUnit → Statement → Stack → Stack → Type 0
PerformsQuietly out u t s s' = (w : Surroundings) (e : List Event) → Performs out u t s s' w w e e

-- the same of one that names nothing of its unit
abbrev pub PerformsAnywhere : StepOut → Statement → Stack → Stack → Type 0
PerformsAnywhere out t s s' = (u : CUnit) → PerformsQuietly out u t s s'

-- the same of one that reads a byte, in each unit
abbrev pub Reads : StepOut → ℕ → Stack → Stack → Surroundings → Surroundings → List Event → List Event → Type 0
Reads out k s s' w w' e e' = (u : CUnit) → Performs out u (statements.Read k) s s' w w' e e'

-- the same of one that writes a byte, in each unit and world
abbrev pub Writes : StepOut → ℕ → Atom → Stack → Stack → List Event → List Event → Type 0
Writes out k a s s' e e' = (u : CUnit) (w : Surroundings) → Performs out u (statements.Write k a) s s' w w e e'

-- a jump by code to a label of the function that runs
abbrev pub Jumps : StepOut → CUnit → ℕ → Stack → Stack → Type 0
Jumps out u n s s' =
    (w : Surroundings) (e : List Event) → IsMove out (jump (machine_state u s w e) (after_label n (body_of u s.function))) u s s' w w e e

-- the end of a call by code, in each unit
abbrev pub Leaves : StepOut → ℤ → Stack → Stack → Type 0
Leaves out i s s' =
    (u : CUnit) (w : Surroundings) (e : List Event) → IsMove out (leave (machine_state u s w e) (callers_of u s.callers) i) u s s' w w e e
