-- What a unit does: a machine that performs one statement a step (C99 5.1.2.3, 6.5.2.2 and 6.8 in this subset). What C99 leaves
-- undefined, it is stuck at.
use Rattle.std.specs.Prelude.{ℕ, ℤ, pos, negsuc, ◌+◌, ◌+ℤ◌, ◌-ℤ◌, ◌*ℤ◌, int_lt, nat_eq, Bool, false, if◌then◌else◌, List, [], ◌∷◌, ◌++◌, length, map, Option, Some, None, slice_index_or, slice_get, slice_set, replicate}
use Rattle.std.specs.Ordering.{int_eq}
use Rattle.byte_store.specs.declared.event.Event.{Event}
use Rattle.byte_store.specs.declared.event.Event.TheVariants.{Input, Output}
use Rattle.ps_base.specs.declared.faults.Op.{Op}
use Rattle.ps_base.specs.declared.faults.Op.TheVariants.{Overflow, Byte, Unset}
use Rattle.ps_base.specs.Numbers.{fit, byte_of}
use Rattle.byte_store.specs.Outcome.{Outcomes, Returned, Stuck}
use Rattle.byte_store.specs.Machine.{Move, Goes, Ends, Machine, machine_run}
use Rattle.byte_store.specs.Worlds.{Surroundings, next_byte, rest_of}
use Rattle.c_ast.specs.declared.unit.Atom.{Atom}
use Rattle.c_ast.specs.declared.unit.Atom.TheVariants as atoms
use Rattle.c_ast.specs.declared.unit.BinaryOperator.{BinaryOperator}
use Rattle.c_ast.specs.declared.unit.BinaryOperator.TheVariants as operators
use Rattle.c_ast.specs.declared.unit.Statement.{Statement}
use Rattle.c_ast.specs.declared.unit.Statement.TheVariants as statements
use Rattle.c_ast.specs.declared.unit.CFunction.{CFunction}
use Rattle.c_ast.specs.declared.unit.CUnit.{CUnit}

-- The variables of a function, each with its value where it was assigned.
abbrev pub Locals : Type 0
Locals = List (Option ℤ)

-- A frame that waits for the value of a call: its function, its variables, the statements behind the call, and the variable
-- to which the value goes.
pub record Caller : Type 0 where
  pub function : ℕ
  pub locals : Locals
  pub left : List Statement
  pub target : ℕ

-- The frame that runs: its function, its variables, and the statements that are left. The frames that wait, the last one first.
-- The world and the operations so far.
pub record State : Type 0 where
  pub function : ℕ
  pub locals : Locals
  pub left : List Statement
  pub callers : List Caller
  pub world : Surroundings
  pub events : List Event

-- what an atom stands for, where it was assigned
abbrev pub atom_value : Locals → Atom → Option ℤ
atom_value locals (atoms.Variable k) = slice_index_or locals k None
atom_value locals (atoms.Integer i) = Some i

-- what a list of variables stands for, where all were assigned
abbrev pub with_one : Option ℤ → Option (List ℤ) → Option (List ℤ)
with_one None vs = None
with_one (Some v) None = None
with_one (Some v) (Some vs) = Some (v ∷ vs)

abbrev pub values_of : Locals → List ℕ → Option (List ℤ)
values_of locals [] = Some []
values_of locals (k ∷ ks) = with_one (slice_index_or locals k None) (values_of locals ks)

-- goes on with a value that must be there
abbrev pub with_value : {A : Type 0} → Op → Option A → (A → Move State) → Move State
with_value op None next = Ends (Stuck op)
with_value op (Some i) next = next i

-- the variable k is assigned, and the statements that are left follow
abbrev pub assign : State → List Statement → ℕ → ℤ → Move State
assign s left k i = Goes (record s { locals = slice_set s.locals k (Some i); left = left })

-- the result of an operator
abbrev pub result_of : BinaryOperator → ℤ → ℤ → ℤ
result_of operators.Add i j = i +ℤ j
result_of operators.Subtract i j = i -ℤ j
result_of operators.Multiply i j = i *ℤ j
result_of operators.Less i j = if int_lt i j then pos 1 else pos 0
result_of operators.Equal i j = if int_eq i j then pos 1 else pos 0

abbrev pub is_zero : ℤ → Bool
is_zero (pos n) = nat_eq n 0
is_zero (negsuc n) = false

abbrev pub is_label : ℕ → Statement → Bool
is_label n (statements.Label m) = nat_eq m n
is_label n (statements.Move k a) = false
is_label n (statements.Operation k a o b) = false
is_label n (statements.Read k) = false
is_label n (statements.Write k a) = false
is_label n (statements.Call k f vs) = false
is_label n (statements.IfGoto a m) = false
is_label n (statements.Goto m) = false
is_label n (statements.Return a) = false

-- the statements behind a label
abbrev pub after_label : ℕ → List Statement → Option (List Statement)
after_label n [] = None
after_label n (s ∷ ss) = if is_label n s then Some ss else after_label n ss

-- the statements of a function
abbrev pub statements_of : Option CFunction → List Statement
statements_of None = []
statements_of (Some f) = f.statements

abbrev pub body_of : CUnit → ℕ → List Statement
body_of u n = statements_of (slice_get u.functions n)

-- A jump to a label. A well-formed unit has each label to which it jumps.
abbrev pub jump : State → Option (List Statement) → Move State
jump s None = Ends (Stuck Unset)
jump s (Some left) = Goes (record s { left = left })

-- where an `if` goes on: it jumps where its value is not 0
abbrev pub branch : List Statement → State → List Statement → ℕ → ℤ → Move State
branch body s left n i = if is_zero i then Goes (record s { left = left }) else jump s (after_label n body)

-- the next byte of the input is taken, and goes to the variable k
abbrev pub read : State → List Statement → ℕ → Move State
read s left k =
    let byte = next_byte s.world.input in
    Goes (record s {
      locals = slice_set s.locals k (Some byte);
      left = left;
      world = record s.world { input = rest_of s.world.input };
      events = s.events ++ Input byte ∷ [];
    })

-- a byte is written, and the variable k is 0
abbrev pub write : State → List Statement → ℕ → ℤ → Move State
write s left k b = Goes (record s { locals = slice_set s.locals k (Some (pos 0)); left = left; events = s.events ++ Output b ∷ [] })

-- a variable of a function as it is called, which is not assigned yet
abbrev pub unset : ℕ → Locals
unset n = replicate n None

-- Function f is entered. The frame waits, and its variable k will have the value.
abbrev pub enter : State → List Statement → ℕ → ℕ → List ℤ → Option CFunction → Move State
enter s left k n vs None = Ends (Stuck Unset)
enter s left k n vs (Some f) = Goes (record s {
  function = n;
  locals = map Some vs ++ unset f.locals;
  left = f.statements;
  callers = record { function = s.function; locals = s.locals; left = left; target = k } ∷ s.callers;
})

-- The call of a function ends. Its value goes to the frame that waits, or is the program's.
abbrev pub leave : State → List Caller → ℤ → Move State
leave s [] i = Ends (Returned i)
leave s (c ∷ cs) i = Goes (record s { function = c.function; locals = slice_set c.locals c.target (Some i); left = c.left; callers = cs })

-- One statement of a function. What stands behind it is `left`.
abbrev pub perform : CUnit → State → Statement → List Statement → Move State
perform u s (statements.Move k a) left = with_value Unset (atom_value s.locals a) (λ i. assign s left k i)
perform u s (statements.Operation k a o b) left =
    with_value Unset (atom_value s.locals a) (λ i. with_value Unset (atom_value s.locals b) (λ j.
    with_value Overflow (fit (result_of o i j)) (λ n. assign s left k n)))
perform u s (statements.Read k) left = read s left k
perform u s (statements.Write k a) left =
    with_value Unset (atom_value s.locals a) (λ i. with_value Byte (byte_of i) (λ b. write s left k b))
perform u s (statements.Call k n ks) left = with_value Unset (values_of s.locals ks) (λ vs. enter s left k n vs (slice_get u.functions n))
perform u s (statements.IfGoto a n) left = with_value Unset (atom_value s.locals a) (λ i. branch (body_of u s.function) s left n i)
perform u s (statements.Goto n) left = jump s (after_label n (body_of u s.function))
perform u s (statements.Label n) left = Goes (record s { left = left })
perform u s (statements.Return a) left = with_value Unset (atom_value s.locals a) (λ i. leave s s.callers i)

-- The first statement of those that are left. A well-formed unit never comes to their end.
abbrev pub step_at : CUnit → State → List Statement → Move State
step_at u s [] = Ends (Stuck Unset)
step_at u s (t ∷ left) = perform u s t left

abbrev pub machine : CUnit → Machine State
machine u = record { step = λ s. step_at u s s.left; events = λ s. s.events; frames = λ s. 1 + length s.callers }

abbrev pub locals_of : Option CFunction → ℕ
locals_of None = 0
locals_of (Some f) = f.locals

-- the state before the first statement of function 0, where no variable is assigned
abbrev pub begin : CUnit → Surroundings → State
begin u w = record {
  function = 0;
  locals = unset (locals_of (slice_get u.functions 0));
  left = body_of u 0;
  callers = [];
  world = w;
  events = [];
}

-- the run of a unit in a world, where the bound is how many statements may be performed
abbrev pub CRun : CUnit → Surroundings → Outcomes
CRun u w = machine_run (machine u) (begin u w)
