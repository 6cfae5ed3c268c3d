-- Laws of the machine.
-- For: larger_bound_keeps, build
use Rattle.std.proofs.Common.{ℕ, ℤ, true, false, List, [], ◌∷◌, Option, Some, None, refl, subst}
use Rattle.std.specs.Prelude.{if◌then◌else◌, slice_get}
use Rattle.ps_base.specs.declared.faults.Op.{Op}
use Rattle.ps_base.specs.declared.faults.Op.TheVariants.{Overflow, Byte, Unset}
use Rattle.byte_store.specs.declared.event.Event.TheVariants.{Input, Output}
use Rattle.ps_base.specs.Numbers.{fit, byte_of}
use Rattle.byte_store.specs.Outcome.{Begins}
use Rattle.byte_store.specs.Laws.{Deepens}
use Rattle.byte_store.specs.Machine.{Move, Goes, Ends, OnlyAdds}
use Rattle.byte_store.specs.Worlds.{Surroundings, next_byte}
use Rattle.byte_store.proofs.FrontsCompose.{begins_self}
use Rattle.byte_store.proofs.MachinesKeepWhatTheyHave.{machine_keeps, machine_deepens}
use Rattle.c_ast.specs.declared.unit.CFunction.{CFunction}
use Rattle.c_ast.specs.declared.unit.CUnit.{CUnit}
use Rattle.c_ast.specs.declared.unit.Statement.{Statement}
use Rattle.c_ast.specs.declared.unit.Statement.TheVariants as statements
use Rattle.c_meaning.specs.Machine.{State, Caller, CRun, atom_value, values_of, with_value, result_of, is_zero, after_label, body_of, jump, branch, enter, leave, perform, step_at, machine, begin}
use Rattle.c_meaning.specs.Laws.{LargerBoundKeeps}

-- a move only adds events, where it goes on
abbrev Adds : State → Move State → Type 0
Adds s (Goes t) = Begins s.events t.events
Adds s (Ends e) = Unit {0}

with-adds : {A : Type 0} (s : State) (op : Op) (o : Option A) (next : A → Move State) → ((i : A) → Adds s (next i)) → Adds s (with_value op o next)
with-adds s op None next h = tt
with-adds s op (Some i) next h = h i

jump-adds : (s : State) (o : Option (List Statement)) → Adds s (jump s o)
jump-adds s None = tt
jump-adds s (Some left) = begins_self s.events

branch-adds : (body : List Statement) (s : State) (left : List Statement) (n : ℕ) (i : ℤ) → Adds s (branch body s left n i)
branch-adds body s left n i =
    elim (is_zero i) as (λ b. Adds s (if b then Goes (record s { left = left }) else jump s (after_label n body))) [ true ↦ begins_self s.events | false ↦ jump-adds s (after_label n body) ]

enter-adds : (s : State) (left : List Statement) (k n : ℕ) (vs : List ℤ) (o : Option CFunction) → Adds s (enter s left k n vs o)
enter-adds s left k n vs None = tt
enter-adds s left k n vs (Some f) = begins_self s.events

leave-adds : (s : State) (cs : List Caller) (i : ℤ) → Adds s (leave s cs i)
leave-adds s [] i = tt
leave-adds s (c ∷ cs) i = begins_self s.events

perform-adds : (u : CUnit) (s : State) (t : Statement) (left : List Statement) → Adds s (perform u s t left)
perform-adds u s (statements.Move k a) left = with-adds s Unset (atom_value s.locals a) _ (λ i. begins_self s.events)
perform-adds u s (statements.Operation k a o b) left =
    with-adds s Unset (atom_value s.locals a) _ (λ i. with-adds s Unset (atom_value s.locals b) _ (λ j. with-adds s Overflow (fit (result_of o i j)) _ (λ n. begins_self s.events)))
perform-adds u s (statements.Read k) left = record { rest = Input (next_byte s.world.input) ∷ []; is = refl }
perform-adds u s (statements.Write k a) left =
    with-adds s Unset (atom_value s.locals a) _ (λ i. with-adds s Byte (byte_of i) _ (λ b. record { rest = Output b ∷ []; is = refl }))
perform-adds u s (statements.Call k n ks) left = with-adds s Unset (values_of s.locals ks) _ (λ vs. enter-adds s left k n vs (slice_get u.functions n))
perform-adds u s (statements.IfGoto a n) left = with-adds s Unset (atom_value s.locals a) _ (λ i. branch-adds (body_of u s.function) s left n i)
perform-adds u s (statements.Goto n) left = jump-adds s (after_label n (body_of u s.function))
perform-adds u s (statements.Label n) left = begins_self s.events
perform-adds u s (statements.Return a) left = with-adds s Unset (atom_value s.locals a) _ (λ i. leave-adds s s.callers i)

step-adds : (u : CUnit) (s : State) (left : List Statement) → Adds s (step_at u s left)
step-adds u s [] = tt
step-adds u s (t ∷ left) = perform-adds u s t left

only-adds : (u : CUnit) → OnlyAdds (machine u)
only-adds u = record { by = λ s t e. subst (Adds s) e (step-adds u s s.left) }

pub larger_bound : LargerBoundKeeps
larger_bound u w = machine_keeps (machine u) (only-adds u) (begin u w)

-- a larger bound is at least as deep
pub deepens : (u : CUnit) (w : Surroundings) → Deepens (CRun u w)
deepens u w = machine_deepens (machine u) (begin u w)
