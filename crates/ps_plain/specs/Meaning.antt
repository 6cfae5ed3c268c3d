-- What a program does (this project's own, after R5RS 4.1.3; the order of evaluation is fixed: from left to right).
use Rattle.std.specs.Prelude.{ℕ, zero, suc, ℤ, ◌+◌, ◌+ℤ◌, ◌-ℤ◌, ◌*ℤ◌, int_lt, Bool, if◌then◌else◌, nat_eq, List, [], ◌∷◌, length, Option}
use Rattle.std.specs.Prelude.{Some, None, slice_get}
use Rattle.std.specs.Ordering.{int_eq}
use Rattle.ps_base.specs.declared.faults.Place.{Place}
use Rattle.ps_base.specs.declared.faults.Op.TheVariants.{Overflow, Byte}
use Rattle.byte_store.specs.declared.event.Event.TheVariants.{Output}
use Rattle.ps_base.specs.Numbers.{fit, byte_of}
use Rattle.byte_store.specs.Outcome.{Outcome, Outcomes, Returned, Running, Undefined, Wrong}
use Rattle.byte_store.specs.Worlds.{Surroundings}
use Rattle.ps_plain.specs.declared.program.Expr.{Expr, fold-Expr}
use Rattle.ps_plain.specs.declared.program.Expr.TheOpen.{Expr-F}
use Rattle.ps_plain.specs.declared.program.Operator.{Operator}
use Rattle.ps_plain.specs.declared.program.Operator.TheVariants as operators
use Rattle.ps_plain.specs.declared.program.Comparison.{Comparison}
use Rattle.ps_plain.specs.declared.program.Comparison.TheVariants as comparisons
use Rattle.ps_plain.specs.declared.program.Write.{Write}
use Rattle.ps_plain.specs.declared.program.Procedure.{Procedure}
use Rattle.ps_plain.specs.declared.program.Program.{Program}
use Rattle.ps_plain.specs.Run.{State, Step, Goes, Stops, Run, ◌>>=◌, ◌>>◌, pure, stop, known, take_call, at_depth, note, read_byte}

-- where the text begins
abbrev pub start_place : Place
start_place = record { file = 0; line = 1; column = 1 }

-- the result of an operator, which is undefined where it has no 64 bits
abbrev pub result_of : Operator → ℤ → ℤ → ℤ
result_of operators.Add x y = x +ℤ y
result_of operators.Subtract x y = x -ℤ y
result_of operators.Multiply x y = x *ℤ y

abbrev pub holds : Comparison → ℤ → ℤ → Bool
holds comparisons.Less x y = int_lt x y
holds comparisons.Equal x y = int_eq x y

-- what it does to enter a procedure: the place of the call, the depth of the procedure's body, its number, and the operands
abbrev pub Enter : Type 0
Enter = Place → ℕ → ℕ → List ℤ → Run ℤ

-- where an expression is evaluated: what a call does, the depth, and the values of the parameters
pub record Context : Type 0 where
  pub enter : Enter
  pub depth : ℕ
  pub arguments : List ℤ

abbrev pub Meaning : Type 0
Meaning = Context → Run ℤ

-- the values of some parts, from left to right
abbrev pub each : List Meaning → Context → Run (List ℤ)
each [] c = pure []
each (m ∷ ms) c = do
  v ← m c
  vs ← each ms c
  pure (v ∷ vs)

-- one node, where its parts' meanings stand for them; every call nests
abbrev pub meaning_of : Expr-F Meaning → Meaning
meaning_of (Expr-F.Integer p i) c = pure i
meaning_of (Expr-F.Parameter p k) c = known (Wrong p) (slice_get c.arguments k)
meaning_of (Expr-F.Operation p o a b) c = do
  x ← a c
  y ← b c
  known (Undefined Overflow p) (fit (result_of o x y))
meaning_of (Expr-F.If p at q a b t e) c = do
  x ← a c
  y ← b c
  if holds q x y then t c else e c
meaning_of (Expr-F.Call p at f es) c = do
  vs ← each es c
  c.enter p (c.depth + 1) f vs
meaning_of (Expr-F.ReadByte p) c = read_byte

abbrev pub eval : Expr → Meaning
eval = fold-Expr Meaning meaning_of

-- (write-byte e)
abbrev pub write : Write → Context → Run (Unit {0})
write w c = do
  x ← eval w.value c
  b ← known (Undefined Byte w.place) (byte_of x)
  note (Output b)

abbrev pub write_all : List Write → Context → Run (Unit {0})
write_all [] c = pure tt
write_all (w ∷ ws) c = do
  write w c
  write_all ws c

abbrev pub body : Procedure → Meaning
body q c = do
  write_all q.writes c
  eval q.value c

-- a procedure, where it has n parameters
abbrev pub taking : ℕ → Option Procedure → Option Procedure
taking n None = None
taking n (Some q) = if nat_eq q.parameters n then Some q else None

-- A procedure of the program is entered from a place. It is Wrong there where there is none of this number and number of
-- parameters.
abbrev pub entering : Program → Enter → Enter
entering p enter at d f vs = do
  q ← known (Wrong at) (taking (length vs) (slice_get p.procedures f))
  take_call
  at_depth d
  body q (record { enter = enter; depth = d; arguments = vs })

-- The same, where procedures may be entered n + 1 deep. The calls that are left are counted by the state, and never more
-- than these.
abbrev pub enters : Program → ℕ → Enter
enters p zero = entering p (λ at d f vs. stop Running)
enters p (suc n) = entering p (enters p n)

abbrev pub outcome : Step ℤ → Outcome
outcome (Goes i s) = record { events = s.events; depth = s.deepest; end = Returned i }
outcome (Stops end s) = record { events = s.events; depth = s.deepest; end = end }

-- the state before the call of main
abbrev pub start : ℕ → Surroundings → State
start n w = record { calls = n; world = w; events = []; deepest = 0 }

abbrev pub definition_place : Option Procedure → Place
definition_place None = start_place
definition_place (Some q) = q.place

-- from where main is entered: the place of its definition
abbrev pub main_place : Program → Place
main_place p = definition_place (slice_get p.procedures 0)

-- the run of a program in a world, where the bound is how many procedures may be entered, main included; the body of main
-- has depth 0
abbrev pub Source : Program → Surroundings → Outcomes
Source p w n = outcome (enters p n (main_place p) 0 0 [] (start n w))
