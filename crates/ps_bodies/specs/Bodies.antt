-- Bodies: definitions at their head, and then expressions (R5RS 5.2.2), and the values of definitions and of letrecs.
use Rattle.std.specs.Prelude.{ℕ, Bool, true, false, List, [], ◌∷◌, ◌++◌, length, if◌then◌else◌}
use Rattle.ps_base.specs.declared.faults.FormKind.TheVariants.{BadForm, LetrecValue}
use Rattle.ps_base.specs.declared.faults.Place.{Place}
use Rattle.ps_base.specs.declared.language.Core.TheVariants as core
use Rattle.ps_base.specs.declared.language.PrimName.{PrimName}
use Rattle.ps_base.specs.declared.language.PrimName.TheVariants as p
use Rattle.ps_derived.specs.PartsOf.{PartsOf, DefinedOf}
use Rattle.ps_derived.specs.PartsOf as d
use Rattle.ps_expansion.specs.Apart.{name_of, parts_at}
use Rattle.ps_pattern.specs.declared.binding.Binding.{Binding}
use Rattle.ps_pattern.specs.declared.binding.Binding.TheVariants as b
use Rattle.ps_pattern.specs.declared.syntax.Ident.{Ident}
use Rattle.ps_pattern.specs.declared.syntax.Syntax.{Syntax}
use Rattle.ps_scope.specs.Environments.{Env, pair_of, word_of, is_among}
use Rattle.ps_hygiene.specs.Forms.{Shape, Name, Special, shape}
use Rattle.ps_hygiene.specs.Runs.{Run, ◌>>=◌, pure, stop}
use Rattle.ps_expansion.specs.States.{Task, State, settled, next_local, next_lambda}

-- ---- what forms are

abbrev pub is_define : Shape → Bool
is_define (Special core.Define) = true
is_define other = false

-- what may stand as the value of a letrec: a lambda as it is written, a primitive, or a procedure by its definition
pub data Value : Type 0 where
  Written : (form : Syntax) → Value
  Performs : (place : Place) (primitive : PrimName) → Value
  Procedure : (place : Place) (parameters : List Ident) (body : List Syntax) → Value

-- a value, and the number of its lambda
pub record Member : Type 0 where
  pub lambda : ℕ
  pub value : Value

abbrev pub by_binding : Place → Place → Binding → Run State Value
by_binding written at (b.Primitive p.NullAddress) = stop LetrecValue written
by_binding written at (b.Primitive q) = pure (Performs at q)
by_binding written at other = stop LetrecValue written

-- a lambda or a primitive is a value, another form is none; the fault's place is that of the value as it is written
abbrev pub value_by : Place → Syntax → Shape → Run State Value
value_by written g (Special core.Lambda) = pure (Written g)
value_by written g (Name meant) = by_binding written g.place meant.binding
value_by written g other = stop LetrecValue written

-- what the head of a body leaves: where its names are bound, the definitions, their locals, and the expressions, of which the first is
-- no macro use
pub record Headed : Type 0 where
  pub env : Env
  pub definitions : List Syntax
  pub locals : List ℕ
  pub first : Syntax
  pub more : List Syntax

-- a definition binds its name from the next form on; no name is defined twice
abbrev pub named_head : Place → ℕ → Env → Ident → Run State ℕ
named_head at n env x = if is_among n env (word_of x) then stop BadForm at else next_local

module _ (task : Task) where
  abbrev pub head_by : Place → ℕ → Env → PartsOf → Run State (Ident × ℕ)
  head_by at n env (d.Define defined) = named_head at n env (name_of defined) >>= (λ l. pure (name_of defined, l))
  head_by at n env other = stop BadForm at

  abbrev pub head_defines : Place → ℕ → Env → Syntax → Run State (Ident × ℕ)
  head_defines at n env g = parts_at task env core.Define g >>= head_by at n env

  abbrev pub Rest : Type 0
  Rest = Env → List Syntax → List ℕ → Run State Headed

  abbrev pub head_is : Rest → Place → Env → List Syntax → List ℕ → Syntax → List Syntax → Bool → Run State Headed
  head_is rest at env ds ls g fs true = head_defines at (length ls) env g
      >>= (λ x. rest (pair_of (word_of x.0) (b.Local x.1) ∷ env) (ds ++ g ∷ []) (ls ++ x.1 ∷ []))
  head_is rest at env ds ls g fs false = pure (record { env = env; definitions = ds; locals = ls; first = g; more = fs })

  -- each head is transcribed where the names so far are bound
  abbrev pub heads : Place → List Syntax → Rest
  heads at [] env ds ls = stop BadForm at
  heads at (f ∷ fs) env ds ls = settled task.limits env f
      >>= (λ g s. head_is (heads at fs) at env ds ls g fs (is_define (shape s.world env g)) s)

  -- ---- values

  abbrev pub decided_form : Env → Syntax → Run State Value
  decided_form env f = settled task.limits env f >>= (λ g s. value_by f.place g (shape s.world env g) s)

  abbrev pub decided_by : Env → Place → PartsOf → Run State Value
  decided_by env at (d.Define (d.Variable x e)) = decided_form env e
  decided_by env at (d.Define (d.Procedure x ps fs)) = pure (Procedure at ps fs)
  decided_by env at other = stop BadForm at

  -- the value of a definition
  abbrev pub decided_definition : Env → Syntax → Run State Value
  decided_definition env g = parts_at task env core.Define g >>= decided_by env g.place

  abbrev pub numbered : Place → Value → Run State Member
  numbered at value = next_lambda at >>= (λ n. pure (record { lambda = n; value = value }))

  -- all values are decided, and their lambdas numbered, before one is entered
  abbrev pub decided_forms : Env → List Syntax → List Member → Run State (List Member)
  decided_forms env [] made = pure made
  decided_forms env (f ∷ fs) made = decided_form env f >>= numbered f.place >>= (λ m. decided_forms env fs (made ++ m ∷ []))

  abbrev pub decided_definitions : Env → List Syntax → List Member → Run State (List Member)
  decided_definitions env [] made = pure made
  decided_definitions env (g ∷ gs) made = decided_definition env g >>= numbered g.place
      >>= (λ m. decided_definitions env gs (made ++ m ∷ []))
