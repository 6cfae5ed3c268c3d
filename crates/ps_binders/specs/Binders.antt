-- What binds: lambdas (R5RS 4.1.4), bodies with definitions (5.2.2), letrec (4.2.2), named let and do (4.2.4), assignment (4.1.6), and
-- local macros (4.3.1). Each makes its node before its parts. What binds several locals numbers them from left to right, and a letrec
-- numbers its locals and its lambdas before it goes into these lambdas.
use Rattle.std.specs.Prelude.{ℕ, Bool, true, false, List, [], ◌∷◌, ◌++◌, length, map, Option, Some, None}
use Rattle.ps_base.specs.declared.faults.FormKind.TheVariants.{BadForm, Unbound}
use Rattle.ps_base.specs.declared.faults.Place.{Place}
use Rattle.ps_base.specs.declared.language.Core.TheVariants as core
use Rattle.ps_bodies.specs.Bodies.{Value, Written, Performs, Procedure, Member, Headed, decided_forms, decided_definitions}
use Rattle.ps_calls.specs.Applied.{names_in, values_in}
use Rattle.ps_calls.specs.Calls.{calls}
use Rattle.ps_derived.specs.Distinct.{are_distinct}
use Rattle.ps_derived.specs.PartsOf.{PartsOf, BindingOf, LoopBindingOf, MacroOf}
use Rattle.ps_derived.specs.PartsOf as d
use Rattle.ps_expansion.specs.Apart.{parts_at}
use Rattle.ps_expansion.specs.Levels.{down, passed, inner}
use Rattle.ps_expansion.specs.Macros.{bind_macros, add_macros}
use Rattle.ps_expansion.specs.Names.{primitive_inside}
use Rattle.ps_expansion.specs.States.{Task, State, node, next_local, next_locals, next_lambda}
use Rattle.ps_expansion.specs.declared.level.Level.{Level}
use Rattle.ps_hygiene.specs.Meanings.{meaning}
use Rattle.ps_hygiene.specs.Runs.{Run, ◌>>=◌, ◌>>◌, pure, stop}
use Rattle.ps_hygiene.specs.declared.meaning.Meant.{Meant}
use Rattle.ps_kernel.specs.declared.expr.GroupEntry.{GroupEntry}
use Rattle.ps_pattern.specs.declared.binding.Binding.{Binding}
use Rattle.ps_pattern.specs.declared.binding.Binding.TheVariants as b
use Rattle.ps_pattern.specs.declared.syntax.Ident.{Ident}
use Rattle.ps_pattern.specs.declared.syntax.Syntax.{Syntax}
use Rattle.ps_plans.specs.Nodes.{Plan, Same, Of, Staged, InsideOf, Begin, If, SetLocal, SetGlobal, Lambda, Group, Loop, Locals, Keywords, in_row, staged, staged_forms, staged_row}
use Rattle.ps_plans.specs.Parts.{Operand, Given, Held, Part, One, Settled, Body, Alone, Row, Mention, Expressions, Sequence, Values, RoundOf, Round, Commands, Again, givens}
use Rattle.ps_scope.specs.Environments.{Env}

-- the locals and lambdas of a letrec
abbrev pub entries : List ℕ → List Member → List GroupEntry
entries [] ms = []
entries (l ∷ ls) [] = []
entries (l ∷ ls) (m ∷ ms) = record { local = l; lambda = m.lambda } ∷ entries ls ms

-- a variable without a step stays
abbrev pub step_of : Place → ℕ → Option Syntax → Operand
step_of at x None = Held at x
step_of at x (Some f) = Given f

abbrev pub steps : Place → List LoopBindingOf → List ℕ → List Operand
steps at [] ls = []
steps at (v ∷ vs) [] = []
steps at (v ∷ vs) (x ∷ ls) = step_of at x v.step ∷ steps at vs ls

abbrev pub loop_names : List LoopBindingOf → List Ident
loop_names vs = map (λ v. v.name) vs

abbrev pub firsts : List LoopBindingOf → List Syntax
firsts vs = map (λ v. v.first) vs

-- a part in which names stand for locals
abbrev pub where_named : Level → List Ident → List ℕ → Part → Staged
where_named l xs ls p = record { level = l; scope = Locals xs ls; part = p }

-- a part in which keywords stand for macros in a row
abbrev pub where_keyed : Level → List MacroOf → ℕ → Part → Staged
where_keyed l ms m p = record { level = l; scope = Keywords ms m; part = p }

-- the body of the lambda of a number whose parameters have these locals
abbrev pub body_inside : Level → ℕ → Place → List Ident → List ℕ → Part → InsideOf
body_inside l n at xs ls p = record { number = n; place = at; parameters = ls; body = where_named l xs ls p }

-- the parameters of the lambda of a number, and its body
abbrev pub lambda_inside : Level → ℕ → Place → List Ident → List Syntax → Run State InsideOf
lambda_inside l n at xs fs = next_locals (length xs) >>= (λ ls. pure (body_inside l n at xs ls (Body at fs)))

-- the same, where the parameters differ
abbrev pub procedure_inside : Level → ℕ → Place → List Ident → List Syntax → Bool → Run State InsideOf
procedure_inside l n at xs fs true = lambda_inside l n at xs fs
procedure_inside l n at xs fs false = stop BadForm at

-- a letrec of one local, and the first call of its lambda, whose operands stand outside
abbrev pub loop_at : Level → Place → ℕ → InsideOf → List Operand → Plan
loop_at l at x i ps = Of at (Loop x i (staged (passed l) (Row (Again at x ps))))

module _ (task : Task) where
  -- ---- lambdas

  abbrev pub lambdas : Level → Place → List Ident → List Syntax → Run State Plan
  lambdas l at xs fs = do
    node task.limits l.left at
    n ← next_lambda at
    i ← lambda_inside (inner l) n at xs fs
    pure (Of at (Lambda i))

  -- ---- the lambdas of a letrec

  abbrev pub written_inside : Level → ℕ → Place → PartsOf → Run State InsideOf
  written_inside l n at (d.Lambda xs fs) = lambda_inside l n at xs fs
  written_inside l n at other = stop BadForm at

  abbrev pub written : Level → Env → ℕ → Syntax → Run State InsideOf
  written l env n g = parts_at task env core.Lambda g >>= written_inside l n g.place

  -- what the lambda of a value is; that of a primitive is finished at once
  abbrev pub value_inside : Level → Env → ℕ → Value → Run State (Option InsideOf)
  value_inside l env n (Written g) = written l env n g >>= (λ i. pure (Some i))
  value_inside l env n (Performs at q) = primitive_inside task.limits l n at q >> pure None
  value_inside l env n (Procedure at xs fs) = procedure_inside l n at xs fs (are_distinct xs) >>= (λ i. pure (Some i))

  unfoldable pub inside : Level → Env → Member → Run State (Option InsideOf)
  inside l env m = value_inside l env m.lambda m.value

  -- ---- bodies

  -- an expression that is no macro use, and others behind it
  abbrev pub begins_with : Level → Place → Syntax → List Syntax → Run State Plan
  begins_with l at x fs = node task.limits l.left at >> pure (Of at (Begin (staged (in_row l fs) (Settled x) ∷ staged_row l fs)))

  -- what stands behind the definitions of a body
  abbrev pub expressions_row : Level → Place → Syntax → List Syntax → Run State Plan
  expressions_row l at x [] = pure (Same (staged l (Settled x)))
  expressions_row l at x (y ∷ more) = begins_with l at x (y ∷ more)

  -- definitions are a letrec, in which the expressions stand
  abbrev pub defining : Level → Place → Headed → Run State Plan
  defining l at h = do
    node task.limits l.left at
    ms ← decided_definitions task h.env h.definitions []
    pure (Of at (Group (entries h.locals ms) (inner l) ms (staged (passed l) (Row (Expressions at h.first h.more)))))

  -- a body, once its head is read and its names are bound
  abbrev pub headed_by : Level → Place → Headed → List Syntax → Run State Plan
  headed_by l at h [] = begins_with l at h.first h.more
  headed_by l at h (g ∷ gs) = defining l at h

  -- one that makes a node also where it is a single expression, and one that then makes none
  abbrev pub headed : Level → Place → Headed → Run State Plan
  headed l at h = headed_by l at h h.definitions

  abbrev pub bare_by : Level → Place → Headed → List Syntax → Run State Plan
  bare_by l at h [] = expressions_row l at h.first h.more
  bare_by l at h (g ∷ gs) = defining l at h

  abbrev pub bare : Level → Place → Headed → Run State Plan
  bare l at h = bare_by l at h h.definitions

  -- ---- letrec

  abbrev pub letrecs : Level → Place → List BindingOf → List Syntax → Run State Plan
  letrecs l at bs fs = do
    node task.limits l.left at
    ls ← next_locals (length bs)
    pure (Same (where_named l (names_in bs) ls (Row (Values at bs ls fs))))

  -- the values, where their names are bound
  abbrev pub values_row : Level → Place → Env → List BindingOf → List ℕ → List Syntax → Run State Plan
  values_row l at env bs ls fs = do
    ms ← decided_forms task env (values_in bs) []
    pure (Of at (Group (entries ls ms) (inner l) ms (staged (passed l) (Body at fs))))

  -- ---- loops

  abbrev pub named_lets : Level → Place → Ident → List BindingOf → List Syntax → Run State Plan
  named_lets l at f bs fs = do
    node task.limits l.left at
    x ← next_local
    n ← next_lambda at
    ls ← next_locals (length bs)
    pure (loop_at l at x (record
        { number = n; place = at; parameters = ls; body = where_named (inner l) (f ∷ names_in bs) (x ∷ ls) (Body at fs) })
        (givens (values_in bs)))

  abbrev pub dos : Level → Place → List LoopBindingOf → Syntax → List Syntax → List Syntax → Run State Plan
  dos l at vs test rs fs = do
    node task.limits l.left at
    x ← next_local
    n ← next_lambda at
    ls ← next_locals (length vs)
    pure (loop_at l at x (body_inside (inner l) n at (loop_names vs) ls (Row (Round at (record
        { local = x; test = test; results = rs; commands = fs; nexts = steps at vs ls })))) (givens (firsts vs)))

  -- a round: the test, the results, and else the next one
  abbrev pub round_row : Level → Place → RoundOf → Run State Plan
  round_row l at r = node task.limits l.left at
      >> pure (Of at (If (staged (down l) (One r.test)) (staged (passed l) (Row (Sequence at r.results)))
      (staged (passed l) (Row (Commands at r.commands r.local r.nexts)))))

  -- the call of a local
  abbrev pub again_row : Level → Place → ℕ → List Operand → Run State Plan
  again_row l at x ps = calls task l at (Row (Mention at x)) ps

  -- the commands in order, and then the next round
  abbrev pub commands_row : Level → Place → List Syntax → ℕ → List Operand → Run State Plan
  commands_row l at [] x ps = again_row l at x ps
  commands_row l at (f ∷ fs) x ps = node task.limits l.left at
      >> pure (Of at (Begin (staged_forms (down l) (f ∷ fs) ++ staged (passed l) (Row (Again at x ps)) ∷ [])))

  -- ---- assignment

  abbrev pub sets_local : Level → Place → ℕ → Syntax → Run State Plan
  sets_local l at x f = node task.limits l.left at >> pure (Of at (SetLocal x (staged (down l) (One f))))

  abbrev pub sets_global : Level → Place → ℕ → Syntax → Run State Plan
  sets_global l at g f = node task.limits l.left at >> pure (Of at (SetGlobal g (staged (down l) (One f))))

  -- a variable may be set that the structure itself defines, in which it is looked up
  abbrev pub sets_by : Level → Place → Place → Syntax → Binding → Bool → Run State Plan
  sets_by l at x_at f (b.Local x) own = sets_local l at x f
  sets_by l at x_at f (b.Global g) true = sets_global l at g f
  sets_by l at x_at f (b.Global g) false = stop BadForm at
  sets_by l at x_at f (b.Unbound x) own = stop Unbound x_at
  sets_by l at x_at f (b.Macro x) own = stop BadForm at
  sets_by l at x_at f (b.Core x) own = stop BadForm at
  sets_by l at x_at f (b.Primitive x) own = stop BadForm at

  abbrev pub sets_meant : Level → Place → Place → Syntax → Meant → Run State Plan
  sets_meant l at x_at f meant = sets_by l at x_at f meant.binding meant.own

  unfoldable pub sets : Level → Place → Place → Env → Ident → Syntax → Run State Plan
  sets l at x_at env x f = λ s. sets_meant l at x_at f (meaning s.world env x) s

  -- ---- local macros

  -- macros whose rules stand in an environment, and a body that sees them
  abbrev pub macros_in : Level → Place → Env → List MacroOf → ℕ → List Syntax → Run State Plan
  macros_in l at rules_env ms m fs = add_macros task rules_env ms
      >> pure (Same (where_keyed l ms m (Alone at fs)))

  -- the rules stand outside
  unfoldable pub let_macros : Level → Place → Env → List MacroOf → List Syntax → Run State Plan
  let_macros l at env ms fs = λ s. macros_in l at env ms (length s.world.rules) fs s

  -- the rules see the macros
  unfoldable pub letrec_macros : Level → Place → Env → List MacroOf → List Syntax → Run State Plan
  letrec_macros l at env ms fs = λ s. macros_in l at (bind_macros ms (length s.world.rules) env) ms (length s.world.rules) fs s
