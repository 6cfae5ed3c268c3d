-- What an expression does at compile time and at run time (R5RS 4.1 and 4.2 for the forms; the order of evaluation is
-- fixed: the operator, and then the operands from left to right; the two stages and the depths are this project's own).
--
-- Read `run_node` and `compile_node` as two tables with a row for each form: a row says what a form does at a place and at a
-- depth, when it is known what its parts do. A call does what `enter` does, which `entering` says for each stage: it enters
-- the body of a procedure, which is one deeper for a call that nests. The words are those of runs: locals, cells and the rest
-- are in the state of the run.
use Rattle.std.specs.Prelude.{ℕ, zero, suc, ℤ, pos, ◌+◌, Bool, true, false, List, [], ◌∷◌, ◌++◌, length, map, nat_eq, Option, Some, None, is_some}
use Rattle.std.specs.Prelude.{if◌then◌else◌, slice_get}
use Rattle.std.specs.Option.{option_map}
use Rattle.std.specs.List.{list_any}
use Rattle.ps_base.specs.declared.faults.Place.{Place}
use Rattle.ps_base.specs.declared.language.PrimName.{PrimName}
use Rattle.byte_store.specs.declared.pointer.Value.{Value}
use Rattle.byte_store.specs.declared.pointer.Value.TheVariants as value
use Rattle.byte_store.specs.declared.pointer.Pointer.TheVariants.{Null}
use Rattle.byte_store.specs.Outcome.{Running, Wrong}
use Rattle.ps_prims.specs.declared.stages.Stage.{Stage}
use Rattle.ps_prims.specs.declared.stages.Stage.TheVariants.{Compile, Run as AtRun}
use Rattle.ps_prims.specs.declared.stages.Stages.{Stages}
use Rattle.ps_prims.specs.declared.stages.Stages.TheVariants.{Both, CompileOnly, RunOnly as AtRunOnly}
use Rattle.ps_prims.specs.Sorts.{Values, first_order, and_seen, as_boolean, as_char, as_integer}
use Rattle.ps_prims.specs.Rows.{row, perform}
use Rattle.ps_prims.specs.Cells.{asked_at}
use Rattle.ps_runs.specs.Runs.{Env, Run, Halt, Ends, RunOnly, ◌>>=◌, ◌>>◌, pure, stop, or_wrong}
use Rattle.ps_runs.specs.Locals.{push_all, get_locals, local, set_local, with_pairs, binding, within}
use Rattle.ps_runs.specs.Effects.{take_call, at_depth, global, set_global, performing}
use Rattle.ps_kernel.specs.declared.expr.CaseKind.{CaseKind}
use Rattle.ps_kernel.specs.declared.expr.CaseKind.TheVariants as kinds
use Rattle.ps_kernel.specs.declared.expr.Constant.{Constant}
use Rattle.ps_kernel.specs.declared.expr.Constant.TheVariants as constants
use Rattle.ps_kernel.specs.declared.expr.GroupEntry.{GroupEntry}
use Rattle.ps_kernel.specs.declared.expr.Expr.{Expr, fold-Expr}
use Rattle.ps_kernel.specs.declared.expr.ExprKind.TheOpen.{ExprKind-F}
use Rattle.ps_kernel.specs.declared.kernel.Kernel.{Kernel}
use Rattle.ps_kernel.specs.declared.kernel.Lambda.{Lambda}
use Rattle.ps_kernel.specs.Rules.{is_among}
use Rattle.ps_kernel.specs.Texts.{entry_of, procedure_of}
use Rattle.ps_kernel.specs.Scoped.{captured_of, mentioned}
use Rattle.ps_meaning.specs.Values.{RunValue, Plain, Procedure, Closure, as_procedure, run_values, pairs_of, only}
use Rattle.ps_meaning.specs.Literals.{lay_all}

-- ---- what a kernel says of its numbers

module _ (k : Kernel) where
  -- the value of a literal
  abbrev pub literal : ℕ → Option Value
  literal q = slice_get (lay_all k.literals).values q

  abbrev pub constant : Constant → Option Value
  constant (constants.Integer i) = Some (value.Integer i)
  constant (constants.Boolean b) = Some (value.Boolean b)
  constant (constants.Char c) = Some (value.Char c)
  constant constants.Unit = Some value.Unit
  constant constants.NullAddress = Some (value.Address Null)
  constant (constants.Quoted q) = literal q

  abbrev pub parameters_fit : ℕ → Lambda → Bool
  parameters_fit n m = nat_eq (length m.parameters) n

  abbrev pub fitting : ℕ → Option Lambda → Option Lambda
  fitting n None = None
  fitting n (Some m) = if parameters_fit n m then Some m else None

  -- a lambda with so many parameters
  abbrev pub lambda_of : ℕ → ℕ → Option Lambda
  lambda_of n l = fitting n (slice_get k.lambdas l)

-- ---- what both stages have in common

-- what an expression does at a depth
abbrev pub Meaning : Type 0 → Type 0
Meaning V = ℕ → Run V V

-- a row that does not belong to the stage has a meaning at run time alone, or is Wrong there
abbrev pub belongs : Stages → Stage → Bool
belongs Both stage = true
belongs CompileOnly Compile = true
belongs CompileOnly AtRun = false
belongs AtRunOnly Compile = false
belongs AtRunOnly AtRun = true

abbrev pub misplaced : Stage → Place → Halt
misplaced Compile at = RunOnly at
misplaced AtRun at = Ends (Wrong at)

-- a branch of a case: its labels, and what its expression does
pub record Choice (V : Type 0) : Type 0 where
  pub labels : List ℤ
  pub does : Meaning V

-- the first branch that has the label, or else the last expression
abbrev pub chosen : {V : Type 0} → ℤ → List (Choice V) → Meaning V → Meaning V
chosen i [] e = e
chosen i (b ∷ bs) e = if is_among i b.labels then b.does else chosen i bs e

-- the stage and the values
module _ {V : Type 0} (k : Kernel) (stage : Stage) (values : Values V) where
  -- parts from left to right, and their values
  abbrev pub each : List (Meaning V) → ℕ → Run V (List V)
  each [] d = pure []
  each (m ∷ ms) d = do
    v ← m d
    vs ← each ms d
    pure (v ∷ vs)

  -- parts from left to right, and the value of the last
  abbrev pub in_order : Place → List (Meaning V) → Meaning V
  in_order at [] d = stop (Ends (Wrong at))
  in_order at (m ∷ []) d = m d
  in_order at (m ∷ n ∷ ms) d = m d >> in_order at (n ∷ ms) d

  abbrev pub either : Bool → Run V V → Run V V → Run V V
  either true p q = p
  either false p q = q

  -- a test is a boolean
  abbrev pub branch : Place → Meaning V → Meaning V → Meaning V → Meaning V
  branch at a b c d = do
    v ← a d
    t ← or_wrong at (and_seen values (values.seen v) as_boolean)
    either t (b d) (c d)

  abbrev pub let_in : ℕ → Meaning V → Meaning V → Meaning V
  let_in x a b d = a d >>= (λ v. binding x v (b d))

  abbrev pub set_definition : ℕ → Meaning V → Meaning V
  set_definition g a d = do
    v ← a d
    set_global g v
    pure (values.of value.Unit)

  abbrev pub set_variable : Place → ℕ → Meaning V → Meaning V
  set_variable at x a d = do
    v ← a d
    set_local at x v
    pure (values.of value.Unit)

  -- the label that a value is
  abbrev pub label_of : CaseKind → V → Option ℤ
  label_of kinds.Integer v = and_seen values (values.seen v) as_integer
  label_of kinds.Char v = option_map pos (and_seen values (values.seen v) as_char)

  -- a key is a label of its case's kind
  abbrev pub case_of : Place → CaseKind → Meaning V → List (Choice V) → Meaning V → Meaning V
  case_of at kind a bs e d = do
    v ← a d
    i ← or_wrong at (label_of kind v)
    chosen i bs e d

  -- a primitive of these values
  abbrev pub operation : Place → PrimName → List V → Run V V
  operation at p vs =
      if belongs (row values k.kinds p).stages stage
      then performing at (asked_at values k.kinds p vs stage) (perform values k.kinds p vs stage)
      else stop (misplaced stage at)

  abbrev pub primitive : Place → PrimName → List (Meaning V) → Meaning V
  primitive at p ms d = each ms d >>= (λ vs. operation at p vs)

-- ---- run time

-- what it does to enter a procedure: the depth of its body, the place of the call, the operator and the operands
abbrev pub RunEnter : Type 0
RunEnter = ℕ → Place → RunValue → List RunValue → Run RunValue RunValue

abbrev pub RunMeaning : Type 0
RunMeaning = Meaning RunValue

module _ (k : Kernel) where
  -- the procedure of a lambda, with the values of the locals that it keeps
  abbrev pub closure : ℕ → Env RunValue → RunValue
  closure l env = Procedure l (only (captured_of k l) env)

  -- each local of a group, with the procedure of its lambda, which keeps what is known outside
  abbrev pub group_pairs : List GroupEntry → Env RunValue → Env RunValue
  group_pairs g env = map (λ (e : GroupEntry). (e.local, closure e.lambda env)) g

  -- The locals of a body that is entered: its parameters, the locals of its group that its text mentions, and those that its
  -- procedure keeps.
  abbrev pub entered : Closure → Lambda → List RunValue → Env RunValue
  entered c m vs = push_all m.parameters vs (group_pairs (mentioned k c.lambda) (pairs_of c.kept) ++ pairs_of c.kept)

  module _ (enter : RunEnter) where
    abbrev pub run_node : ExprKind-F (Place → RunMeaning) RunMeaning (Choice RunValue) → Place → RunMeaning
    run_node (ExprKind-F.Constant c) at d = or_wrong at (option_map Plain (constant k c))
    run_node (ExprKind-F.Local x) at d = local at x
    run_node (ExprKind-F.Global g) at d = global at g
    run_node (ExprKind-F.Lambda l) at d = get_locals >>= (λ env. pure (closure l env))
    run_node (ExprKind-F.If a b c) at d = branch k AtRun run_values at a b c d
    run_node (ExprKind-F.Let x a b) at d = let_in k AtRun run_values x a b d
    run_node (ExprKind-F.Letrec g b) at d = get_locals >>= (λ env. with_pairs (group_pairs g env) (b d))
    run_node (ExprKind-F.Begin ms) at d = in_order k AtRun run_values at ms d
    run_node (ExprKind-F.SetGlobal g a) at d = set_definition k AtRun run_values g a d
    run_node (ExprKind-F.SetLocal x a) at d = set_variable k AtRun run_values at x a d
    run_node (ExprKind-F.Case kind a bs e) at d = case_of k AtRun run_values at kind a bs e d
    run_node (ExprKind-F.Call f ms) at d = do
      p ← f d
      vs ← each k AtRun run_values ms d
      enter (d + 1) at p vs
    run_node (ExprKind-F.ProperCall f ms) at d = do
      p ← f d
      vs ← each k AtRun run_values ms d
      enter d at p vs
    run_node (ExprKind-F.Primitive p ms) at d = primitive k AtRun run_values at p ms d

    abbrev pub run : Expr → RunMeaning
    run = fold-Expr (Place → RunMeaning) RunMeaning (Choice RunValue) run_node (λ e. e.kind e.place) (λ b. record { labels = b.labels; does = b.body })

    abbrev pub run_entering : RunEnter
    run_entering d at v vs = do
      c ← or_wrong at (as_procedure v)
      m ← or_wrong at (lambda_of k (length vs) c.lambda)
      take_call
      at_depth d
      within (entered c m vs) (run m.body d)

-- A call at run time, where procedures may be entered n + 1 deep. The calls that are left are counted by the state, and
-- never more than these.
abbrev pub run_enters : Kernel → ℕ → RunEnter
run_enters k zero = run_entering k (λ d at v vs. stop (Ends Running))
run_enters k (suc n) = run_entering k (run_enters k n)

-- ---- compile time

-- the depth of the body, the place of the call, the lambda, and the operands
abbrev pub CompileEnter : Type 0
CompileEnter = ℕ → Place → ℕ → List Value → Run Value Value

abbrev pub CompileMeaning : Type 0
CompileMeaning = Meaning Value

-- what an expression does, and the lambda that it names where it stands as an operator
pub record Part : Type 0 where
  pub names : Option ℕ
  pub does : CompileMeaning

module _ (k : Kernel) where
  -- the lambda of a local that a letrec binds
  abbrev pub letrec_lambda : ℕ → Option ℕ
  letrec_lambda x = option_map (λ (e : GroupEntry). e.lambda) (entry_of k x)

  abbrev pub keeps_locals : GroupEntry → Bool
  keeps_locals e = is_some (slice_get (captured_of k e.lambda) 0)

  abbrev pub run_only : Place → CompileMeaning
  run_only at d = stop (RunOnly at)

  -- what has a meaning at run time alone, where something holds, and else this
  abbrev pub unless : Bool → Place → CompileMeaning → CompileMeaning
  unless true at m = run_only at
  unless false at m = m

  abbrev pub meant : Option ℕ → CompileMeaning → Part
  meant l m = record { names = l; does = m }

  abbrev pub all_do : List Part → List CompileMeaning
  all_do ps = map (λ (p : Part). p.does) ps

  module _ (enter : CompileEnter) where
    -- a call of what its operator names
    abbrev pub call_of : Option ℕ → ℕ → Place → List Part → CompileMeaning
    call_of None deeper at ps d = stop (RunOnly at)
    call_of (Some l) deeper at ps d = do
      vs ← each k Compile first_order (all_do ps) d
      enter (d + deeper) at l vs

    abbrev pub compile_node : ExprKind-F (Place → Part) Part (Choice Value) → Place → Part
    compile_node (ExprKind-F.Constant c) at = meant None (λ d. or_wrong at (constant k c))
    compile_node (ExprKind-F.Local x) at = meant (letrec_lambda x) (unless (is_some (letrec_lambda x)) at (λ d. local at x))
    compile_node (ExprKind-F.Global g) at = meant (procedure_of k g) (unless (is_some (procedure_of k g)) at (λ d. global at g))
    compile_node (ExprKind-F.Lambda l) at = meant None (run_only at)
    compile_node (ExprKind-F.If a b c) at = meant None (branch k Compile first_order at a.does b.does c.does)
    compile_node (ExprKind-F.Let x a b) at = meant None (let_in k Compile first_order x a.does b.does)
    compile_node (ExprKind-F.Letrec g b) at = meant None (unless (list_any keeps_locals g) at b.does)
    compile_node (ExprKind-F.Begin ps) at = meant None (in_order k Compile first_order at (all_do ps))
    compile_node (ExprKind-F.SetGlobal g a) at =
        meant None (unless (is_some (procedure_of k g)) at (set_definition k Compile first_order g a.does))
    compile_node (ExprKind-F.SetLocal x a) at = meant None (set_variable k Compile first_order at x a.does)
    compile_node (ExprKind-F.Case kind a bs e) at = meant None (case_of k Compile first_order at kind a.does bs e.does)
    compile_node (ExprKind-F.Call f ps) at = meant None (call_of f.names 1 at ps)
    compile_node (ExprKind-F.ProperCall f ps) at = meant None (call_of f.names 0 at ps)
    compile_node (ExprKind-F.Primitive p ps) at = meant None (primitive k Compile first_order at p (all_do ps))

    abbrev pub part_of : Expr → Part
    part_of = fold-Expr (Place → Part) Part (Choice Value) compile_node (λ e. e.kind e.place) (λ b. record { labels = b.labels; does = b.body.does })

    abbrev pub compile : Expr → CompileMeaning
    compile e = (part_of e).does

    abbrev pub compile_entering : CompileEnter
    compile_entering d at l vs = do
      m ← or_wrong at (lambda_of k (length vs) l)
      take_call
      at_depth d
      within (push_all m.parameters vs []) (compile m.body d)

-- the same at compile time
abbrev pub compile_enters : Kernel → ℕ → CompileEnter
compile_enters k zero = compile_entering k (λ d at l vs. stop (Ends Running))
compile_enters k (suc n) = compile_entering k (compile_enters k n)
