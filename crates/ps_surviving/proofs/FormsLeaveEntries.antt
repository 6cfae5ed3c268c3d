-- The forms of a kernel leave an entry for each of its definitions: no part of a run takes one away.
-- For: `forms_leave_programs`
use Rattle.std.proofs.Common.{◌≡◌, ℕ, ℤ, zero, suc, ◌+◌, ◌-◌, List, [], ◌∷◌, ◌++◌, map, length, drop, Bool, true, false, Option, Some, None, refl, sym, ap, ◌∙◌, subst}
use Rattle.std.specs.Prelude.{nat_le, is_some, slice_set, if◌then◌else◌}
use Rattle.std.specs.List.{list_any}
use Rattle.std.proofs.lemmas.List.{length-set, length-replicate}
use Rattle.ps_base.specs.declared.faults.Place.{Place}
use Rattle.ps_base.specs.declared.language.PrimName.{PrimName}
use Rattle.byte_store.specs.declared.pointer.Value.{Value}
use Rattle.byte_store.specs.declared.pointer.Value.TheVariants as value
use Rattle.byte_store.specs.Blocks.{Memory}
use Rattle.byte_store.specs.Outcome.{Running, Wrong, StoppedAtCells}
use Rattle.ps_prims.specs.declared.stages.Stage.TheVariants.{Compile}
use Rattle.ps_prims.specs.Sorts.{first_order, and_seen, as_boolean}
use Rattle.ps_prims.specs.Cells.{cells_in, asked_at}
use Rattle.ps_prims.specs.Rows.{Scene, Performed, Answers, row, perform}
use Rattle.ps_prims.specs.Rows as rows
use Rattle.ps_kernel.specs.declared.expr.Expr.{Expr}
use Rattle.ps_kernel.specs.declared.expr.ExprKind.{map-ExprKind}
use Rattle.ps_kernel.specs.declared.expr.ExprKind.TheOpen.{ExprKind-F}
use Rattle.ps_kernel.specs.declared.kernel.Form.{Form}
use Rattle.ps_kernel.specs.declared.kernel.Form.TheVariants.{Define, Do}
use Rattle.ps_kernel.specs.declared.kernel.Kernel.{Kernel}
use Rattle.ps_kernel.specs.Rules.{is_among}
use Rattle.ps_kernel.specs.Texts.{lambda_in, procedure_of}
use Rattle.ps_kernel.proofs.FoldsAreRelated.{Both, related}
use Rattle.ps_kernel.proofs.ValidKindsAreFilled.{are_filled}
use Rattle.ps_runs.specs.Runs.{Env, State, Halt, Ends, RunOnly, Step, Goes, Stops, Run, and_then, ◌>>=◌, pure, stop, or_wrong}
use Rattle.ps_runs.specs.Locals.{found, put_in, push_all, get_locals, put_locals, local, set_local, with_pairs, within}
use Rattle.ps_runs.specs.Effects.{take_one, take_call, at_depth, defined_in, get_globals, global, set_global, pay, came, performing}
use Rattle.ps_meaning.specs.Eval.{Choice, CompileEnter, CompileMeaning, Part, constant, lambda_of, belongs, misplaced, each, in_order, either, label_of, chosen, operation, letrec_lambda, keeps_locals, unless, all_do, call_of, compile_node, compile, part_of, compile_entering, compile_enters}
use Rattle.ps_meaning.specs.Literals.{lay_all}
use Rattle.ps_meaning.specs.Source.{TopEnd, Finished, Halted, define, form, all_forms, top_start, top_end, top_within, Top}
use Rattle.ps_meaning.proofs.FormsLeaveValues.{forms_leave}
use Rattle.ps_surviving.specs.Laws.{FormsLeavePrograms}

-- so many definitions have entries behind a step
abbrev Entries : {A : Type 0} → ℕ → Step Value A → Type 0
Entries n (Goes a s) = length s.globals ≡ n
Entries n (Stops h s) = Unit {0}

record Keeps (A : Type 0) (p : Run Value A) : Type 0 where
  by : (s : State Value) (n : ℕ) → length s.globals ≡ n → Entries n (p s)

-- ---- words

after_keeps : {A B : Type 0} (f : A → Run Value B) → ((a : A) → Keeps B (f a)) → (n : ℕ) (x : Step Value A) → Entries n x → Entries n (and_then x f)
after_keeps f h n (Goes a s) e = (h a).by s n e
after_keeps f h n (Stops t s) e = tt

then_keeps : {A B : Type 0} {p : Run Value A} {f : A → Run Value B} → Keeps A p → ((a : A) → Keeps B (f a)) → Keeps B (p >>= f)
then_keeps {p = p} {f = f} l h = record { by = λ s n e. after_keeps f h n (p s) (l.by s n e) }

pure_keeps : {A : Type 0} (a : A) → Keeps A (pure a)
pure_keeps a = record { by = λ s n e. e }

stop_keeps : {A : Type 0} (h : Halt) → Keeps A (stop h)
stop_keeps h = record { by = λ s n e. tt }

wrong_keeps : {A : Type 0} (at : Place) (o : Option A) → Keeps A (or_wrong at o)
wrong_keeps at None = stop_keeps (Ends (Wrong at))
wrong_keeps at (Some a) = pure_keeps a

get_locals_keeps : Keeps (Env Value) get_locals
get_locals_keeps = record { by = λ s n e. e }

put_locals_keeps : (env : Env Value) → Keeps (Unit {0}) (put_locals env)
put_locals_keeps env = record { by = λ s n e. e }

local_keeps : (at : Place) (x : ℕ) → Keeps Value (local at x)
local_keeps at x = then_keeps get_locals_keeps (λ env. wrong_keeps at (found x env))

set_local_keeps : (at : Place) (x : ℕ) (v : Value) → Keeps (Unit {0}) (set_local at x v)
set_local_keeps at x v = then_keeps (local_keeps at x) (λ w. then_keeps get_locals_keeps (λ env. put_locals_keeps (put_in x v env)))

pairs_keeps : (pairs : Env Value) (p : Run Value Value) → Keeps Value p → Keeps Value (with_pairs pairs p)
pairs_keeps pairs p l = then_keeps get_locals_keeps (λ env. then_keeps (put_locals_keeps (pairs ++ env)) (λ u. then_keeps l (λ a. then_keeps get_locals_keeps (λ later. then_keeps (put_locals_keeps (drop (length pairs) later)) (λ w. pure_keeps a)))))

within_keeps : (env : Env Value) (p : Run Value Value) → Keeps Value p → Keeps Value (within env p)
within_keeps env p l = then_keeps get_locals_keeps (λ before. then_keeps (put_locals_keeps env) (λ u. then_keeps l (λ a. then_keeps (put_locals_keeps before) (λ w. pure_keeps a))))

get_globals_keeps : Keeps (List (Option Value)) get_globals
get_globals_keeps = record { by = λ s n e. e }

global_keeps : (at : Place) (g : ℕ) → Keeps Value (global at g)
global_keeps at g = then_keeps get_globals_keeps (λ globals. wrong_keeps at (defined_in g globals))

assigned_length : (b : Bool) (g : ℕ) (v : Value) (globals : List (Option Value)) → length (if b then slice_set globals g (Some v) else globals) ≡ length globals
assigned_length true g v globals = length-set globals g (Some v)
assigned_length false g v globals = refl

set_global_keeps : (g : ℕ) (v : Value) → Keeps (Unit {0}) (set_global g v)
set_global_keeps g v = record { by = λ s n e. assigned_length (is_some (defined_in g s.globals)) g v s.globals ∙ e }

taken : (c : ℕ) (s : State Value) (n : ℕ) → length s.globals ≡ n → Entries n (take_one c s)
taken zero s n e = tt
taken (suc c) s n e = e

take_call_keeps : Keeps (Unit {0}) take_call
take_call_keeps = record { by = λ s n e. taken s.calls s n e }

at_depth_keeps : (d : ℕ) → Keeps (Unit {0}) (at_depth d)
at_depth_keeps d = record { by = λ s n e. e }

came_keeps : (at : Place) (x : Performed Value) (s : State Value) (n : ℕ) → length s.globals ≡ n → Entries n (came at x s)
came_keeps at (Answers d) s n e = e
came_keeps at (rows.Undefined op) s n e = tt
came_keeps at rows.Wrong s n e = tt

paid : (at : Place) (x : Performed Value) (a : ℕ) (c : Option ℕ) (s : State Value) (n : ℕ) → length s.globals ≡ n → Entries n (and_then (pay a c s) (λ u. came at x))
paid at x a None s n e = came_keeps at x s n e
paid at x a (Some left) s n e = go (nat_le a left)
  where
    pays : Bool → Run Value (Unit {0})
    pays b = if b then (λ t. Goes tt (record t { cells = Some (left - a) })) else stop (Ends StoppedAtCells)

    go : (b : Bool) → Entries n (and_then (pays b s) (λ u. came at x))
    go true = came_keeps at x (record s { cells = Some (left - a) }) n e
    go false = tt

performing_keeps : (at : Place) (asks : Scene Value → ℕ) (act : Scene Value → Performed Value) → Keeps Value (performing at asks act)
performing_keeps at asks act = record { by = λ s n e. paid at (act (record { memory = s.memory; world = s.world })) (asks (record { memory = s.memory; world = s.world })) s.cells s n e }

one_of : {A : Type 0} (b : Bool) (p q : Run Value A) → Keeps A p → Keeps A q → Keeps A (if b then p else q)
one_of true p q h l = h
one_of false p q h l = l

-- ---- expressions

abbrev Fine : CompileMeaning → Type 0
Fine m = (d : ℕ) → Keeps Value (m d)

abbrev R : Unit {0} → (Place → Part) → Type 0
R u f = (at : Place) → Fine (f at).does

abbrev R' : Unit {0} → Part → Type 0
R' u q = Fine q.does

abbrev R'' : Unit {0} → Choice Value → Type 0
R'' u c = Fine c.does

module _ (k : Kernel) where
  abbrev does : List (Both R') → List CompileMeaning
  does es = all_do k (map (λ e. e.1) es)

  each_keeps : (es : List (Both R')) (d : ℕ) → Keeps (List Value) (each k Compile first_order (does es) d)
  each_keeps [] d = pure_keeps []
  each_keeps (e ∷ es) d = then_keeps (e.2 d) (λ v. then_keeps (each_keeps es d) (λ vs. pure_keeps (v ∷ vs)))

  order_keeps : (at : Place) (es : List (Both R')) → Fine (in_order k Compile first_order at (does es))
  order_keeps at [] d = stop_keeps (Ends (Wrong at))
  order_keeps at (e ∷ []) d = e.2 d
  order_keeps at (e ∷ f ∷ es) d = then_keeps (e.2 d) (λ v. order_keeps at (f ∷ es) d)

  either_keeps : (b : Bool) (p q : Run Value Value) → Keeps Value p → Keeps Value q → Keeps Value (either k Compile first_order b p q)
  either_keeps true p q h l = h
  either_keeps false p q h l = l

  chosen_keeps : (i : ℤ) (bs : List (Both R'')) (m : CompileMeaning) → Fine m → Fine (chosen i (map (λ b. b.1) bs) m)
  chosen_keeps i [] m h = h
  chosen_keeps i (b ∷ bs) m h = go (is_among i b.1.labels) (chosen_keeps i bs m h)
    where
      go : (c : Bool) → Fine (chosen i (map (λ b. b.1) bs) m) → Fine (if c then b.1.does else chosen i (map (λ b. b.1) bs) m)
      go true later = b.2
      go false later = later

  unless_keeps : (b : Bool) (at : Place) (m : CompileMeaning) → Fine m → Fine (unless k b at m)
  unless_keeps true at m h d = stop_keeps (RunOnly at)
  unless_keeps false at m h d = h d

  operation_keeps : (at : Place) (o : PrimName) (vs : List Value) → Keeps Value (operation k Compile first_order at o vs)
  operation_keeps at o vs =
      one_of (belongs (row first_order k.kinds o).stages Compile) (performing at (asked_at first_order k.kinds o vs Compile) (perform first_order k.kinds o vs Compile)) (stop (misplaced Compile at))
      (performing_keeps at (asked_at first_order k.kinds o vs Compile) (perform first_order k.kinds o vs Compile)) (stop_keeps (misplaced Compile at))

  module _ (enter : CompileEnter) (calls : (d : ℕ) (at : Place) (l : ℕ) (vs : List Value) → Keeps Value (enter d at l vs)) where
    call_keeps : (o : Option ℕ) (deeper : ℕ) (at : Place) (es : List (Both R')) → Fine (call_of k enter o deeper at (map (λ e. e.1) es))
    call_keeps None deeper at es d = stop_keeps (RunOnly at)
    call_keeps (Some l) deeper at es d = then_keeps (each_keeps es d) (λ vs. calls (d + deeper) at l vs)

    node_keeps : (y : ExprKind-F (Both R) (Both R') (Both R''))
        → R tt (compile_node k enter (map-ExprKind (Both R) (Both R') (Both R'') (Place → Part) Part (Choice Value) (λ e. e.1) (λ e. e.1) (λ e. e.1) y))
    node_keeps (ExprKind-F.Constant c) at d = wrong_keeps at (constant k c)
    node_keeps (ExprKind-F.Local x) at d = unless_keeps (is_some (letrec_lambda k x)) at (λ d. local at x) (λ d. local_keeps at x) d
    node_keeps (ExprKind-F.Global g) at d = unless_keeps (is_some (procedure_of k g)) at (λ d. global at g) (λ d. global_keeps at g) d
    node_keeps (ExprKind-F.Lambda l) at d = stop_keeps (RunOnly at)
    node_keeps (ExprKind-F.If a b c) at d = then_keeps (a.2 d) (λ v. then_keeps (wrong_keeps at (and_seen first_order (first_order.seen v) as_boolean)) (λ t. either_keeps t (b.1.does d) (c.1.does d) (b.2 d) (c.2 d)))
    node_keeps (ExprKind-F.Let x a b) at d = then_keeps (a.2 d) (λ v. pairs_keeps ((x, v) ∷ []) (b.1.does d) (b.2 d))
    node_keeps (ExprKind-F.Letrec g b) at d = unless_keeps (list_any (keeps_locals k) g) at b.1.does b.2 d
    node_keeps (ExprKind-F.Begin es) at d = order_keeps at es d
    node_keeps (ExprKind-F.SetGlobal g a) at d =
        unless_keeps (is_some (procedure_of k g)) at (λ d. a.1.does d >>= (λ v. set_global g v >>= (λ u. pure (first_order.of value.Unit)))) (λ d. then_keeps (a.2 d) (λ v. then_keeps (set_global_keeps g v) (λ u. pure_keeps value.Unit))) d
    node_keeps (ExprKind-F.SetLocal x a) at d = then_keeps (a.2 d) (λ v. then_keeps (set_local_keeps at x v) (λ u. pure_keeps value.Unit))
    node_keeps (ExprKind-F.Case kind a bs e) at d = then_keeps (a.2 d) (λ v. then_keeps (wrong_keeps at (label_of k Compile first_order kind v)) (λ i. chosen_keeps i bs e.1.does e.2 d))
    node_keeps (ExprKind-F.Call f es) at d = call_keeps f.1.names 1 at es d
    node_keeps (ExprKind-F.ProperCall f es) at d = call_keeps f.1.names 0 at es d
    node_keeps (ExprKind-F.Primitive o es) at d = then_keeps (each_keeps es d) (λ vs. operation_keeps at o vs)

    part_keeps : (e : Expr) → Fine (part_of k enter e).does
    part_keeps = related R R' R'' (λ y. tt) (λ e. tt) (λ b. tt) (compile_node k enter) (λ e. e.kind e.place) (λ b. record { labels = b.labels; does = b.body.does }) node_keeps (λ y. y.kind.2 y.place) (λ b. b.body.2)

    entering_keeps : (d : ℕ) (at : Place) (l : ℕ) (vs : List Value) → Keeps Value (compile_entering k enter d at l vs)
    entering_keeps d at l vs =
        then_keeps (wrong_keeps at (lambda_of k (length vs) l)) (λ m. then_keeps take_call_keeps (λ u. then_keeps (at_depth_keeps d) (λ w. within_keeps (push_all m.parameters vs []) (compile k enter m.body d) (part_keeps m.body d))))

    -- ---- forms

    define_keeps : (g : ℕ) (e : Expr) (o : Option ℕ) → Keeps (Unit {0}) (define k enter g e o)
    define_keeps g e (Some l) = pure_keeps tt
    define_keeps g e None = then_keeps (part_keeps e 0) (λ v. record { by = λ s n h. length-set s.globals g (Some v) ∙ h })

    form_keeps : (f : Form) → Keeps (Unit {0}) (form k enter f)
    form_keeps (Define g e) = define_keeps g e (lambda_in e)
    form_keeps (Do e) = then_keeps (part_keeps e 0) (λ v. pure_keeps tt)

    forms_keep : (fs : List Form) → Keeps (Unit {0}) (all_forms k enter fs)
    forms_keep [] = pure_keeps tt
    forms_keep (f ∷ fs) = then_keeps (form_keeps f) (λ u. forms_keep fs)

  enters_keep : (n d : ℕ) (at : Place) (l : ℕ) (vs : List Value) → Keeps Value (compile_enters k n d at l vs)
  enters_keep zero = entering_keeps (λ d at l vs. stop (Ends Running)) (λ d at l vs. stop_keeps (Ends Running))
  enters_keep (suc n) = entering_keeps (compile_enters k n) (enters_keep n)

  abbrev values_in : TopEnd → List (Option Value)
  values_in (Finished globals memory) = globals
  values_in (Halted h) = []

  abbrev IsFinished : TopEnd → Type 0
  IsFinished (Finished globals memory) = Unit {0}
  IsFinished (Halted h) = ⊥

  ended : (n : ℕ) (x : Step Value (Unit {0})) (globals : List (Option Value)) (m : Memory Value) → Entries n x → top_end x ≡ Finished globals m → length globals ≡ n
  ended n (Goes u s) globals m e is = sym (ap (λ t. length (values_in t)) is) ∙ e
  ended n (Stops h s) globals m e is = absurd (subst IsFinished (sym is) tt)

  entries : (budget cells : ℕ) (globals : List (Option Value)) (m : Memory Value) → Top k budget cells ≡ Finished globals m → length globals ≡ length k.definitions
  entries budget cells globals m is = go (nat_le (cells_in (lay_all k.literals).blocks) cells) is
    where
      go : (b : Bool) → (if b then top_within k budget (cells - cells_in (lay_all k.literals).blocks) else Halted (Ends StoppedAtCells)) ≡ Finished globals m → length globals ≡ length k.definitions
      go true e =
          ended (length k.definitions) (all_forms k (compile_enters k budget) k.forms (top_start k budget (cells - cells_in (lay_all k.literals).blocks))) globals m
          ((forms_keep (compile_enters k budget) (enters_keep budget) k.forms).by (top_start k budget (cells - cells_in (lay_all k.literals).blocks)) (length k.definitions) (length-replicate (length k.definitions) None)) e
      go false e = absurd (subst IsFinished (sym e) tt)

pub forms_leave_programs : FormsLeavePrograms
forms_leave_programs k budget cells globals m valid captured is = record {
  valid = valid;
  captured = captured;
  entries = entries k budget cells globals m is;
  left = forms_leave k budget cells globals m (are_filled k valid) is;
}
