-- What the forms of a kernel leave is left: each expression goes from good states to good ones, with a left value.
-- For: `forms_leave_what_can_be_kept`
use Rattle.std.proofs.Common.{◌≡◌, ℕ, zero, suc, ℤ, ◌+◌, ◌-◌, List, [], ◌∷◌, map, length, Option, Some, None, refl, subst}
use Rattle.std.specs.Prelude.{Bool, true, false, nat_le, is_some, replicate, slice_set, if◌then◌else◌}
use Rattle.std.specs.List.{list_any}
use Rattle.ps_base.specs.declared.faults.Place.{Place}
use Rattle.ps_base.specs.declared.language.PrimName.{PrimName}
use Rattle.byte_store.specs.declared.pointer.Value.{Value}
use Rattle.byte_store.specs.declared.pointer.Value.TheVariants as value
use Rattle.byte_store.specs.Blocks.{Memory}
use Rattle.byte_store.specs.Outcome.{Running, Wrong, StoppedAtCells}
use Rattle.ps_prims.specs.declared.stages.Stage.TheVariants.{Compile}
use Rattle.ps_prims.specs.Kinds.{AreKinds}
use Rattle.ps_prims.specs.Sorts.{first_order, and_seen, as_boolean}
use Rattle.ps_prims.specs.Cells.{cells_in, asked_at}
use Rattle.ps_prims.specs.Rows.{row, perform}
use Rattle.ps_kernel.specs.declared.expr.CaseKind.{CaseKind}
use Rattle.ps_kernel.specs.declared.expr.Constant.{Constant}
use Rattle.ps_kernel.specs.declared.expr.Constant.TheVariants as constants
use Rattle.ps_kernel.specs.declared.expr.Expr.{Expr}
use Rattle.ps_kernel.specs.declared.expr.ExprKind.{map-ExprKind}
use Rattle.ps_kernel.specs.declared.expr.ExprKind.TheOpen.{ExprKind-F}
use Rattle.ps_kernel.specs.declared.kernel.Form.{Form}
use Rattle.ps_kernel.specs.declared.kernel.Form.TheVariants.{Define, Do}
use Rattle.ps_kernel.specs.declared.kernel.Kernel.{Kernel}
use Rattle.ps_kernel.specs.Rules.{is_among}
use Rattle.ps_kernel.specs.Texts.{lambda_in, procedure_of}
use Rattle.ps_kernel.proofs.FoldsAreRelated.{Both, related}
use Rattle.ps_runs.specs.Runs.{Step, Goes, Stops, Run, Ends, RunOnly, stop}
use Rattle.ps_runs.specs.Effects.{performing}
use Rattle.ps_meaning.specs.Eval.{Choice, CompileEnter, CompileMeaning, Part, constant, lambda_of, belongs, misplaced, each, in_order, either, branch, let_in, set_definition, set_variable, chosen, label_of, case_of, operation, letrec_lambda, keeps_locals, unless, all_do, call_of, compile_node, compile, compile_entering, compile_enters}
use Rattle.ps_meaning.specs.Literals.{lay_all}
use Rattle.ps_meaning.specs.Source.{Finished, Halted, define, form, all_forms, first_memory, top_start, top_end, top_within, Top}
use Rattle.ps_meaning.specs.Left.{IsLeftOption, AreLeftGlobals, IsLeft, FormsLeave}
use Rattle.ps_meaning.proofs.LeftAsMemoryGrows.{Grows, grows_self, grows_then, AreLeftValues, value_grows, values_grow}
use Rattle.ps_meaning.proofs.RowsLeave.{row_performed, row_left}
use Rattle.ps_meaning.proofs.WordsLeave.{IsGoodState, Came, From, Anything, IsLeftThere, then_from, stop_from, pure_any, pure_left, pure_values, wrong_any, wrong_left, local_from, set_local_from, pairs_from, within_from, pushed_left, globals_from, puts_globals, global_set_left, global_from, set_global_from, take_call_from, at_depth_from, performing_from}
use Rattle.ps_meaning.proofs.LiteralsAreLeft.{first_good, literal_left}

module _ (k : Kernel) (are : AreKinds k.kinds) where
  abbrev root : Memory Value
  root = first_memory k

  -- the value of a run is left
  abbrev Gives : Memory Value → Run Value Value → Type 0
  Gives m p = From k.kinds root m (IsLeftThere k.kinds root) p

  abbrev Does : {A : Type 0} → Memory Value → Run Value A → Type 0
  Does m p = From k.kinds root m (Anything k.kinds root) p

  record Fine (mean : CompileMeaning) : Type 0 where
    by : (m : Memory Value) (d : ℕ) → Gives m (mean d)

  -- ---- what both stages have in common

  abbrev AllFine : List CompileMeaning → Type 0
  AllFine [] = Unit {0}
  AllFine (a ∷ ms) = Fine a × AllFine ms

  each_fine : (ms : List CompileMeaning) → AllFine ms → (m : Memory Value) (d : ℕ) → From k.kinds root m (AreLeftValues k.kinds) (each k Compile first_order ms d)
  each_fine [] h m d = pure_values k.kinds root m [] tt
  each_fine (a ∷ ms) h m d =
      then_from k.kinds root (h.0.by m d) (λ m1 g1 v left. then_from k.kinds root (each_fine ms h.1 m1 d) (λ m2 g2 vs all. pure_values k.kinds root m2 (v ∷ vs) (value_grows k.kinds m1 m2 g2 v left, all)))

  order_fine : (at : Place) (ms : List CompileMeaning) → AllFine ms → (m : Memory Value) (d : ℕ) → Gives m (in_order k Compile first_order at ms d)
  order_fine at [] h m d = stop_from k.kinds root m (Ends (Wrong at))
  order_fine at (a ∷ []) h m d = h.0.by m d
  order_fine at (a ∷ b ∷ ms) h m d = then_from k.kinds root (h.0.by m d) (λ m1 g1 v left. order_fine at (b ∷ ms) h.1 m1 d)

  either_fine : (t : Bool) (p q : Run Value Value) (m : Memory Value) → Gives m p → Gives m q → Gives m (either k Compile first_order t p q)
  either_fine true p q m h i = h
  either_fine false p q m h i = i

  branch_fine : (at : Place) (a b c : CompileMeaning) → Fine a → Fine b → Fine c → Fine (branch k Compile first_order at a b c)
  branch_fine at a b c ha hb hc = record {
    by = λ m d. then_from k.kinds root (ha.by m d) (λ m1 g1 v left. then_from k.kinds root (wrong_any k.kinds root m1 at (and_seen first_order (first_order.seen v) as_boolean)) (λ m2 g2 t known. either_fine t (b d) (c d) m2 (hb.by m2 d) (hc.by m2 d)));
  }

  let_fine : (x : ℕ) (a b : CompileMeaning) → Fine a → Fine b → Fine (let_in k Compile first_order x a b)
  let_fine x a b ha hb = record {
    by = λ m d. then_from k.kinds root (ha.by m d) (λ m1 g1 v left. pairs_from k.kinds root m1 ((x, v) ∷ []) (b d) (left, tt) (λ m2. hb.by m2 d));
  }

  definition_fine : (g : ℕ) (a : CompileMeaning) → Fine a → Fine (set_definition k Compile first_order g a)
  definition_fine g a ha = record {
    by = λ m d. then_from k.kinds root (ha.by m d) (λ m1 g1 v left. then_from k.kinds root (set_global_from k.kinds root m1 g v left) (λ m2 g2 u known. pure_left k.kinds root m2 value.Unit tt));
  }

  variable_fine : (at : Place) (x : ℕ) (a : CompileMeaning) → Fine a → Fine (set_variable k Compile first_order at x a)
  variable_fine at x a ha = record {
    by = λ m d. then_from k.kinds root (ha.by m d) (λ m1 g1 v left. then_from k.kinds root (set_local_from k.kinds root m1 at x v left) (λ m2 g2 u known. pure_left k.kinds root m2 value.Unit tt));
  }

  abbrev AllChoices : List (Choice Value) → Type 0
  AllChoices [] = Unit {0}
  AllChoices (c ∷ cs) = Fine c.does × AllChoices cs

  one_of : (t : Bool) (a b : CompileMeaning) → Fine a → Fine b → Fine (if t then a else b)
  one_of true a b h i = h
  one_of false a b h i = i

  chosen_fine : (i : ℤ) (cs : List (Choice Value)) (e : CompileMeaning) → AllChoices cs → Fine e → Fine (chosen i cs e)
  chosen_fine i [] e h he = he
  chosen_fine i (c ∷ cs) e h he = one_of (is_among i c.labels) c.does (chosen i cs e) h.0 (chosen_fine i cs e h.1 he)

  case_fine : (at : Place) (kind : CaseKind) (a : CompileMeaning) (cs : List (Choice Value)) (e : CompileMeaning) → Fine a → AllChoices cs → Fine e → Fine (case_of k Compile first_order at kind a cs e)
  case_fine at kind a cs e ha hs he = record {
    by = λ m d. then_from k.kinds root (ha.by m d) (λ m1 g1 v left. then_from k.kinds root (wrong_any k.kinds root m1 at (label_of k Compile first_order kind v)) (λ m2 g2 i known. (chosen_fine i cs e hs he).by m2 d));
  }

  operation_fine : (at : Place) (p : PrimName) (vs : List Value) (m : Memory Value) → AreLeftValues k.kinds m vs → Gives m (operation k Compile first_order at p vs)
  operation_fine at p vs m left = go (belongs (row first_order k.kinds p).stages Compile) refl
    where
      go : (b : Bool) → belongs (row first_order k.kinds p).stages Compile ≡ b → Gives m (if b then performing at (asked_at first_order k.kinds p vs Compile) (perform first_order k.kinds p vs Compile) else stop (misplaced Compile at))
      go true is = performing_from k.kinds root m at (asked_at first_order k.kinds p vs Compile) (perform first_order k.kinds p vs Compile) (λ s good grows. row_performed k.kinds s good (row first_order k.kinds p) (row_left k.kinds s good are p is) vs (values_grow k.kinds m s.memory grows vs left))
      go false is = stop_from k.kinds root m (misplaced Compile at)

  constant_left : (c : Constant) (m : Memory Value) → Grows root m → IsLeftOption k.kinds m (constant k c)
  constant_left (constants.Integer i) m grows = tt
  constant_left (constants.Boolean b) m grows = tt
  constant_left (constants.Char c) m grows = tt
  constant_left constants.Unit m grows = tt
  constant_left constants.NullAddress m grows = refl
  constant_left (constants.Quoted q) m grows = option_left (constant k (constants.Quoted q)) (literal_left k q)
    where
      option_left : (o : Option Value) → IsLeftOption k.kinds root o → IsLeftOption k.kinds m o
      option_left None h = tt
      option_left (Some v) h = value_grows k.kinds root m grows v h

  -- ---- expressions

  module _ (f : CompileEnter) (enter : (d : ℕ) (at : Place) (l : ℕ) (ws : List Value) (m : Memory Value) → AreLeftValues k.kinds m ws → Gives m (f d at l ws)) where
    record PartFine (u : Unit {0}) (p : Part) : Type 0 where
      fine : Fine p.does

    record KindFine (u : Unit {0}) (x : Place → Part) : Type 0 where
      at : (p : Place) → Fine (x p).does

    record ChoiceFine (u : Unit {0}) (c : Choice Value) : Type 0 where
      fine : Fine c.does

    parts_fine : (ps : List (Both PartFine)) → AllFine (all_do k (map (λ p. p.1) ps))
    parts_fine [] = tt
    parts_fine (p ∷ ps) = (p.2.fine, parts_fine ps)

    choices_fine : (cs : List (Both ChoiceFine)) → AllChoices (map (λ c. c.1) cs)
    choices_fine [] = tt
    choices_fine (c ∷ cs) = (c.2.fine, choices_fine cs)

    unless_fine : (b : Bool) (at : Place) (a : CompileMeaning) → Fine a → Fine (unless k b at a)
    unless_fine true at a h = record { by = λ m d. stop_from k.kinds root m (RunOnly at) }
    unless_fine false at a h = h

    call_fine : (o : Option ℕ) (deeper : ℕ) (at : Place) (ps : List (Both PartFine)) → Fine (call_of k f o deeper at (map (λ p. p.1) ps))
    call_fine None deeper at ps = record { by = λ m d. stop_from k.kinds root m (RunOnly at) }
    call_fine (Some l) deeper at ps = record {
      by = λ m d. then_from k.kinds root (each_fine (all_do k (map (λ p. p.1) ps)) (parts_fine ps) m d) (λ m1 g1 ws left. enter (d + deeper) at l ws m1 left);
    }

    node_fine : (y : ExprKind-F (Both KindFine) (Both PartFine) (Both ChoiceFine)) →
        KindFine tt (compile_node k f (map-ExprKind (Both KindFine) (Both PartFine) (Both ChoiceFine) (Place → Part) Part (Choice Value) (λ m. m.1) (λ m. m.1) (λ m. m.1) y))
    node_fine (ExprKind-F.Constant c) = record { at = λ p. record { by = λ m d. wrong_left k.kinds root m p (constant k c) (λ s grows good. constant_left c s.memory good.first) } }
    node_fine (ExprKind-F.Local x) = record { at = λ p. unless_fine (is_some (letrec_lambda k x)) p _ (record { by = λ m d. local_from k.kinds root m p x }) }
    node_fine (ExprKind-F.Global g) = record { at = λ p. unless_fine (is_some (procedure_of k g)) p _ (record { by = λ m d. global_from k.kinds root m p g }) }
    node_fine (ExprKind-F.Lambda l) = record { at = λ p. record { by = λ m d. stop_from k.kinds root m (RunOnly p) } }
    node_fine (ExprKind-F.If a b c) = record { at = λ p. branch_fine p _ _ _ a.2.fine b.2.fine c.2.fine }
    node_fine (ExprKind-F.Let x a b) = record { at = λ p. let_fine x _ _ a.2.fine b.2.fine }
    node_fine (ExprKind-F.Letrec g b) = record { at = λ p. unless_fine (list_any (keeps_locals k) g) p _ b.2.fine }
    node_fine (ExprKind-F.Begin ps) = record { at = λ p. record { by = order_fine p (all_do k (map (λ m. m.1) ps)) (parts_fine ps) } }
    node_fine (ExprKind-F.SetGlobal g a) = record { at = λ p. unless_fine (is_some (procedure_of k g)) p _ (definition_fine g _ a.2.fine) }
    node_fine (ExprKind-F.SetLocal x a) = record { at = λ p. variable_fine p x _ a.2.fine }
    node_fine (ExprKind-F.Case kind a cs e) = record { at = λ p. case_fine p kind a.1.does (map (λ c. c.1) cs) e.1.does a.2.fine (choices_fine cs) e.2.fine }
    node_fine (ExprKind-F.Call a ps) = record { at = λ p. call_fine a.1.names 1 p ps }
    node_fine (ExprKind-F.ProperCall a ps) = record { at = λ p. call_fine a.1.names 0 p ps }
    node_fine (ExprKind-F.Primitive o ps) = record {
      at = λ p. record { by = λ m d. then_from k.kinds root (each_fine (all_do k (map (λ m. m.1) ps)) (parts_fine ps) m d) (λ m1 g1 ws left. operation_fine p o ws m1 left) };
    }

    compile_fine : (e : Expr) → Fine (compile k f e)
    compile_fine e = (related KindFine PartFine ChoiceFine (λ y. tt) (λ y. tt) (λ y. tt) (compile_node k f) (λ e. e.kind e.place) (λ b. record { labels = b.labels; does = b.body.does }) node_fine (λ y. record { fine = y.kind.2.at y.place }) (λ b. record { fine = b.body.2.fine }) e).fine

    entering_fine : (d : ℕ) (at : Place) (l : ℕ) (ws : List Value) (m : Memory Value) → AreLeftValues k.kinds m ws → Gives m (compile_entering k f d at l ws)
    entering_fine d at l ws m left =
        then_from k.kinds root (wrong_any k.kinds root m at (lambda_of k (length ws) l)) (λ m1 g1 body known.
        then_from k.kinds root (take_call_from k.kinds root m1) (λ m2 g2 u done.
        then_from k.kinds root (at_depth_from k.kinds root m2 d) (λ m3 g3 t set.
        within_from k.kinds root m3 _ (compile k f body.body d)
        (pushed_left k.kinds m3 body.parameters ws [] (values_grow k.kinds m m3 (grows_then m m1 m3 g1 (grows_then m1 m2 m3 g2 g3)) ws left) tt)
        (λ m4. (compile_fine body.body).by m4 d))))

    -- ---- forms

    define_fine : (x : ℕ) (e : Expr) (o : Option ℕ) (m : Memory Value) → Does m (define k f x e o)
    define_fine x e (Some l) m = pure_any k.kinds root m tt
    define_fine x e None m =
        then_from k.kinds root ((compile_fine e).by m 0) (λ m1 g1 v left. then_from k.kinds root (globals_from k.kinds root m1) (λ m2 g2 gs all. puts_globals k.kinds root m2 (slice_set gs x (Some v)) (global_set_left k.kinds m2 x v gs all (value_grows k.kinds m1 m2 g2 v left))))

    form_fine : (x : Form) (m : Memory Value) → Does m (form k f x)
    form_fine (Define x e) m = define_fine x e (lambda_in e) m
    form_fine (Do e) m = then_from k.kinds root ((compile_fine e).by m 0) (λ m1 g1 v left. pure_any k.kinds root m1 tt)

    forms_fine : (xs : List Form) (m : Memory Value) → Does m (all_forms k f xs)
    forms_fine [] m = pure_any k.kinds root m tt
    forms_fine (x ∷ xs) m = then_from k.kinds root (form_fine x m) (λ m1 g1 u known. forms_fine xs m1)

  enters_fine : (n d : ℕ) (at : Place) (l : ℕ) (ws : List Value) (m : Memory Value) → AreLeftValues k.kinds m ws → Gives m (compile_enters k n d at l ws)
  enters_fine zero d at l ws m left = entering_fine (λ d at l vs. stop (Ends Running)) (λ d at l ws m left. stop_from k.kinds root m (Ends Running)) d at l ws m left
  enters_fine (suc n) d at l ws m left = entering_fine (compile_enters k n) (enters_fine n) d at l ws m left

  -- ---- all forms

  no_values : (n : ℕ) → AreLeftGlobals k.kinds root (replicate n None)
  no_values zero = tt
  no_values (suc n) = (tt, no_values n)

  start_good : (budget cells : ℕ) → IsGoodState k.kinds root (top_start k budget cells)
  start_good budget cells = record { first = grows_self root; memory = first_good k; globals = no_values (length k.definitions); locals = tt }

  ended : (x : Step Value (Unit {0})) (globals : List (Option Value)) (m : Memory Value) → Came k.kinds root root (Anything k.kinds root) x → top_end x ≡ Finished globals m → IsLeft k.kinds globals m
  ended (Stops h s) globals m came is = absurd (let clash : Halted h ≡ Finished globals m = is in cc)
  ended (Goes u s) globals m came is =
      let same : Finished s.globals s.memory ≡ Finished globals m = is in
      let values : s.globals ≡ globals = cc in
      let memory : s.memory ≡ m = cc in
      subst (λ gs. IsLeft k.kinds gs m) values (subst (λ n. IsLeft k.kinds s.globals n) memory (record { none_made = came.0.memory.none_made; fixed = came.0.memory.fixed; values = came.0.globals }))

  within_left : (budget left : ℕ) (globals : List (Option Value)) (m : Memory Value) → top_within k budget left ≡ Finished globals m → IsLeft k.kinds globals m
  within_left budget left globals m is =
      ended (all_forms k (compile_enters k budget) k.forms (top_start k budget left)) globals m
      ((forms_fine (compile_enters k budget) (enters_fine budget) k.forms root).by (top_start k budget left) (grows_self root) (start_good budget left)) is

  top_left : (budget cells : ℕ) (globals : List (Option Value)) (m : Memory Value) → Top k budget cells ≡ Finished globals m → IsLeft k.kinds globals m
  top_left budget cells globals m is = go (nat_le (cells_in (lay_all k.literals).blocks) cells) is
    where
      go : (b : Bool) → (if b then top_within k budget (cells - cells_in (lay_all k.literals).blocks) else Halted (Ends StoppedAtCells)) ≡ Finished globals m → IsLeft k.kinds globals m
      go true at = within_left budget (cells - cells_in (lay_all k.literals).blocks) globals m at
      go false at = absurd (let clash : Halted (Ends StoppedAtCells) ≡ Finished globals m = at in cc)

pub forms_leave : FormsLeave
forms_leave k budget cells globals m are is = top_left k are budget cells globals m is
