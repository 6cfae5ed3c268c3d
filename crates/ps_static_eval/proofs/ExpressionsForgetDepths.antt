-- A relation of parts of runs that the words of runs keep, whatever the depth, is kept by expressions at compile time, where calls
-- keep it.
-- For: `evaluate`
use Rattle.std.proofs.Common.{◌≡◌, ℕ, ◌+◌, List, [], ◌∷◌, length, map, Option, Some, None, refl, ap, sym, subst}
use Rattle.std.specs.Prelude.{Bool, true, false, is_some}
use Rattle.std.specs.List.{list_any}
use Rattle.ps_base.specs.declared.faults.Place.{Place}
use Rattle.byte_store.specs.declared.pointer.Value.{Value}
use Rattle.ps_prims.specs.Sorts.{first_order}
use Rattle.ps_prims.specs.declared.stages.Stage.TheVariants.{Compile}
use Rattle.ps_kernel.specs.declared.expr.Expr.{Expr}
use Rattle.ps_kernel.specs.declared.expr.ExprKind.{map-ExprKind}
use Rattle.ps_kernel.specs.declared.expr.ExprKind.TheOpen.{ExprKind-F}
use Rattle.ps_kernel.specs.declared.kernel.Form.{Form}
use Rattle.ps_kernel.specs.declared.kernel.Form.TheVariants.{Define, Do}
use Rattle.ps_kernel.specs.declared.kernel.Kernel.{Kernel}
use Rattle.ps_kernel.specs.Texts.{lambda_in, procedure_of}
use Rattle.ps_kernel.proofs.FoldsAreRelated.{Both, related}
use Rattle.std.specs.Prelude.{slice_set}
use Rattle.ps_runs.specs.Runs.{RunOnly}
use Rattle.ps_runs.specs.Locals.{push_all}
use Rattle.ps_runs.specs.Effects.{take_call, at_depth}
use Rattle.ps_runs.proofs.WordsKeep.{Relation, KeepsLocals, wrongs, local_related, set_local_related, global_related, pairs_related, within_related}
use Rattle.ps_meaning.specs.Eval.{CompileEnter, CompileMeaning, Part, Choice, constant, lambda_of, each, in_order, primitive, letrec_lambda, keeps_locals, unless, call_of, compile_node, part_of, compile, compile_entering}
use Rattle.ps_meaning.specs.Source.{define, form, all_forms}
use Rattle.ps_static_eval.specs.InsideMachine.{Calling, anywhere}
use Rattle.ps_static_eval.proofs.PartsForgetDepths.{Means, Choices, each_related, in_order_related, branch_related, let_related, set_definition_related, set_variable_related, case_related, primitive_related}

-- entering lambdas by f, at each depth, and by g is related
pub record Enters (R : Relation Value) (f : CompileEnter) (h : Calling) : Type 0 where
  pub by : (d : ℕ) (at : Place) (l : ℕ) (vs : List Value) → R Value (f d at l vs) (h at l vs)

module _ (R : Relation Value) (keeps : KeepsLocals Value R) (k : Kernel) (f : CompileEnter) (h : Calling) (enter : Enters R f h) where
  abbrev g : CompileEnter
  g = anywhere h

  abbrev pub CompileMeans : CompileMeaning → CompileMeaning → Type 0
  CompileMeans = Means R keeps.words k Compile first_order

  -- two parts name the same lambda, and what they do is related
  pub record Parts (p q : Part) : Type 0 where
    pub same : p.names ≡ q.names
    pub means : CompileMeans p.does q.does

  record KindParts (m n : Place → Part) : Type 0 where
    at : (p : Place) → Parts (m p) (n p)

  -- what related parts do
  abbrev down : Both Parts → Both CompileMeans
  down m = (m.0.does, m.1.does, m.2.means)

  lefts_down : (ps : List (Both Parts)) → map (λ (p : Part). p.does) (map (λ m. m.0) ps) ≡ map (λ m. m.0) (map down ps)
  lefts_down [] = refl
  lefts_down (p ∷ ps) = ap (λ ms. p.0.does ∷ ms) (lefts_down ps)

  rights_down : (ps : List (Both Parts)) → map (λ (p : Part). p.does) (map (λ m. m.1) ps) ≡ map (λ m. m.1) (map down ps)
  rights_down [] = refl
  rights_down (p ∷ ps) = ap (λ ms. p.1.does ∷ ms) (rights_down ps)

  -- what holds of the meanings of related parts
  of_parts : (P : List CompileMeaning → List CompileMeaning → Type 0) (ps : List (Both Parts)) → P (map (λ m. m.0) (map down ps)) (map (λ m. m.1) (map down ps)) → P (map (λ (p : Part). p.does) (map (λ m. m.0) ps)) (map (λ (p : Part). p.does) (map (λ m. m.1) ps))
  of_parts P ps h =
      subst (λ ms. P ms (map (λ (p : Part). p.does) (map (λ m. m.1) ps))) (sym (lefts_down ps)) (subst (λ ms. P (map (λ m. m.0) (map down ps)) ms) (sym (rights_down ps)) h)

  unless_related : (b : Bool) (at : Place) (m n : CompileMeaning) → CompileMeans m n → CompileMeans (unless k b at m) (unless k b at n)
  unless_related true at m n h = record { by = λ d. keeps.words.stops (RunOnly at) }
  unless_related false at m n h = h

  called : (o : Option ℕ) (deeper : ℕ) (at : Place) (ps : List (Both Parts)) → CompileMeans (call_of k f o deeper at (map (λ m. m.0) ps)) (call_of k g o deeper at (map (λ m. m.1) ps))
  called None deeper at ps = record { by = λ d. keeps.words.stops (RunOnly at) }
  called (Some l) deeper at ps = record {
    by = λ d. keeps.words.thens (of_parts (λ ms ns. R (List Value) (each k Compile first_order ms d) (each k Compile first_order ns 0)) ps (each_related R keeps.words k Compile first_order (map down ps) d)) (λ vs. enter.by (d + deeper) at l vs);
  }

  call_related : (o o' : Option ℕ) (deeper : ℕ) (at : Place) (ps : List (Both Parts)) → o ≡ o' → CompileMeans (call_of k f o deeper at (map (λ m. m.0) ps)) (call_of k g o' deeper at (map (λ m. m.1) ps))
  call_related o o' deeper at ps is = subst (λ z. CompileMeans (call_of k f o deeper at (map (λ m. m.0) ps)) (call_of k g z deeper at (map (λ m. m.1) ps))) is (called o deeper at ps)

  abbrev CompileChoices : Choice Value → Choice Value → Type 0
  CompileChoices = Choices R keeps.words k Compile first_order

  node_related : (y : ExprKind-F (Both KindParts) (Both Parts) (Both CompileChoices))
      → KindParts
      (compile_node k f (map-ExprKind (Both KindParts) (Both Parts) (Both CompileChoices) (Place → Part) Part (Choice Value) (λ m. m.0) (λ m. m.0) (λ m. m.0) y))
      (compile_node k g (map-ExprKind (Both KindParts) (Both Parts) (Both CompileChoices) (Place → Part) Part (Choice Value) (λ m. m.1) (λ m. m.1) (λ m. m.1) y))
  node_related (ExprKind-F.Constant c) = record { at = λ p. record { same = refl; means = record { by = λ d. wrongs R keeps.words p (constant k c) } } }
  node_related (ExprKind-F.Local x) = record { at = λ p. record { same = refl; means = unless_related (is_some (letrec_lambda k x)) p _ _ (record { by = λ d. local_related R keeps p x }) } }
  node_related (ExprKind-F.Global x) = record { at = λ p. record { same = refl; means = unless_related (is_some (procedure_of k x)) p _ _ (record { by = λ d. global_related R keeps.words p x }) } }
  node_related (ExprKind-F.Lambda l) = record { at = λ p. record { same = refl; means = record { by = λ d. keeps.words.stops (RunOnly p) } } }
  node_related (ExprKind-F.If a b c) = record { at = λ p. record { same = refl; means = branch_related R keeps.words k Compile first_order p _ _ _ _ _ _ a.2.means b.2.means c.2.means } }
  node_related (ExprKind-F.Let x a b) = record { at = λ p. record { same = refl; means = let_related R keeps.words k Compile first_order (pairs_related R keeps) x _ _ _ _ a.2.means b.2.means } }
  node_related (ExprKind-F.Letrec x b) = record { at = λ p. record { same = refl; means = unless_related (list_any (keeps_locals k) x) p _ _ b.2.means } }
  node_related (ExprKind-F.Begin ps) = record { at = λ p. record { same = refl; means = of_parts (λ ms ns. CompileMeans (in_order k Compile first_order p ms) (in_order k Compile first_order p ns)) ps (in_order_related R keeps.words k Compile first_order p (map down ps)) } }
  node_related (ExprKind-F.SetGlobal x a) = record { at = λ p. record { same = refl; means = unless_related (is_some (procedure_of k x)) p _ _ (set_definition_related R keeps.words k Compile first_order x _ _ a.2.means) } }
  node_related (ExprKind-F.SetLocal x a) = record { at = λ p. record { same = refl; means = set_variable_related R keeps.words k Compile first_order p x (set_local_related R keeps p x) _ _ a.2.means } }
  node_related (ExprKind-F.Case kind a bs e) = record { at = λ p. record { same = refl; means = case_related R keeps.words k Compile first_order p kind _ _ bs _ _ a.2.means e.2.means } }
  node_related (ExprKind-F.Call a ps) = record { at = λ p. record { same = refl; means = call_related _ _ 1 p ps a.2.same } }
  node_related (ExprKind-F.ProperCall a ps) = record { at = λ p. record { same = refl; means = call_related _ _ 0 p ps a.2.same } }
  node_related (ExprKind-F.Primitive o ps) = record { at = λ p. record { same = refl; means = of_parts (λ ms ns. CompileMeans (primitive k Compile first_order p o ms) (primitive k Compile first_order p o ns)) ps (primitive_related R keeps.words k Compile first_order p o (map down ps)) } }

  part_related : (e : Expr) → Parts (part_of k f e) (part_of k g e)
  part_related = related KindParts Parts CompileChoices (compile_node k f) (λ e. e.kind e.place) (λ b. record { labels = b.labels; does = b.body.does }) (compile_node k g) (λ e. e.kind e.place) (λ b. record { labels = b.labels; does = b.body.does }) node_related (λ y. y.kind.2.at y.place) (λ b. record { same = refl; means = b.body.2.means })

  pub compile_related : (e : Expr) → CompileMeans (compile k f e) (compile k g e)
  compile_related e = (part_related e).means

  -- entering a lambda, behind what is done first
  pub entering_related : (d : ℕ) (at : Place) (l : ℕ) (vs : List Value) → R (Unit {0}) take_call take_call → R (Unit {0}) (at_depth d) (at_depth 0) → R Value (compile_entering k f d at l vs) (compile_entering k g 0 at l vs)
  entering_related d at l vs calls depth =
      keeps.words.thens (wrongs R keeps.words at (lambda_of k (length vs) l)) (λ m. keeps.words.thens calls (λ u. keeps.words.thens depth (λ w. within_related R keeps (push_all m.parameters vs []) (compile k f m.body d) (compile k g m.body 0) ((compile_related m.body).by d))))

  -- ---- forms

  define_related : (x : ℕ) (e : Expr) (o : Option ℕ) → R (Unit {0}) (define k f x e o) (define k g x e o)
  define_related x e (Some l) = keeps.words.pures tt
  define_related x e None = keeps.words.thens ((compile_related e).by 0) (λ v. keeps.words.thens keeps.words.globals (λ globals. keeps.words.puts_globals (slice_set globals x (Some v))))

  form_related : (x : Form) → R (Unit {0}) (form k f x) (form k g x)
  form_related (Define x e) = define_related x e (lambda_in e)
  form_related (Do e) = keeps.words.thens ((compile_related e).by 0) (λ v. keeps.words.pures tt)

  pub forms_related : (xs : List Form) → R (Unit {0}) (all_forms k f xs) (all_forms k g xs)
  forms_related [] = keeps.words.pures tt
  forms_related (x ∷ xs) = keeps.words.thens (form_related x) (λ u. forms_related xs)
