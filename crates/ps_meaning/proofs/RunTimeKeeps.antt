-- A relation of parts of runs that the words of runs keep is kept by expressions at run time, where calls keep it.
-- For: `larger_bound_keeps`, `calls_enter_procedures` and `cells_only_stop`
use Rattle.std.proofs.Common.{ℕ, ℤ, ◌+◌, List, length, refl}
use Rattle.std.specs.Option.{option_map}
use Rattle.ps_base.specs.declared.faults.Place.{Place}
use Rattle.ps_prims.specs.declared.stages.Stage.TheVariants.{Run as AtRun}
use Rattle.ps_kernel.specs.declared.expr.Expr.{Expr}
use Rattle.ps_kernel.specs.declared.expr.ExprKind.{map-ExprKind}
use Rattle.ps_kernel.specs.declared.expr.ExprKind.TheOpen.{ExprKind-F}
use Rattle.ps_kernel.specs.declared.kernel.Kernel.{Kernel}
use Rattle.ps_kernel.proofs.FoldsAreRelated.{Both, related}
use Rattle.ps_runs.specs.Effects.{take_call, at_depth}
use Rattle.ps_runs.proofs.WordsKeep.{Relation, KeepsLocals, wrongs, local_related, set_local_related, global_related, pairs_related, within_related}
use Rattle.ps_meaning.specs.Values.{RunValue, Plain, as_procedure, run_values}
use Rattle.ps_meaning.specs.Eval.{RunEnter, RunMeaning, Choice, constant, lambda_of, closure, group_pairs, entered, run_node, run, run_entering}
use Rattle.ps_meaning.proofs.BothStagesKeep.{Means, Choices, each_related, in_order_related, branch_related, let_related, set_definition_related, set_variable_related, case_related, primitive_related}

-- entering procedures by f and by g is related
pub record Enters (R : Relation RunValue) (f g : RunEnter) : Type 0 where
  pub by : (d : ℕ) (at : Place) (v : RunValue) (vs : List RunValue) → R RunValue (f d at v vs) (g d at v vs)

module _ (R : Relation RunValue) (keeps : KeepsLocals RunValue R) (k : Kernel) (f g : RunEnter) (enter : Enters R f g) where
  abbrev pub RunMeans : RunMeaning → RunMeaning → Type 0
  RunMeans = Means R keeps.words k AtRun run_values

  abbrev RunChoices : Choice RunValue → Choice RunValue → Type 0
  RunChoices = Choices R keeps.words k AtRun run_values

  -- the same at each place
  record KindMeans (m n : Place → RunMeaning) : Type 0 where
    at : (p : Place) → RunMeans (m p) (n p)

  node_related : (y : ExprKind-F (Both KindMeans) (Both RunMeans) (Both RunChoices))
      → KindMeans
      (run_node k f (map-ExprKind (Both KindMeans) (Both RunMeans) (Both RunChoices) (Place → RunMeaning) RunMeaning (Choice RunValue) (λ m. m.0) (λ m. m.0) (λ m. m.0) y))
      (run_node k g (map-ExprKind (Both KindMeans) (Both RunMeans) (Both RunChoices) (Place → RunMeaning) RunMeaning (Choice RunValue) (λ m. m.1) (λ m. m.1) (λ m. m.1) y))
  node_related (ExprKind-F.Constant c) = record { at = λ p. record { by = λ d. wrongs R keeps.words p (option_map Plain (constant k c)) } }
  node_related (ExprKind-F.Local x) = record { at = λ p. record { by = λ d. local_related R keeps p x } }
  node_related (ExprKind-F.Global x) = record { at = λ p. record { by = λ d. global_related R keeps.words p x } }
  node_related (ExprKind-F.Lambda l) = record { at = λ p. record { by = λ d. keeps.words.thens keeps.locals (λ env. keeps.words.pures (closure k l env)) } }
  node_related (ExprKind-F.If a b c) = record { at = λ p. branch_related R keeps.words k AtRun run_values p a.0 b.0 c.0 a.1 b.1 c.1 a.2 b.2 c.2 }
  node_related (ExprKind-F.Let x a b) = record { at = λ p. let_related R keeps.words k AtRun run_values (pairs_related R keeps) x a.0 b.0 a.1 b.1 a.2 b.2 }
  node_related (ExprKind-F.Letrec x b) = record { at = λ p. record { by = λ d. keeps.words.thens keeps.locals (λ env. pairs_related R keeps (group_pairs k x env) (b.0 d) (b.1 d) (b.2.by d)) } }
  node_related (ExprKind-F.Begin ms) = record { at = λ p. in_order_related R keeps.words k AtRun run_values p ms }
  node_related (ExprKind-F.SetGlobal x a) = record { at = λ p. set_definition_related R keeps.words k AtRun run_values x a.0 a.1 a.2 }
  node_related (ExprKind-F.SetLocal x a) = record { at = λ p. set_variable_related R keeps.words k AtRun run_values p x (set_local_related R keeps p x) a.0 a.1 a.2 }
  node_related (ExprKind-F.Case kind a bs e) = record { at = λ p. case_related R keeps.words k AtRun run_values p kind a.0 a.1 bs e.0 e.1 a.2 e.2 }
  node_related (ExprKind-F.Call a ms) = record { at = λ p. record { by = λ d. keeps.words.thens (a.2.by d) (λ v. keeps.words.thens (each_related R keeps.words k AtRun run_values ms d) (λ vs. enter.by (d + 1) p v vs)) } }
  node_related (ExprKind-F.ProperCall a ms) = record { at = λ p. record { by = λ d. keeps.words.thens (a.2.by d) (λ v. keeps.words.thens (each_related R keeps.words k AtRun run_values ms d) (λ vs. enter.by d p v vs)) } }
  node_related (ExprKind-F.Primitive o ms) = record { at = λ p. primitive_related R keeps.words k AtRun run_values p o ms }

  pub run_related : (e : Expr) → RunMeans (run k f e) (run k g e)
  run_related = related KindMeans RunMeans RunChoices (run_node k f) (λ e. e.kind e.place) (λ b. record { labels = b.labels; does = b.body }) (run_node k g) (λ e. e.kind e.place) (λ b. record { labels = b.labels; does = b.body }) node_related (λ y. y.kind.2.at y.place) (λ b. record { same = refl; means = b.body.2 })

  -- entering a procedure, behind what is done first
  pub entering_related : (d : ℕ) (at : Place) (v : RunValue) (vs : List RunValue) → R (Unit {0}) take_call take_call → R (Unit {0}) (at_depth d) (at_depth d) → R RunValue (run_entering k f d at v vs) (run_entering k g d at v vs)
  entering_related d at v vs calls depth =
      keeps.words.thens (wrongs R keeps.words at (as_procedure v)) (λ c. keeps.words.thens (wrongs R keeps.words at (lambda_of k (length vs) c.lambda)) (λ m. keeps.words.thens calls (λ u. keeps.words.thens depth (λ w. within_related R keeps (entered k c m vs) (run k f m.body d) (run k g m.body d) ((run_related m.body).by d)))))
