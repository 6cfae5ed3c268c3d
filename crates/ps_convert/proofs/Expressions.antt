-- An expression of a program does in the run what its node does in the kernel's run.
-- For: `kernels_do_the_same`
use Rattle.std.proofs.Common.{◌≡◌, ℕ, ℤ, ◌+◌, List, [], ◌∷◌, ◌++◌, length, map, Option, Some, refl, sym, ap, ◌∙◌, subst}
use Rattle.std.specs.Prelude.{Bool, true, false, ◌&&◌, if◌then◌else◌, slice_get}
use Rattle.std.specs.Option.{option_map}
use Rattle.std.specs.List.{AllByRecursion}
use Rattle.std.proofs.lemmas.Bool.{and_parts}
use Rattle.ps_base.specs.Numbers.{fit, byte_of}
use Rattle.ps_base.specs.declared.faults.Place.{Place}
use Rattle.ps_base.specs.declared.faults.Op.TheVariants.{Overflow, Byte}
use Rattle.ps_base.specs.declared.language.PrimName.{PrimName}
use Rattle.ps_base.specs.declared.language.PrimName.TheVariants as prims
use Rattle.byte_store.specs.declared.event.Event.TheVariants.{Output}
use Rattle.byte_store.specs.Outcome.{Undefined}
use Rattle.ps_prims.specs.declared.stages.Stage.TheVariants.{Run as AtRun}
use Rattle.ps_runs.specs.Runs as kernel
use Rattle.ps_runs.specs.Runs.{Env, Step, Run, Goes, Stops, or_wrong}
use Rattle.ps_runs.specs.Locals.{found}
use Rattle.ps_runs.specs.Effects.{defined_in}
use Rattle.ps_kernel.specs.declared.expr.Constant.TheVariants as constants
use Rattle.ps_kernel.specs.declared.expr.Expr.{Expr}
use Rattle.ps_kernel.specs.declared.expr.ExprKind.{ExprKind, fold-ExprKind}
use Rattle.ps_kernel.specs.declared.expr.ExprKind.TheOpen.{ExprKind-F, Expr-F as KernelExpr-F, Labelled-F}
use Rattle.ps_kernel.specs.declared.expr.ExprKind.TheVariants as kinds
use Rattle.ps_kernel.specs.declared.kernel.Kernel.{Kernel}
use Rattle.ps_kernel.specs.Texts.{expr_at}
use Rattle.ps_kernel.proofs.FoldsByNode.{fold-expr, fold-constant, fold-local, fold-global, fold-if, fold-begin, fold-call, fold-primitive}
use Rattle.ps_meaning.specs.declared.values.RunValue.{RunValue}
use Rattle.ps_meaning.specs.declared.values.RunValue.TheVariants.{Procedure}
use Rattle.ps_meaning.specs.Values.{run_values}
use Rattle.ps_meaning.specs.Eval.{Choice, RunEnter, RunMeaning, each, in_order, operation, run_node, run}
use Rattle.ps_plain.specs.Run as plain
use Rattle.ps_plain.specs.Forms.{has_arity}
use Rattle.ps_plain.specs.Valid.{Named as Names, all_true, valid_node, valid}
use Rattle.ps_plain.specs.declared.program.Operator.{Operator}
use Rattle.ps_plain.specs.declared.program.Comparison.{Comparison}
use Rattle.ps_plain.specs.declared.program.Expr.{Expr as PlainExpr, Expr-F}
use Rattle.ps_plain.specs.declared.program.Expr.TheVariants as exprs
use Rattle.ps_plain.specs.declared.program.Write.{Write}
use Rattle.ps_plain.specs.declared.program.Procedure.{Procedure as PlainProcedure}
use Rattle.ps_plain.specs.Meaning.{Enter, Context, Meaning, meaning_of, eval, each as plain_each, write, write_all, body, result_of, holds}
use Rattle.ps_plain.proofs.Trees as trees
use Rattle.ps_convert.specs.Kernels.{operator, comparison, primitive, node, expr_of, write_of, sequence, body_of}
use Rattle.ps_convert.proofs.Steps.{int, ints, up, up_step, Does, known_does, then_does, chosen, operator_does, choice_does, read_does, write_does, nothing}

-- one part after another after another
kernel_assoc : {A B C : Type 0} (r : Step RunValue A) (f : A → Run RunValue B) (g : B → Run RunValue C) → kernel.and_then (kernel.and_then r f) g ≡ kernel.and_then r (λ a s. kernel.and_then (f a s) g)
kernel_assoc (Goes a s) f g = refl
kernel_assoc (Stops h s) f g = refl

module _ (k : Kernel) (globals : List (Option RunValue)) (env : Env RunValue) where
  -- ---- one operand and two

  module _ (d : ℕ) where
    abbrev parts : List RunMeaning → Run RunValue (List RunValue)
    parts ms = each k AtRun run_values ms d

    module _ {B B' : Type 0} (g : B → B') (p : plain.Run ℤ) (q : RunMeaning) (first : Does globals env int p (q d)) (h : ℤ → plain.Run B) (h' : List RunValue → Run RunValue B') (next : (x : ℤ) → Does globals env g (h x) (h' (int x ∷ []))) where
      one_step : (r : plain.Step ℤ) → kernel.and_then (kernel.and_then (up_step globals env int r) (λ v. λ t. kernel.and_then (kernel.pure [] t) (λ vs. kernel.pure (v ∷ vs)))) h' ≡ up_step globals env g (plain.and_then r h)
      one_step (plain.Goes x t) = (next x).is t
      one_step (plain.Stops e t) = refl

      pub one_does : Does globals env g (λ s. plain.and_then (p s) h) (λ s. kernel.and_then (parts (q ∷ []) s) h')
      one_does = record { is = λ s. ap (λ r. kernel.and_then (kernel.and_then r (λ v. λ t. kernel.and_then (kernel.pure [] t) (λ vs. kernel.pure (v ∷ vs)))) h') (first.is s) ∙ one_step (p s) }

    module _ {B B' : Type 0} (g : B → B') (p p' : plain.Run ℤ) (q q' : RunMeaning) (first : Does globals env int p (q d)) (second : Does globals env int p' (q' d))
        (h : ℤ → ℤ → plain.Run B) (h' : List RunValue → Run RunValue B') (next : (x y : ℤ) → Does globals env g (h x y) (h' (int x ∷ int y ∷ []))) where
      abbrev last : RunValue → Run RunValue (List RunValue)
      last v = λ t. kernel.and_then (kernel.pure [] t) (λ vs. kernel.pure (v ∷ vs))

      second_step : (x : ℤ) (r : plain.Step ℤ) → kernel.and_then (kernel.and_then (kernel.and_then (up_step globals env int r) last) (λ vs. kernel.pure (int x ∷ vs))) h' ≡ up_step globals env g (plain.and_then r (h x))
      second_step x (plain.Goes y t) = (next x y).is t
      second_step x (plain.Stops e t) = refl

      first_step : (r : plain.Step ℤ) → kernel.and_then (kernel.and_then (up_step globals env int r) (λ v. λ t. kernel.and_then (kernel.and_then (q' d t) last) (λ vs. kernel.pure (v ∷ vs)))) h' ≡ up_step globals env g (plain.and_then r (λ x. λ t. plain.and_then (p' t) (h x)))
      first_step (plain.Goes x t) = ap (λ r. kernel.and_then (kernel.and_then (kernel.and_then r last) (λ vs. kernel.pure (int x ∷ vs))) h') (second.is t) ∙ second_step x (p' t)
      first_step (plain.Stops e t) = refl

      pub two_does : Does globals env g (λ s. plain.and_then (p s) (λ x. λ t. plain.and_then (p' t) (h x))) (λ s. kernel.and_then (parts (q ∷ q' ∷ []) s) h')
      two_does = record {
        is = λ s. ap (λ r. kernel.and_then (kernel.and_then r (λ v. λ t. kernel.and_then (kernel.and_then (q' d t) last) (λ vs. kernel.pure (v ∷ vs)))) h') (first.is s) ∙ first_step (p s);
      }

  -- ---- expressions

  module _ (names : Names) (enter : Enter) (enter' : RunEnter) (calls : (at : Place) (depth f : ℕ) (vs : List ℤ) → Does globals env int (enter at depth f vs) (enter' depth at (Procedure f []) (ints vs)))
      (defined : (f n : ℕ) → has_arity n (slice_get names.procedures f) ≡ true → defined_in f globals ≡ Some (Procedure f []))
      (d : ℕ) (vs : List ℤ) (first : ℕ) (argument : (j : ℕ) → found (first + j) env ≡ option_map int (slice_get vs j)) where
    abbrev c : Context
    c = record { enter = enter; depth = d; arguments = vs }

    abbrev runs : Expr → RunMeaning
    runs = run k enter'

    -- how the kernel's meaning reads an expression at its place, and a branch of a case
    abbrev at_place : KernelExpr-F (Place → RunMeaning) RunMeaning (Choice RunValue) → RunMeaning
    at_place e = e.kind e.place

    abbrev branching : Labelled-F (Place → RunMeaning) RunMeaning (Choice RunValue) → Choice RunValue
    branching b = record { labels = b.labels; does = b.body }

    -- the meaning of a node by its kind
    by_kind : (p : Place) (x : ExprKind) (m : Place → RunMeaning) → fold-ExprKind (Place → RunMeaning) RunMeaning (Choice RunValue) (run_node k enter') at_place branching x ≡ m → runs (expr_at p x) ≡ m p
    by_kind p x m is = fold-expr (run_node k enter') at_place branching p x ∙ ap (λ (n : Place → RunMeaning). n p) is

    at_primitive : (p : Place) (name : PrimName) (es : List Expr) → runs (primitive p name es) ≡ run_node k enter' (ExprKind-F.Primitive name (map runs es)) p
    at_primitive p name es = by_kind p (kinds.Primitive name es) _ (fold-primitive (run_node k enter') at_place branching name es)

    abbrev IsDone : PlainExpr → Type 0
    IsDone e = valid names e ≡ true → Does globals env int (eval e c) (runs (expr_of first e) d)

    -- what a clause of each fold gives
    by_folds : (e : PlainExpr) (m : Meaning) (e' : Expr) (q : RunMeaning) → eval e ≡ m → expr_of first e ≡ e' → runs e' ≡ q → Does globals env int (m c) (q d) → Does globals env int (eval e c) (runs (expr_of first e) d)
    by_folds e m e' q is one other done =
        subst (λ (n : Meaning). Does globals env int (n c) (runs (expr_of first e) d)) (sym is) (subst (λ (x : Expr). Does globals env int (m c) (runs x d)) (sym one) (subst (λ (x : RunMeaning). Does globals env int (m c) (x d)) (sym other) done))

    integer_done : (p : Place) (i : ℤ) → IsDone (exprs.Integer p i)
    integer_done p i is =
        by_folds (exprs.Integer p i) (meaning_of (Expr-F.Integer p i)) (node first (Expr-F.Integer p i)) (run_node k enter' (ExprKind-F.Constant (constants.Integer i)) p)
        (trees.fold-integer meaning_of p i) (trees.fold-integer (node first) p i) (by_kind p _ _ (fold-constant (run_node k enter') at_place branching (constants.Integer i))) (record { is = λ s. refl })

    parameter_done : (p : Place) (j : ℕ) → IsDone (exprs.Parameter p j)
    parameter_done p j is =
        by_folds (exprs.Parameter p j) (meaning_of (Expr-F.Parameter p j)) (node first (Expr-F.Parameter p j)) (run_node k enter' (ExprKind-F.Local (first + j)) p)
        (trees.fold-parameter meaning_of p j) (trees.fold-parameter (node first) p j) (by_kind p _ _ (fold-local (run_node k enter') at_place branching (first + j)))
        (record { is = λ s. ap (λ (o : Option RunValue). or_wrong p o (up globals env s)) (argument j) ∙ (known_does globals env int p (slice_get vs j)).is s })

    operation_done : (p : Place) (o : Operator) (a b : PlainExpr) → IsDone a → IsDone b → IsDone (exprs.Operation p o a b)
    operation_done p o a b ha hb is =
        let valids = and_parts (valid names a) (valid names b) (sym (trees.fold-operation (valid_node names) p o a b) ∙ is) in
        by_folds (exprs.Operation p o a b) (meaning_of (Expr-F.Operation p o (eval a) (eval b))) (node first (Expr-F.Operation p o (expr_of first a) (expr_of first b))) (run_node k enter' (ExprKind-F.Primitive (operator o) (runs (expr_of first a) ∷ runs (expr_of first b) ∷ [])) p)
        (trees.fold-operation meaning_of p o a b) (trees.fold-operation (node first) p o a b) (at_primitive p (operator o) (expr_of first a ∷ expr_of first b ∷ []))
        (two_does d int (eval a c) (eval b c) (runs (expr_of first a)) (runs (expr_of first b)) (ha valids.0) (hb valids.1)
        (λ x y. plain.known (Undefined Overflow p) (fit (result_of o x y))) (operation k AtRun run_values p (operator o)) (λ x y. operator_does globals env k o p x y))

    read_done : (p : Place) → IsDone (exprs.ReadByte p)
    read_done p is =
        by_folds (exprs.ReadByte p) (meaning_of (Expr-F.ReadByte p)) (node first (Expr-F.ReadByte p)) (run_node k enter' (ExprKind-F.Primitive prims.ReadByte []) p)
        (trees.fold-read meaning_of p) (trees.fold-read (node first) p) (at_primitive p prims.ReadByte []) (record { is = λ s. (read_does globals env k p).is s })

    abbrev choose : Place → Place → Comparison → PlainExpr → PlainExpr → List RunValue → Run RunValue RunValue
    choose p at q t e us = λ s. kernel.and_then (operation k AtRun run_values at (comparison q) us s) (chosen globals env k p (runs (expr_of first t) d) (runs (expr_of first e) d))

    tested : (p at : Place) (q : Comparison) (a b t e : PlainExpr) → IsDone a → IsDone b → IsDone t → IsDone e → (valid names a ≡ true) × (valid names b ≡ true) × (valid names t ≡ true) × (valid names e ≡ true)
        → Does globals env int (meaning_of (Expr-F.If p at q (eval a) (eval b) (eval t) (eval e)) c) (λ s. kernel.and_then (parts d (runs (expr_of first a) ∷ runs (expr_of first b) ∷ []) s) (choose p at q t e))
    tested p at q a b t e ha hb ht he valids =
        two_does d int (eval a c) (eval b c) (runs (expr_of first a)) (runs (expr_of first b)) (ha valids.0) (hb valids.1)
        (λ x y. if holds q x y then eval t c else eval e c) (choose p at q t e)
        (λ x y. choice_does globals env k q at p x y (eval t c) (eval e c) (runs (expr_of first t) d) (runs (expr_of first e) d) (ht valids.2) (he valids.3))

    if_done : (p at : Place) (q : Comparison) (a b t e : PlainExpr) → IsDone a → IsDone b → IsDone t → IsDone e → (valid names a ≡ true) × (valid names b ≡ true) × (valid names t ≡ true) × (valid names e ≡ true) → Does globals env int (eval (exprs.If p at q a b t e) c) (runs (expr_of first (exprs.If p at q a b t e)) d)
    if_done p at q a b t e ha hb ht he valids =
        by_folds (exprs.If p at q a b t e) (meaning_of (Expr-F.If p at q (eval a) (eval b) (eval t) (eval e))) (node first (Expr-F.If p at q (expr_of first a) (expr_of first b) (expr_of first t) (expr_of first e)))
        (run_node k enter' (ExprKind-F.If (run_node k enter' (ExprKind-F.Primitive (comparison q) (runs (expr_of first a) ∷ runs (expr_of first b) ∷ [])) at) (runs (expr_of first t)) (runs (expr_of first e))) p)
        (trees.fold-if meaning_of p at q a b t e) (trees.fold-if (node first) p at q a b t e)
        (by_kind p _ _ (fold-if (run_node k enter') at_place branching (primitive at (comparison q) (expr_of first a ∷ expr_of first b ∷ [])) (expr_of first t) (expr_of first e)) ∙ ap (λ (m : RunMeaning). run_node k enter' (ExprKind-F.If m (runs (expr_of first t)) (runs (expr_of first e))) p) (at_primitive at (comparison q) (expr_of first a ∷ expr_of first b ∷ [])))
        (record { is = λ s. kernel_assoc (parts d (runs (expr_of first a) ∷ runs (expr_of first b) ∷ []) (up globals env s)) (operation k AtRun run_values at (comparison q)) (chosen globals env k p (runs (expr_of first t) d) (runs (expr_of first e) d)) ∙ (tested p at q a b t e ha hb ht he valids).is s })

    -- operands
    operands_done : (es : List PlainExpr) → AllByRecursion IsDone es → all_true (map (valid names) es) ≡ true → Does globals env ints (plain_each (map eval es) c) (parts d (map runs (map (expr_of first) es)))
    operands_done [] all is = record { is = λ s. refl }
    operands_done (e ∷ es) all is =
        let valids = and_parts (valid names e) (all_true (map (valid names) es)) is in
        then_does globals env int ints (λ v. λ s. plain.and_then (plain_each (map eval es) c s) (λ us. plain.pure (v ∷ us))) (λ v. λ s. kernel.and_then (parts d (map runs (map (expr_of first) es)) s) (λ us. kernel.pure (v ∷ us))) (all.0 valids.0)
        (λ v. then_does globals env ints ints (λ us. plain.pure (v ∷ us)) (λ us. kernel.pure (int v ∷ us)) (operands_done es all.1 valids.1) (λ us. record { is = λ s. refl }))

    -- a call, where the operator is defined
    called : (p at : Place) (f : ℕ) (es : List PlainExpr) → AllByRecursion IsDone es → all_true (map (valid names) es) ≡ true → defined_in f globals ≡ Some (Procedure f [])
        → Does globals env int (meaning_of (Expr-F.Call p at f (map eval es)) c) (run_node k enter' (ExprKind-F.Call (run_node k enter' (ExprKind-F.Global f) at) (map runs (map (expr_of first) es))) p d)
    called p at f es all is known = record {
      is = λ s.
          ap (λ (o : Option RunValue). kernel.and_then (or_wrong at o (up globals env s)) (λ v. λ t. kernel.and_then (parts d (map runs (map (expr_of first) es)) t) (λ us. enter' (d + 1) p v us))) known
          ∙ (then_does globals env ints int (λ us. enter p (d + 1) f us) (λ us. enter' (d + 1) p (Procedure f []) us) (operands_done es all is) (λ us. calls p (d + 1) f us)).is s;
    }

    call_done : (p at : Place) (f : ℕ) (es : List PlainExpr) → AllByRecursion IsDone es → IsDone (exprs.Call p at f es)
    call_done p at f es all is =
        let valids = and_parts (has_arity (length (map (valid names) es)) (slice_get names.procedures f)) (all_true (map (valid names) es)) (sym (trees.fold-call (valid_node names) p at f es) ∙ is) in
        by_folds (exprs.Call p at f es) (meaning_of (Expr-F.Call p at f (map eval es))) (node first (Expr-F.Call p at f (map (expr_of first) es)))
        (run_node k enter' (ExprKind-F.Call (run_node k enter' (ExprKind-F.Global f) at) (map runs (map (expr_of first) es))) p)
        (trees.fold-call meaning_of p at f es) (trees.fold-call (node first) p at f es)
        (by_kind p _ _ (fold-call (run_node k enter') at_place branching (expr_at at (kinds.Global f)) (map (expr_of first) es)) ∙ ap (λ (m : RunMeaning). run_node k enter' (ExprKind-F.Call m (map runs (map (expr_of first) es))) p) (by_kind at _ _ (fold-global (run_node k enter') at_place branching f)))
        (called p at f es all valids.1 (defined f _ valids.0))

    pub expression_does : (e : PlainExpr) → IsDone e
    expression_does = trees.induction IsDone integer_done parameter_done operation_done
        (λ p at q a b t e ha hb ht he is. if_done p at q a b t e ha hb ht he (four (valid names a) (valid names b) (valid names t) (valid names e) (sym (trees.fold-if (valid_node names) p at q a b t e) ∙ is)))
        call_done read_done
      where
        four : (w x y z : Bool) → (w && x && y && z) ≡ true → (w ≡ true) × (x ≡ true) × (y ≡ true) × (z ≡ true)
        four true true true true is = (refl, refl, refl, refl)
        four true true true false is = cc
        four true true false z is = cc
        four true false y z is = cc
        four false x y z is = cc

    -- ---- bodies

    wrote : (w : Write) → valid names w.value ≡ true → Does globals env nothing (write w c) (runs (write_of first w) d)
    wrote w is =
        subst (λ (m : RunMeaning). Does globals env nothing (write w c) (m d)) (sym (at_primitive w.place prims.WriteByte (expr_of first w.value ∷ [])))
        (one_does d nothing (eval w.value c) (runs (expr_of first w.value)) (expression_does w.value is) (λ x. λ s. plain.and_then (plain.known (Undefined Byte w.place) (byte_of x) s) (λ b. plain.note (Output b))) (operation k AtRun run_values w.place prims.WriteByte) (λ x. write_does globals env k w.place x))

    -- what stands before the value, and then the value
    abbrev in_sequence : Place → List Expr → RunMeaning
    in_sequence p es = in_order k AtRun run_values p (map runs es)

    -- one write more in front
    in_front : (p : Place) (m : Expr) (ws : List Expr) (v : Expr) → in_sequence p (m ∷ (ws ++ v ∷ [])) d ≡ (λ s. kernel.and_then (runs m d s) (λ u. in_sequence p (ws ++ v ∷ []) d))
    in_front p m [] v = refl
    in_front p m (w ∷ ws) v = refl

    plain_assoc : {A B C : Type 0} (r : plain.Step A) (f : A → plain.Run B) (g : B → plain.Run C) → plain.and_then (plain.and_then r f) g ≡ plain.and_then r (λ a s. plain.and_then (f a s) g)
    plain_assoc (plain.Goes a s) f g = refl
    plain_assoc (plain.Stops e s) f g = refl

    order_done : (p : Place) (ws : List Write) (e : PlainExpr) → AllByRecursion (λ (w : Write). valid names w.value ≡ true) ws → valid names e ≡ true
        → Does globals env int (λ s. plain.and_then (write_all ws c s) (λ u. eval e c)) (in_sequence p (map (write_of first) ws ++ expr_of first e ∷ []) d)
    order_done p [] e all is = record { is = λ s. (expression_does e is).is s }
    order_done p (w ∷ ws) e all is = record {
      is = λ s.
          ap (λ (q : Run RunValue RunValue). q (up globals env s)) (in_front p (write_of first w) (map (write_of first) ws) (expr_of first e))
          ∙ (then_does globals env nothing int (λ u. λ t. plain.and_then (write_all ws c t) (λ x. eval e c)) (λ u. in_sequence p (map (write_of first) ws ++ expr_of first e ∷ []) d) (wrote w all.0) (λ u. order_done p ws e all.1 is)).is s
          ∙ ap (up_step globals env int) (sym (plain_assoc (write w c s) (λ u. write_all ws c) (λ x. eval e c)));
    }

    -- a body whose first form is a write
    sequence_done : (p : Place) (ws : List Write) (e : PlainExpr) → AllByRecursion (λ (w : Write). valid names w.value ≡ true) ws → valid names e ≡ true
        → Does globals env int (λ s. plain.and_then (write_all ws c s) (λ u. eval e c)) (runs (sequence p (map (write_of first) ws) (expr_of first e)) d)
    sequence_done p [] e all is = record { is = λ s. (expression_does e is).is s }
    sequence_done p (w ∷ ws) e all is =
        subst (λ (m : RunMeaning). Does globals env int (λ s. plain.and_then (write_all (w ∷ ws) c s) (λ u. eval e c)) (m d)) (sym (by_kind p _ _ (fold-begin (run_node k enter') at_place branching (map (write_of first) (w ∷ ws) ++ expr_of first e ∷ [])))) (order_done p (w ∷ ws) e all is)

    pub body_does : (q : PlainProcedure) → AllByRecursion (λ (w : Write). valid names w.value ≡ true) q.writes → valid names q.value ≡ true → Does globals env int (body q c) (runs (body_of first q) d)
    body_does q all is = sequence_done q.place q.writes q.value all is
