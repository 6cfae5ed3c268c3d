-- What an expression does at compile time, a form each, and the turn that goes down into it.
-- For: `work`, `named` and `select`
use Rattle.std.proofs.Common.{◌≡◌, ℕ, ℤ, Bool, true, false, Option, Some, None, List, [], ◌∷◌, ◌++◌, map, refl, sym, ap, ◌∙◌}
use Rattle.std.specs.Prelude.{is_some, if◌then◌else◌}
use Rattle.std.specs.List.{list_any}
use denote.Ref.{Bor}
use Rattle.ps_base.specs.declared.faults.Place.{Place}
use Rattle.ps_base.specs.declared.language.PrimName.{PrimName}
use Rattle.byte_store.specs.declared.pointer.Value.{Value}
use Rattle.byte_store.specs.Outcome.{Wrong as WrongAt}
use Rattle.ps_prims.specs.declared.stages.Stage.TheVariants.{Compile}
use Rattle.ps_prims.specs.Sorts.{first_order}
use Rattle.ps_kernel.specs.declared.expr.CaseKind.{CaseKind}
use Rattle.ps_kernel.specs.declared.expr.Constant.{Constant}
use Rattle.ps_kernel.specs.declared.expr.GroupEntry.{GroupEntry}
use Rattle.ps_kernel.specs.declared.expr.Expr.{Expr}
use Rattle.ps_kernel.specs.declared.expr.ExprKind.{ExprKind, fold-ExprKind}
use Rattle.ps_kernel.specs.declared.expr.ExprKind.TheOpen.{ExprKind-F}
use Rattle.ps_kernel.specs.declared.expr.ExprKind.TheVariants as kind
use Rattle.ps_kernel.specs.declared.expr.Labelled.{Labelled, fold-Labelled}
use Rattle.ps_kernel.specs.declared.kernel.Kernel.{Kernel}
use Rattle.ps_kernel.specs.Marks.{body_of, labels_of}
use Rattle.ps_kernel.specs.Rules.{is_among}
use Rattle.ps_kernel.specs.Texts.{procedure_of}
use Rattle.ps_kernel.proofs.FoldsByNode as trees
use Rattle.ps_runs.specs.Runs.{Step, Goes, Stops, Run, Ends, and_then, ◌>>=◌, pure, stop, or_wrong}
use Rattle.ps_runs.specs.Locals.{binding}
use Rattle.ps_meaning.specs.Eval.{Choice, Part, CompileEnter, CompileMeaning, compile, compile_node, part_of, all_do, call_of, case_of, chosen, constant, keeps_locals, label_of, letrec_lambda, run_only, unless}
use Rattle.ps_slots.specs.declared.cell.Cell.TheVariants.{Waits}
use Rattle.ps_static_eval.specs.declared.machine.Waiting.TheVariants as waiting
use Rattle.ps_static_eval.specs.declared.machine.Job.TheVariants.{Perform}
use Rattle.ps_static_eval.specs.declared.machine.Control.TheVariants.{Work, Halted}
use Rattle.ps_static_eval.specs.declared.machine.Halt.TheVariants.{RunOnly}
use Rattle.ps_static_eval.specs.InsideMachine.{Calling, Cells, Left, Turns, anywhere, at, held, last_of, tested, choice, selected, gathered, called, assigns, puts_local, compile_local, compile_global, body_for}
use Rattle.ps_static_eval.proofs.Joins.{down}

module _ (k : Kernel) (f : CompileEnter) where
  choices : (bs : List Labelled) → map (fold-Labelled (Place → Part) Part (Choice Value) (compile_node k f) (λ e. e.kind e.place) (λ b. record { labels = b.labels; does = b.body.does })) bs ≡ map (choice k f) bs
  choices [] = refl
  choices (b ∷ bs) =
      ap (λ c. c ∷ map (fold-Labelled (Place → Part) Part (Choice Value) (compile_node k f) (λ e. e.kind e.place) (λ b. record { labels = b.labels; does = b.body.does })) bs)
      (trees.fold-branch (compile_node k f) (λ e. e.kind e.place) (λ b. record { labels = b.labels; does = b.body.does }) b)
      ∙ ap (λ cs. choice k f b ∷ cs) (choices bs)

  does_all : (es : List Expr) → all_do k (map (part_of k f) es) ≡ map (compile k f) es
  does_all [] = refl
  does_all (e ∷ es) = ap (λ z. compile k f e ∷ z) (does_all es)

  -- ---- one level of an expression

  module _ (e : Expr) where
    out : (x : ExprKind) (m : Place → Part) → e.kind ≡ x → fold-ExprKind (Place → Part) Part (Choice Value) (compile_node k f) (λ e. e.kind e.place) (λ b. record { labels = b.labels; does = b.body.does }) x ≡ m → part_of k f e ≡ m e.place
    out x m is means =
        trees.fold-at (compile_node k f) (λ e. e.kind e.place) (λ b. record { labels = b.labels; does = b.body.does }) e
        ∙ ap (λ z. fold-ExprKind (Place → Part) Part (Choice Value) (compile_node k f) (λ e. e.kind e.place) (λ b. record { labels = b.labels; does = b.body.does }) z e.place) is
        ∙ ap (λ m. m e.place) means

    pub at_constant : (c : Constant) → e.kind ≡ kind.Constant c → part_of k f e ≡ compile_node k f (ExprKind-F.Constant c) e.place
    at_constant c is = out _ _ is (trees.fold-constant (compile_node k f) (λ e. e.kind e.place) (λ b. record { labels = b.labels; does = b.body.does }) c)

    pub at_local : (x : ℕ) → e.kind ≡ kind.Local x → part_of k f e ≡ compile_node k f (ExprKind-F.Local x) e.place
    at_local x is = out _ _ is (trees.fold-local (compile_node k f) (λ e. e.kind e.place) (λ b. record { labels = b.labels; does = b.body.does }) x)

    pub at_global : (g : ℕ) → e.kind ≡ kind.Global g → part_of k f e ≡ compile_node k f (ExprKind-F.Global g) e.place
    at_global g is = out _ _ is (trees.fold-global (compile_node k f) (λ e. e.kind e.place) (λ b. record { labels = b.labels; does = b.body.does }) g)

    pub at_lambda : (l : ℕ) → e.kind ≡ kind.Lambda l → part_of k f e ≡ compile_node k f (ExprKind-F.Lambda l) e.place
    at_lambda l is = out _ _ is (trees.fold-lambda (compile_node k f) (λ e. e.kind e.place) (λ b. record { labels = b.labels; does = b.body.does }) l)

    pub at_if : (a b c : Expr) → e.kind ≡ kind.If a b c → part_of k f e ≡ compile_node k f (ExprKind-F.If (part_of k f a) (part_of k f b) (part_of k f c)) e.place
    at_if a b c is = out _ _ is (trees.fold-if (compile_node k f) (λ e. e.kind e.place) (λ b. record { labels = b.labels; does = b.body.does }) a b c)

    pub at_let : (x : ℕ) (a b : Expr) → e.kind ≡ kind.Let x a b → part_of k f e ≡ compile_node k f (ExprKind-F.Let x (part_of k f a) (part_of k f b)) e.place
    at_let x a b is = out _ _ is (trees.fold-let (compile_node k f) (λ e. e.kind e.place) (λ b. record { labels = b.labels; does = b.body.does }) x a b)

    pub at_letrec : (g : List GroupEntry) (b : Expr) → e.kind ≡ kind.Letrec g b → part_of k f e ≡ compile_node k f (ExprKind-F.Letrec g (part_of k f b)) e.place
    at_letrec g b is = out _ _ is (trees.fold-letrec (compile_node k f) (λ e. e.kind e.place) (λ b. record { labels = b.labels; does = b.body.does }) g b)

    pub at_begin : (es : List Expr) → e.kind ≡ kind.Begin es → part_of k f e ≡ compile_node k f (ExprKind-F.Begin (map (part_of k f) es)) e.place
    at_begin es is = out _ _ is (trees.fold-begin (compile_node k f) (λ e. e.kind e.place) (λ b. record { labels = b.labels; does = b.body.does }) es)

    pub at_set : (g : ℕ) (a : Expr) → e.kind ≡ kind.SetGlobal g a → part_of k f e ≡ compile_node k f (ExprKind-F.SetGlobal g (part_of k f a)) e.place
    at_set g a is = out _ _ is (trees.fold-set (compile_node k f) (λ e. e.kind e.place) (λ b. record { labels = b.labels; does = b.body.does }) g a)

    pub at_put : (x : ℕ) (a : Expr) → e.kind ≡ kind.SetLocal x a → part_of k f e ≡ compile_node k f (ExprKind-F.SetLocal x (part_of k f a)) e.place
    at_put x a is = out _ _ is (trees.fold-set-local (compile_node k f) (λ e. e.kind e.place) (λ b. record { labels = b.labels; does = b.body.does }) x a)

    pub at_call : (a : Expr) (es : List Expr) → e.kind ≡ kind.Call a es → part_of k f e ≡ compile_node k f (ExprKind-F.Call (part_of k f a) (map (part_of k f) es)) e.place
    at_call a es is = out _ _ is (trees.fold-call (compile_node k f) (λ e. e.kind e.place) (λ b. record { labels = b.labels; does = b.body.does }) a es)

    pub at_proper : (a : Expr) (es : List Expr) → e.kind ≡ kind.ProperCall a es → part_of k f e ≡ compile_node k f (ExprKind-F.ProperCall (part_of k f a) (map (part_of k f) es)) e.place
    at_proper a es is = out _ _ is (trees.fold-proper (compile_node k f) (λ e. e.kind e.place) (λ b. record { labels = b.labels; does = b.body.does }) a es)

    pub at_primitive : (p : PrimName) (es : List Expr) → e.kind ≡ kind.Primitive p es → part_of k f e ≡ compile_node k f (ExprKind-F.Primitive p (map (part_of k f) es)) e.place
    at_primitive p es is = out _ _ is (trees.fold-primitive (compile_node k f) (λ e. e.kind e.place) (λ b. record { labels = b.labels; does = b.body.does }) p es)

    at_case_part : (kd : CaseKind) (a : Expr) (bs : List Labelled) (l : Expr) → e.kind ≡ kind.Case kd a bs l → compile k f e ≡ case_of k Compile first_order e.place kd (compile k f a) (map (choice k f) bs) (compile k f l)
    at_case_part kd a bs l is =
        ap (λ (p : Part). p.does) (out _ _ is (trees.fold-case (compile_node k f) (λ e. e.kind e.place) (λ b. record { labels = b.labels; does = b.body.does }) kd a bs l))
        ∙ ap (λ cs. case_of k Compile first_order e.place kd (compile k f a) cs (compile k f l)) (choices bs)

    -- ---- what it does

    abbrev of : {x y : Part} → x ≡ y → x.does ≡ y.does
    of is = ap (λ (p : Part). p.does) is

    pub does_constant : (c : Constant) (o : Option Value) → e.kind ≡ kind.Constant c → o ≡ constant k c → compile k f e 0 ≡ or_wrong e.place o
    does_constant c o is value = ap (λ m. m 0) (of (at_constant c is)) ∙ ap (or_wrong e.place) (sym value)

    pub does_local : (x : ℕ) → e.kind ≡ kind.Local x → compile k f e 0 ≡ compile_local k f x e.place
    does_local x is = ap (λ m. m 0) (of (at_local x is))

    pub does_global : (g : ℕ) → e.kind ≡ kind.Global g → compile k f e 0 ≡ compile_global k f g e.place
    does_global g is = ap (λ m. m 0) (of (at_global g is))

    pub does_begin : (es : List Expr) → e.kind ≡ kind.Begin es → compile k f e 0 ≡ last_of k f e.place es
    does_begin es is = ap (λ m. m 0) (of (at_begin es is)) ∙ ap (λ z. Rattle.ps_meaning.specs.Eval.in_order k Compile first_order e.place z 0) (does_all es)

    pub does_primitive : (p : PrimName) (es : List Expr) → e.kind ≡ kind.Primitive p es → compile k f e 0 ≡ gathered k f (Perform p) e.place es
    does_primitive p es is = ap (λ m. m 0) (of (at_primitive p es is)) ∙ ap (λ z. Rattle.ps_meaning.specs.Eval.primitive k Compile first_order e.place p z 0) (does_all es)

    -- ---- the turn into it

    module _ (old : Cells) (vs : List Value) (m : Left) where
      pub halts : (p : Run Value Value) → compile k f e 0 ≡ stop (Rattle.ps_runs.specs.Runs.RunOnly e.place) → Turns k f (compile k f e 0) old m (Halted (RunOnly e.place)) vs old m
      halts p is = ap (λ z. and_then (z (at m (held k f old).env)) (held k f old).give) is

      pub down_if : (a b c : Expr) (w x y : Bor Expr) (new : Cells) → e.kind ≡ kind.If a b c → w.now ≡ a → x.now ≡ b → y.now ≡ c
          → new ≡ old ++ Waits (waiting.Branch e.place x y) ∷ [] → Turns k f (compile k f e 0) old m (Work w) vs new m
      down_if a b c w x y new is is_a is_b is_c push =
          down k f (compile k f e 0) w (λ v. tested k f e.place x.now y.now v) (waiting.Branch e.place x y) old new vs m
          (ap (λ m. m 0) (of (at_if a b c is))
          ∙ ap (λ z. compile k f z 0 >>= (λ v. tested k f e.place b c v)) (sym is_a)
          ∙ ap (λ z. compile k f w.now 0 >>= (λ v. tested k f e.place z c v)) (sym is_b)
          ∙ ap (λ z. compile k f w.now 0 >>= (λ v. tested k f e.place x.now z v)) (sym is_c))
          push (λ h. refl)

      pub down_let : (l : ℕ) (a b : Expr) (w x : Bor Expr) (new : Cells) → e.kind ≡ kind.Let l a b → w.now ≡ a → x.now ≡ b
          → new ≡ old ++ Waits (waiting.Body l x) ∷ [] → Turns k f (compile k f e 0) old m (Work w) vs new m
      down_let l a b w x new is is_a is_b push =
          down k f (compile k f e 0) w (λ v. binding l v (compile k f x.now 0)) (waiting.Body l x) old new vs m
          (ap (λ m. m 0) (of (at_let l a b is))
          ∙ ap (λ z. compile k f z 0 >>= (λ v. binding l v (compile k f b 0))) (sym is_a)
          ∙ ap (λ z. compile k f w.now 0 >>= (λ v. binding l v (compile k f z 0))) (sym is_b))
          push (λ h. refl)

      pub down_put : (x : ℕ) (a : Expr) (w : Bor Expr) (new : Cells) → e.kind ≡ kind.SetLocal x a → w.now ≡ a
          → new ≡ old ++ Waits (waiting.Put e.place x) ∷ [] → Turns k f (compile k f e 0) old m (Work w) vs new m
      down_put x a w new is is_a push =
          down k f (compile k f e 0) w (λ v. puts_local e.place x v) (waiting.Put e.place x) old new vs m
          (ap (λ m. m 0) (of (at_put x a is)) ∙ ap (λ z. compile k f z 0 >>= (λ v. puts_local e.place x v)) (sym is_a))
          push (λ h. refl)

      pub down_set : (g : ℕ) (a : Expr) (w : Bor Expr) (new : Cells) → e.kind ≡ kind.SetGlobal g a → is_some (procedure_of k g) ≡ false → w.now ≡ a
          → new ≡ old ++ Waits (waiting.Assigned g) ∷ [] → Turns k f (compile k f e 0) old m (Work w) vs new m
      down_set g a w new is none is_a push =
          down k f (compile k f e 0) w (λ v. assigns g v) (waiting.Assigned g) old new vs m
          (ap (λ m. m 0) (of (at_set g a is))
          ∙ ap (λ z. unless k z e.place (λ d. compile k f a d >>= (λ v. assigns g v)) 0) none
          ∙ ap (λ z. compile k f z 0 >>= (λ v. assigns g v)) (sym is_a))
          push (λ h. refl)

      pub halts_set : (g : ℕ) (a : Expr) → e.kind ≡ kind.SetGlobal g a → is_some (procedure_of k g) ≡ true → Turns k f (compile k f e 0) old m (Halted (RunOnly e.place)) vs old m
      halts_set g a is some =
          ap (λ z. and_then (z (at m (held k f old).env)) (held k f old).give)
          (ap (λ m. m 0) (of (at_set g a is)) ∙ ap (λ z. unless k z e.place (λ d. compile k f a d >>= (λ v. assigns g v)) 0) some)

      pub halts_lambda : (l : ℕ) → e.kind ≡ kind.Lambda l → Turns k f (compile k f e 0) old m (Halted (RunOnly e.place)) vs old m
      halts_lambda l is = ap (λ z. and_then (z (at m (held k f old).env)) (held k f old).give) (ap (λ m. m 0) (of (at_lambda l is)))

      pub halts_letrec : (g : List GroupEntry) (b : Expr) → e.kind ≡ kind.Letrec g b → list_any (keeps_locals k) g ≡ true → Turns k f (compile k f e 0) old m (Halted (RunOnly e.place)) vs old m
      halts_letrec g b is some =
          ap (λ z. and_then (z (at m (held k f old).env)) (held k f old).give)
          (ap (λ m. m 0) (of (at_letrec g b is)) ∙ ap (λ z. unless k z e.place (compile k f b) 0) some)

      pub into_letrec : (g : List GroupEntry) (b : Expr) (w : Bor Expr) → e.kind ≡ kind.Letrec g b → list_any (keeps_locals k) g ≡ false → w.now ≡ b → Turns k f (compile k f e 0) old m (Work w) vs old m
      into_letrec g b w is none is_b =
          ap (λ z. and_then (z (at m (held k f old).env)) (held k f old).give)
          (ap (λ m. m 0) (of (at_letrec g b is)) ∙ ap (λ z. unless k z e.place (compile k f b) 0) none ∙ ap (λ z. compile k f z 0) (sym is_b))

      pub down_case : (kd : CaseKind) (a : Expr) (bs : List Labelled) (l : Expr) (w x : Bor Expr) (cs : Bor (List Labelled)) (new : Cells)
          → e.kind ≡ kind.Case kd a bs l → w.now ≡ a → cs.now ≡ bs → x.now ≡ l → new ≡ old ++ Waits (waiting.Choice e.place kd cs x) ∷ []
          → Turns k f (compile k f e 0) old m (Work w) vs new m
      down_case kd a bs l w x cs new is is_a is_bs is_l push =
          down k f (compile k f e 0) w (λ v. selected k f e.place kd cs.now x.now v) (waiting.Choice e.place kd cs x) old new vs m
          (ap (λ m. m 0) (at_case_part kd a bs l is)
          ∙ ap (λ z. compile k f z 0 >>= (λ v. selected k f e.place kd bs l v)) (sym is_a)
          ∙ ap (λ z. compile k f w.now 0 >>= (λ v. selected k f e.place kd z l v)) (sym is_bs)
          ∙ ap (λ z. compile k f w.now 0 >>= (λ v. selected k f e.place kd cs.now z v)) (sym is_l))
          push (λ h. refl)

  -- ---- branches of cases

  pick : (t : Bool) (b r : Expr) (m : CompileMeaning) → m ≡ compile k f r → (if t then compile k f b else m) ≡ compile k f (if t then b else r)
  pick true b r m h = refl
  pick false b r m h = h

  finds_body : (i : ℤ) (bs : List Labelled) (e : Expr) → chosen i (map (choice k f) bs) (compile k f e) ≡ compile k f (body_for i bs e)
  finds_body i [] e = refl
  finds_body i (b ∷ bs) e = pick (is_among i (labels_of b)) (body_of b) (body_for i bs e) (chosen i (map (choice k f) bs) (compile k f e)) (finds_body i bs e)

  pub selects_body : (place : Place) (kd : CaseKind) (bs : List Labelled) (e : Expr) (v : Value) (o : Option ℤ) (i : ℤ) (x : Expr)
      → o ≡ label_of k Compile first_order kd v → o ≡ Some i → x ≡ body_for i bs e → selected k f place kd bs e v ≡ compile k f x 0
  selects_body place kd bs e v o i x label some body =
      ap (λ z. or_wrong place z >>= (λ i. chosen i (map (choice k f) bs) (compile k f e) 0)) (sym label ∙ some)
      ∙ ap (λ m. m 0) (finds_body i bs e)
      ∙ ap (λ z. compile k f z 0) (sym body)

  pub selects_nothing : (place : Place) (kd : CaseKind) (bs : List Labelled) (e : Expr) (v : Value) (o : Option ℤ)
      → o ≡ label_of k Compile first_order kd v → o ≡ None → selected k f place kd bs e v ≡ stop (Ends (WrongAt place))
  selects_nothing place kd bs e v o label none = ap (λ z. or_wrong place z >>= (λ i. chosen i (map (choice k f) bs) (compile k f e) 0)) (sym label ∙ none)

-- ---- calls, whose depth says nothing

module _ (k : Kernel) (f : Calling) where
  calls : (n : Option ℕ) (deeper : ℕ) (place : Place) (es : List Expr) → call_of k (anywhere f) n deeper place (map (part_of k (anywhere f)) es) 0 ≡ called k (anywhere f) n place es
  calls None deeper place es = refl
  calls (Some l) deeper place es = ap (λ z. Rattle.ps_meaning.specs.Eval.each k Compile first_order z 0 >>= (λ vs. f place l vs)) (does_all k (anywhere f) es)

  pub does_call : (e a : Expr) (es : List Expr) (n : Option ℕ) → e.kind ≡ kind.Call a es → n ≡ (part_of k (anywhere f) a).names → compile k (anywhere f) e 0 ≡ called k (anywhere f) n e.place es
  does_call e a es n is names =
      ap (λ (p : Part). p.does 0) (at_call k (anywhere f) e a es is)
      ∙ calls (part_of k (anywhere f) a).names 1 e.place es
      ∙ ap (λ z. called k (anywhere f) z e.place es) (sym names)

  pub does_proper : (e a : Expr) (es : List Expr) (n : Option ℕ) → e.kind ≡ kind.ProperCall a es → n ≡ (part_of k (anywhere f) a).names → compile k (anywhere f) e 0 ≡ called k (anywhere f) n e.place es
  does_proper e a es n is names =
      ap (λ (p : Part). p.does 0) (at_proper k (anywhere f) e a es is)
      ∙ calls (part_of k (anywhere f) a).names 0 e.place es
      ∙ ap (λ z. called k (anywhere f) z e.place es) (sym names)
