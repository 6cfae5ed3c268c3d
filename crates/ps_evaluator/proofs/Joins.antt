-- How parts of runs are joined, and one level of an expression.
-- For: `turn`, `work`, `resume`, `act` and `do_deed`
use Rattle.std.proofs.Common.{◌≡◌, ℕ, ℤ, ◌+◌, Bool, true, false, Option, Some, None, List, [], ◌∷◌, ◌++◌, map, refl, sym, ap, ◌∙◌, append_assoc, ◌≤◌, length, arith}
use Rattle.std.proofs.lemmas.List.{length-map}
use Rattle.std.specs.Prelude.{Result, Ok, Err, IfOk, if◌then◌else◌}
use Rattle.std.specs.List.{IsFirstAndRest}
use denote.Ref.{Bor}
use Rattle.ps_base.specs.declared.faults.Place.{Place}
use Rattle.ps_base.specs.declared.language.PrimName.{PrimName}
use Rattle.byte_store.specs.Outcome.{Wrong}
use Rattle.ps_prims.specs.declared.stages.Stage.TheVariants.{Run as AtRun}
use Rattle.ps_kernel.specs.declared.expr.CaseKind.{CaseKind}
use Rattle.ps_kernel.specs.declared.expr.Constant.{Constant}
use Rattle.ps_kernel.specs.declared.expr.GroupEntry.{GroupEntry}
use Rattle.ps_kernel.specs.declared.expr.Expr.{Expr}
use Rattle.ps_kernel.specs.declared.expr.ExprKind.{ExprKind, fold-ExprKind}
use Rattle.ps_kernel.specs.declared.expr.ExprKind.TheOpen.{ExprKind-F}
use Rattle.ps_kernel.specs.declared.expr.ExprKind.TheVariants as kind
use Rattle.ps_kernel.specs.declared.expr.Labelled.{Labelled, fold-Labelled}
use Rattle.ps_kernel.specs.declared.kernel.Kernel.{Kernel}
use Rattle.ps_kernel.specs.Marks.{body_of, labels_of}
use Rattle.ps_kernel.specs.Rules.{is_among}
use Rattle.ps_kernel.proofs.FoldsByNode as trees
use Rattle.ps_runs.specs.Runs.{Env, State, Step, Goes, Stops, Run, Ends, and_then, ◌>>=◌, pure, stop, or_wrong}
use Rattle.ps_runs.specs.Locals.{binding, with_pairs}
use Rattle.ps_meaning.specs.declared.values.RunValue.{RunValue}
use Rattle.ps_meaning.specs.Values.{run_values}
use Rattle.ps_meaning.specs.Eval.{Choice, RunEnter, RunMeaning, closure, group_pairs, label_of, chosen, case_of, run, run_node}
use Rattle.ps_evaluator.specs.declared.machine.Job.{Job}
use Rattle.ps_evaluator.specs.declared.machine.Job.TheVariants.{Enter, Perform}
use Rattle.ps_evaluator.specs.declared.machine.Frame.{Frame}
use Rattle.ps_evaluator.specs.declared.machine.Frame.TheVariants as frame
use Rattle.ps_evaluator.specs.declared.machine.Deed.TheVariants.{Assign, Put, Bind, BindGroup}
use Rattle.ps_evaluator.specs.InsideMachine.{adding, dropping, body_for, values_of, last_of, tested, choice, selected, does, acts, resume, plug}

-- ---- parts, one after another

then_then : {A B C : Type 0} (r : Step RunValue A) (f : A → Run RunValue B) (g : B → Run RunValue C) → and_then (and_then r f) g ≡ and_then r (λ a. f a >>= g)
then_then (Goes a s) f g = refl
then_then (Stops h s) f g = refl

pub assoc : {A B C : Type 0} (p : Run RunValue A) (f : A → Run RunValue B) (g : B → Run RunValue C) → ((p >>= f) >>= g) ≡ (p >>= (λ a. f a >>= g))
assoc p f g = λ i s. then_then (p s) f g i

then_pure : {A : Type 0} (r : Step RunValue A) → and_then r pure ≡ r
then_pure (Goes a s) = refl
then_pure (Stops h s) = refl

pub last_pure : {A : Type 0} (p : Run RunValue A) → (p >>= pure) ≡ p
last_pure p = λ i s. then_pure (p s) i

pub if_ok_map : {A E : Type 0} (P Q : A → Type 0) (r : Result A E) → ((a : A) → P a → Q a) → IfOk r P → IfOk r Q
if_ok_map P Q (Ok a) h p = h a p
if_ok_map P Q (Err e) h p = p

-- what is done where locals are bound, and then they go
pub pairs_go : (pairs : Env RunValue) (p : Run RunValue RunValue) → with_pairs pairs p ≡ (adding pairs p >>= dropping (length pairs))
pairs_go pairs p = refl

module _ (k : Kernel) (f : RunEnter) where
  -- ---- frames

  -- frames with one more on top
  pub plug_push : (fs : List Frame) (g : Frame) (v : RunValue) → plug k f (fs ++ g ∷ []) v ≡ (resume k f g v >>= plug k f fs)
  plug_push [] g v = sym (last_pure (resume k f g v))
  plug_push (h ∷ fs) g v = ap (λ p. p >>= resume k f h) (plug_push fs g v) ∙ assoc (resume k f g v) (plug k f fs) (resume k f h)

  -- a part, and then what a frame does with its value
  goes_down : (p : Run RunValue RunValue) (g : Frame) (fs : List Frame) → ((p >>= resume k f g) >>= plug k f fs) ≡ (p >>= plug k f (fs ++ g ∷ []))
  goes_down p g fs = assoc p (resume k f g) (plug k f fs) ∙ (λ i. p >>= (λ v. sym (plug_push fs g v) i))

  -- a part that begins with another, whose value goes to a frame
  pub down : (m p : Run RunValue RunValue) (g : Frame) (fs new : List Frame) → m ≡ (p >>= resume k f g) → new ≡ fs ++ g ∷ [] → (m >>= plug k f fs) ≡ (p >>= plug k f new)
  down m p g fs new e is = ap (λ z. z >>= plug k f fs) e ∙ goes_down p g fs ∙ ap (λ z. p >>= plug k f z) (sym is)

  -- ---- one level of an expression

  choices : (bs : List Labelled) → map (fold-Labelled (Place → RunMeaning) RunMeaning (Choice RunValue) (run_node k f) (λ e. e.kind e.place) (λ b. record { labels = b.labels; does = b.body })) bs ≡ map (choice k f) bs
  choices [] = refl
  choices (b ∷ bs) =
      ap (λ c. c ∷ map (fold-Labelled (Place → RunMeaning) RunMeaning (Choice RunValue) (run_node k f) (λ e. e.kind e.place) (λ b. record { labels = b.labels; does = b.body })) bs)
      (trees.fold-branch (run_node k f) (λ e. e.kind e.place) (λ b. record { labels = b.labels; does = b.body }) b)
      ∙ ap (λ cs. choice k f b ∷ cs) (choices bs)

  module _ (e : Expr) where
    out : (x : ExprKind) (m : Place → RunMeaning) → e.kind ≡ x → fold-ExprKind (Place → RunMeaning) RunMeaning (Choice RunValue) (run_node k f) (λ e. e.kind e.place) (λ b. record { labels = b.labels; does = b.body }) x ≡ m → run k f e ≡ m e.place
    out x m is means =
        trees.fold-at (run_node k f) (λ e. e.kind e.place) (λ b. record { labels = b.labels; does = b.body }) e
        ∙ ap (λ z. fold-ExprKind (Place → RunMeaning) RunMeaning (Choice RunValue) (run_node k f) (λ e. e.kind e.place) (λ b. record { labels = b.labels; does = b.body }) z e.place) is
        ∙ ap (λ m. m e.place) means

    pub at_constant : (c : Constant) → e.kind ≡ kind.Constant c → run k f e ≡ run_node k f (ExprKind-F.Constant c) e.place
    at_constant c is = out _ _ is (trees.fold-constant (run_node k f) (λ e. e.kind e.place) (λ b. record { labels = b.labels; does = b.body }) c)

    pub at_local : (x : ℕ) → e.kind ≡ kind.Local x → run k f e ≡ run_node k f (ExprKind-F.Local x) e.place
    at_local x is = out _ _ is (trees.fold-local (run_node k f) (λ e. e.kind e.place) (λ b. record { labels = b.labels; does = b.body }) x)

    pub at_global : (g : ℕ) → e.kind ≡ kind.Global g → run k f e ≡ run_node k f (ExprKind-F.Global g) e.place
    at_global g is = out _ _ is (trees.fold-global (run_node k f) (λ e. e.kind e.place) (λ b. record { labels = b.labels; does = b.body }) g)

    pub at_lambda : (l : ℕ) → e.kind ≡ kind.Lambda l → run k f e ≡ run_node k f (ExprKind-F.Lambda l) e.place
    at_lambda l is = out _ _ is (trees.fold-lambda (run_node k f) (λ e. e.kind e.place) (λ b. record { labels = b.labels; does = b.body }) l)

    pub at_if : (a b c : Expr) → e.kind ≡ kind.If a b c → run k f e ≡ run_node k f (ExprKind-F.If (run k f a) (run k f b) (run k f c)) e.place
    at_if a b c is = out _ _ is (trees.fold-if (run_node k f) (λ e. e.kind e.place) (λ b. record { labels = b.labels; does = b.body }) a b c)

    pub at_let : (x : ℕ) (a b : Expr) → e.kind ≡ kind.Let x a b → run k f e ≡ run_node k f (ExprKind-F.Let x (run k f a) (run k f b)) e.place
    at_let x a b is = out _ _ is (trees.fold-let (run_node k f) (λ e. e.kind e.place) (λ b. record { labels = b.labels; does = b.body }) x a b)

    pub at_letrec : (g : List GroupEntry) (b : Expr) → e.kind ≡ kind.Letrec g b → run k f e ≡ run_node k f (ExprKind-F.Letrec g (run k f b)) e.place
    at_letrec g b is = out _ _ is (trees.fold-letrec (run_node k f) (λ e. e.kind e.place) (λ b. record { labels = b.labels; does = b.body }) g b)

    pub at_begin : (es : List Expr) → e.kind ≡ kind.Begin es → run k f e ≡ run_node k f (ExprKind-F.Begin (map (run k f) es)) e.place
    at_begin es is = out _ _ is (trees.fold-begin (run_node k f) (λ e. e.kind e.place) (λ b. record { labels = b.labels; does = b.body }) es)

    pub at_set : (g : ℕ) (a : Expr) → e.kind ≡ kind.SetGlobal g a → run k f e ≡ run_node k f (ExprKind-F.SetGlobal g (run k f a)) e.place
    at_set g a is = out _ _ is (trees.fold-set (run_node k f) (λ e. e.kind e.place) (λ b. record { labels = b.labels; does = b.body }) g a)

    pub at_put : (x : ℕ) (a : Expr) → e.kind ≡ kind.SetLocal x a → run k f e ≡ run_node k f (ExprKind-F.SetLocal x (run k f a)) e.place
    at_put x a is = out _ _ is (trees.fold-set-local (run_node k f) (λ e. e.kind e.place) (λ b. record { labels = b.labels; does = b.body }) x a)

    pub at_call : (a : Expr) (es : List Expr) → e.kind ≡ kind.Call a es → run k f e ≡ run_node k f (ExprKind-F.Call (run k f a) (map (run k f) es)) e.place
    at_call a es is = out _ _ is (trees.fold-call (run_node k f) (λ e. e.kind e.place) (λ b. record { labels = b.labels; does = b.body }) a es)

    pub at_proper : (a : Expr) (es : List Expr) → e.kind ≡ kind.ProperCall a es → run k f e ≡ run_node k f (ExprKind-F.ProperCall (run k f a) (map (run k f) es)) e.place
    at_proper a es is = out _ _ is (trees.fold-proper (run_node k f) (λ e. e.kind e.place) (λ b. record { labels = b.labels; does = b.body }) a es)

    pub at_primitive : (p : PrimName) (es : List Expr) → e.kind ≡ kind.Primitive p es → run k f e ≡ run_node k f (ExprKind-F.Primitive p (map (run k f) es)) e.place
    at_primitive p es is = out _ _ is (trees.fold-primitive (run_node k f) (λ e. e.kind e.place) (λ b. record { labels = b.labels; does = b.body }) p es)

    pub at_case : (kd : CaseKind) (a : Expr) (bs : List Labelled) (l : Expr) → e.kind ≡ kind.Case kd a bs l → run k f e ≡ case_of k AtRun run_values e.place kd (run k f a) (map (choice k f) bs) (run k f l)
    at_case kd a bs l is = out _ _ is (trees.fold-case (run_node k f) (λ e. e.kind e.place) (λ b. record { labels = b.labels; does = b.body }) kd a bs l) ∙ ap (λ cs. case_of k AtRun run_values e.place kd (run k f a) cs (run k f l)) (choices bs)

  -- ---- lists of expressions

  values_first : (es : List Expr) (e : Expr) (rest : List Expr) (d : ℕ) → IsFirstAndRest es e rest
      → values_of k f es d ≡ (run k f e d >>= (λ v. values_of k f rest d >>= (λ vs. pure (v ∷ vs))))
  values_first es e rest d is = ap (λ z. values_of k f z d) is.0

  -- the first of the operands that are left
  pub gather : (job : Job) (at : Place) (done : List RunValue) (es : List Expr) (e : Expr) (rest : List Expr) (d : ℕ) (fs new : List Frame) (g : Frame)
      → IsFirstAndRest es e rest
      → ((v : RunValue) → resume k f g v ≡ (values_of k f rest d >>= (λ vs. does k f job at (done ++ v ∷ vs))))
      → new ≡ fs ++ g ∷ []
      → (values_of k f es d >>= (λ vs. does k f job at (done ++ vs) >>= plug k f fs)) ≡ (run k f e d >>= plug k f new)
  gather job at done es e rest d fs new g first r is =
      let p : Run RunValue RunValue = run k f e d in
      let q : Run RunValue (List RunValue) = values_of k f rest d in
      let on : List RunValue → Run RunValue RunValue = λ vs. does k f job at (done ++ vs) >>= plug k f fs in
      ap (λ z. z >>= on) (values_first es e rest d first)
      ∙ assoc p (λ v. q >>= (λ vs. pure (v ∷ vs))) on
      ∙ (λ i. p >>= (λ v. assoc q (λ vs. pure (v ∷ vs)) on i))
      ∙ (λ i. p >>= (λ v. sym (assoc q (λ vs. does k f job at (done ++ v ∷ vs)) (plug k f fs)) i))
      ∙ (λ i. p >>= (λ v. sym (r v) i >>= plug k f fs))
      ∙ (λ i. p >>= (λ v. sym (plug_push fs g v) i))
      ∙ ap (λ z. p >>= plug k f z) (sym is)

  -- a sequence of one part
  pub last_one : (at : Place) (es : List Expr) (e : Expr) (rest : List Expr) (d : ℕ) → IsFirstAndRest es e rest → rest ≡ [] → last_of k f at es d ≡ run k f e d
  last_one at es e rest d is none = ap (λ z. last_of k f at z d) (is.0 ∙ ap (λ z. e ∷ z) none)

  -- a sequence of more parts
  last_on : (at : Place) (es : List Expr) (e : Expr) (rest : List Expr) (d : ℕ) → IsFirstAndRest es e rest → 1 ≤ length rest
      → last_of k f at es d ≡ (run k f e d >>= (λ v. last_of k f at rest d))
  last_on at es e [] d is some = absurd (omega (arith, some))
  last_on at es e (a ∷ more) d is some = ap (λ z. last_of k f at z d) is.0

  pub down_rest : (at : Place) (es : List Expr) (e : Expr) (rest : Bor (List Expr)) (d : ℕ) (fs new : List Frame)
      → IsFirstAndRest es e rest.now → 1 ≤ length rest.now → new ≡ fs ++ frame.Rest at rest d ∷ []
      → (last_of k f at es d >>= plug k f fs) ≡ (run k f e d >>= plug k f new)
  down_rest at es e rest d fs new first some pushed =
      down (last_of k f at es d) (run k f e d) (frame.Rest at rest d) fs new (last_on at es e rest.now d first some) pushed

  pub down_call : (at : Place) (deep : ℕ) (e : Expr) (es : Bor (List Expr)) (d : ℕ) (fs new : List Frame)
      → new ≡ fs ++ frame.Operator at deep es d ∷ []
      → ((run k f e d >>= (λ v. values_of k f es.now d >>= (λ vs. f deep at v vs))) >>= plug k f fs) ≡ (run k f e d >>= plug k f new)
  down_call at deep e es d fs new pushed =
      down (run k f e d >>= (λ v. values_of k f es.now d >>= (λ vs. f deep at v vs))) (run k f e d) (frame.Operator at deep es d) fs new refl pushed

  -- a letrec: its group is bound, and goes behind it
  letrec_level : (e : Expr) (d : ℕ) (g : List GroupEntry) (b : Expr) (h : Bor (List GroupEntry)) (x : Bor Expr) (n : ℕ)
      → e.kind ≡ kind.Letrec g b → h.now ≡ g → x.now ≡ b → n ≡ length g → run k f e d ≡ (acts k f (BindGroup h x d) >>= dropping n)
  letrec_level e d g b h x n is is_g is_b many =
      ap (λ m. m d) (at_letrec e g b is)
      ∙ (λ i s. (adding (group_pairs k g s.locals) (run k f b d) >>= dropping ((length-map {B = ℕ × RunValue} g (λ (y : GroupEntry). (y.local, closure k y.lambda s.locals)) ∙ sym many) i)) s)
      ∙ (λ i s. (adding (group_pairs k (sym is_g i) s.locals) (run k f (sym is_b i) d) >>= dropping n) s)

  module _ (e : Expr) (d : ℕ) (fs : List Frame) where
    pub down_if : (a b c : Expr) (w x y : Bor Expr) (new : List Frame)
        → e.kind ≡ kind.If a b c → w.now ≡ a → x.now ≡ b → y.now ≡ c → new ≡ fs ++ frame.Branch e.place x y d ∷ []
        → (run k f e d >>= plug k f fs) ≡ (run k f w.now d >>= plug k f new)
    down_if a b c w x y new is is_a is_b is_c pushed =
        down (run k f e d) (run k f w.now d) (frame.Branch e.place x y d) fs new
        (ap (λ m. m d) (at_if e a b c is)
        ∙ ap (λ z. run k f z d >>= (λ v. tested k f e.place b c d v)) (sym is_a)
        ∙ ap (λ z. run k f w.now d >>= (λ v. tested k f e.place z c d v)) (sym is_b)
        ∙ ap (λ z. run k f w.now d >>= (λ v. tested k f e.place x.now z d v)) (sym is_c))
        pushed

    pub down_let : (l : ℕ) (a b : Expr) (w x : Bor Expr) (new : List Frame)
        → e.kind ≡ kind.Let l a b → w.now ≡ a → x.now ≡ b → new ≡ fs ++ frame.Body l x d ∷ []
        → (run k f e d >>= plug k f fs) ≡ (run k f w.now d >>= plug k f new)
    down_let l a b w x new is is_a is_b pushed =
        down (run k f e d) (run k f w.now d) (frame.Body l x d) fs new
        (ap (λ m. m d) (at_let e l a b is)
        ∙ ap (λ z. run k f z d >>= (λ v. binding l v (run k f b d))) (sym is_a)
        ∙ ap (λ z. run k f w.now d >>= (λ v. binding l v (run k f z d))) (sym is_b))
        pushed

    pub down_letrec : (g : List GroupEntry) (b : Expr) (h : Bor (List GroupEntry)) (x : Bor Expr) (n : ℕ) (new : List Frame)
        → e.kind ≡ kind.Letrec g b → h.now ≡ g → x.now ≡ b → n ≡ length g → new ≡ fs ++ frame.Unbound n ∷ []
        → (run k f e d >>= plug k f fs) ≡ (acts k f (BindGroup h x d) >>= plug k f new)
    down_letrec g b h x n new is is_g is_b many pushed =
        down (run k f e d) (acts k f (BindGroup h x d)) (frame.Unbound n) fs new (letrec_level e d g b h x n is is_g is_b many) pushed

    pub down_set : (g : ℕ) (a : Expr) (w : Bor Expr) (new : List Frame)
        → e.kind ≡ kind.SetGlobal g a → w.now ≡ a → new ≡ fs ++ frame.Assigned g ∷ []
        → (run k f e d >>= plug k f fs) ≡ (run k f w.now d >>= plug k f new)
    down_set g a w new is is_a pushed =
        down (run k f e d) (run k f w.now d) (frame.Assigned g) fs new
        (ap (λ m. m d) (at_set e g a is) ∙ ap (λ z. run k f z d >>= (λ v. acts k f (Assign g v))) (sym is_a))
        pushed

    pub down_put : (x : ℕ) (a : Expr) (w : Bor Expr) (new : List Frame)
        → e.kind ≡ kind.SetLocal x a → w.now ≡ a → new ≡ fs ++ frame.Put e.place x ∷ []
        → (run k f e d >>= plug k f fs) ≡ (run k f w.now d >>= plug k f new)
    down_put x a w new is is_a pushed =
        down (run k f e d) (run k f w.now d) (frame.Put e.place x) fs new
        (ap (λ m. m d) (at_put e x a is) ∙ ap (λ z. run k f z d >>= (λ v. acts k f (Put e.place x v))) (sym is_a))
        pushed

    pub down_case : (kd : CaseKind) (a : Expr) (bs : List Labelled) (l : Expr) (w x : Bor Expr) (cs : Bor (List Labelled)) (new : List Frame)
        → e.kind ≡ kind.Case kd a bs l → w.now ≡ a → cs.now ≡ bs → x.now ≡ l → new ≡ fs ++ frame.Choice e.place kd cs x d ∷ []
        → (run k f e d >>= plug k f fs) ≡ (run k f w.now d >>= plug k f new)
    down_case kd a bs l w x cs new is is_a is_bs is_l pushed =
        down (run k f e d) (run k f w.now d) (frame.Choice e.place kd cs x d) fs new
        (ap (λ m. m d) (at_case e kd a bs l is)
        ∙ ap (λ z. run k f z d >>= (λ v. selected k f e.place kd bs l d v)) (sym is_a)
        ∙ ap (λ z. run k f w.now d >>= (λ v. selected k f e.place kd z l d v)) (sym is_bs)
        ∙ ap (λ z. run k f w.now d >>= (λ v. selected k f e.place kd cs.now z d v)) (sym is_l))
        pushed

    pub begin_level : (es : List Expr) → e.kind ≡ kind.Begin es → (run k f e d >>= plug k f fs) ≡ (last_of k f e.place es d >>= plug k f fs)
    begin_level es is = ap (λ m. m d >>= plug k f fs) (at_begin e es is)

    pub call_level : (a : Expr) (es : List Expr) → e.kind ≡ kind.Call a es
        → (run k f e d >>= plug k f fs) ≡ ((run k f a d >>= (λ v. values_of k f es d >>= (λ vs. f (d + 1) e.place v vs))) >>= plug k f fs)
    call_level a es is = ap (λ m. m d >>= plug k f fs) (at_call e a es is)

    pub proper_level : (a : Expr) (es : List Expr) → e.kind ≡ kind.ProperCall a es
        → (run k f e d >>= plug k f fs) ≡ ((run k f a d >>= (λ v. values_of k f es d >>= (λ vs. f d e.place v vs))) >>= plug k f fs)
    proper_level a es is = ap (λ m. m d >>= plug k f fs) (at_proper e a es is)

    pub prim_level : (p : PrimName) (es : List Expr) → e.kind ≡ kind.Primitive p es
        → (run k f e d >>= plug k f fs) ≡ (values_of k f es d >>= (λ vs. does k f (Perform p) e.place vs >>= plug k f fs))
    prim_level p es is = ap (λ m. m d >>= plug k f fs) (at_primitive e p es is) ∙ assoc (values_of k f es d) (λ vs. does k f (Perform p) e.place vs) (plug k f fs)

  -- the body of a let: its local is bound, and goes behind it
  pub body_on : (g : Frame) (v : RunValue) (x : ℕ) (b : Bor Expr) (d : ℕ) (fs new : List Frame) → g ≡ frame.Body x b d → new ≡ fs ++ frame.Unbound 1 ∷ []
      → (resume k f g v >>= plug k f fs) ≡ (acts k f (Bind x v b d) >>= plug k f new)
  body_on g v x b d fs new is pushed =
      ap (λ z. resume k f z v >>= plug k f fs) is ∙ down (binding x v (run k f b.now d)) (acts k f (Bind x v b d)) (frame.Unbound 1) fs new refl pushed

  pub rest_on : (g : Frame) (v : RunValue) (at : Place) (es : Bor (List Expr)) (d : ℕ) (fs : List Frame) → g ≡ frame.Rest at es d
      → (resume k f g v >>= plug k f fs) ≡ (last_of k f at es.now d >>= plug k f fs)
  rest_on g v at es d fs is = ap (λ z. resume k f z v >>= plug k f fs) is

  pub operator_on : (g : Frame) (v : RunValue) (at : Place) (deep : ℕ) (es : Bor (List Expr)) (d : ℕ) (fs : List Frame) (done : List RunValue) → g ≡ frame.Operator at deep es d → done ≡ []
      → (resume k f g v >>= plug k f fs) ≡ (values_of k f es.now d >>= (λ vs. does k f (Enter deep v) at (done ++ vs) >>= plug k f fs))
  operator_on g v at deep es d fs done is none =
      ap (λ z. resume k f z v >>= plug k f fs) is
      ∙ assoc (values_of k f es.now d) (λ vs. f deep at v vs) (plug k f fs)
      ∙ ap (λ z. values_of k f es.now d >>= (λ vs. does k f (Enter deep v) at (z ++ vs) >>= plug k f fs)) (sym none)

  pub operands_on : (g : Frame) (v : RunValue) (job : Job) (at : Place) (done : List RunValue) (es : Bor (List Expr)) (d : ℕ) (fs : List Frame) (more : List RunValue)
      → g ≡ frame.Operands job at done es d → more ≡ done ++ v ∷ []
      → (resume k f g v >>= plug k f fs) ≡ (values_of k f es.now d >>= (λ vs. does k f job at (more ++ vs) >>= plug k f fs))
  operands_on g v job at done es d fs more is pushed =
      ap (λ z. resume k f z v >>= plug k f fs) is
      ∙ assoc (values_of k f es.now d) (λ vs. does k f job at (done ++ v ∷ vs)) (plug k f fs)
      ∙ (λ i. values_of k f es.now d >>= (λ vs. does k f job at (sym (append_assoc done (v ∷ []) vs) i) >>= plug k f fs))
      ∙ ap (λ z. values_of k f es.now d >>= (λ vs. does k f job at (z ++ vs) >>= plug k f fs)) (sym pushed)

  -- ---- branches of cases

  pick : (t : Bool) (b r : Expr) (m : RunMeaning) → m ≡ run k f r → (if t then run k f b else m) ≡ run k f (if t then b else r)
  pick true b r m h = refl
  pick false b r m h = h

  finds_body : (i : ℤ) (bs : List Labelled) (e : Expr) → chosen i (map (choice k f) bs) (run k f e) ≡ run k f (body_for i bs e)
  finds_body i [] e = refl
  finds_body i (b ∷ bs) e = pick (is_among i (labels_of b)) (body_of b) (body_for i bs e) (chosen i (map (choice k f) bs) (run k f e)) (finds_body i bs e)

  pub selects_body : (at : Place) (kd : CaseKind) (bs : List Labelled) (e : Expr) (d : ℕ) (v : RunValue) (o : Option ℤ) (i : ℤ) (x : Expr)
      → o ≡ label_of k AtRun run_values kd v → o ≡ Some i → x ≡ body_for i bs e → selected k f at kd bs e d v ≡ run k f x d
  selects_body at kd bs e d v o i x label some body =
      ap (λ z. or_wrong at z >>= (λ i. chosen i (map (choice k f) bs) (run k f e) d)) (sym label ∙ some)
      ∙ ap (λ m. m d) (finds_body i bs e)
      ∙ ap (λ z. run k f z d) (sym body)

  pub selects_nothing : (at : Place) (kd : CaseKind) (bs : List Labelled) (e : Expr) (d : ℕ) (v : RunValue) (o : Option ℤ)
      → o ≡ label_of k AtRun run_values kd v → o ≡ None → selected k f at kd bs e d v ≡ stop (Ends (Wrong at))
  selects_nothing at kd bs e d v o label none = ap (λ z. or_wrong at z >>= (λ i. chosen i (map (choice k f) bs) (run k f e) d)) (sym label ∙ none)
