-- A frame that begins, operands that are taken off, and what they are for.
-- For: `take_off` and what it calls
use Rattle.std.proofs.Common.{◌≡◌, ◌≢◌, ℕ, suc, ◌≤◌, nat_eq, length, Bool, false, List, [], ◌∷◌, ◌++◌, drop, Option, Some, None, refl, sym, ap, ◌∙◌, subst, arith}
use Rattle.std.specs.Prelude.{reverse, slice_get, if◌then◌else◌}
use Rattle.std.proofs.lemmas.Bool.{eq-eqb}
use Rattle.std.proofs.lemmas.List.{reverse-append}
use denote.Ref.{Bor}
use Rattle.ps_base.specs.declared.faults.Place.{Place}
use Rattle.byte_store.specs.declared.pointer.Value.{Value}
use Rattle.ps_kernel.specs.declared.expr.Expr.{Expr}
use Rattle.ps_kernel.specs.declared.kernel.Kernel.{Kernel}
use Rattle.ps_kernel.specs.declared.kernel.Lambda.{Lambda}
use Rattle.ps_runs.specs.Runs.{Env, State, Step, Goes, Stops, Run, and_then, ◌>>=◌, ◌>>◌, pure, or_wrong}
use Rattle.ps_runs.specs.Locals.{put_locals, push_all, within}
use Rattle.ps_runs.specs.Effects.{take_one, take_call, at_depth}
use Rattle.ps_meaning.specs.Eval.{CompileEnter, compile, compile_entering, fitting}
use Rattle.ps_static_eval.proofs.DepthsAreUnseen.{unrolled}
use Rattle.ps_slots.specs.declared.cell.Cell.TheVariants.{Entered, Local, Waits}
use Rattle.ps_static_eval.specs.declared.machine.Waiting.{Waiting}
use Rattle.ps_static_eval.specs.declared.machine.Waiting.TheVariants as waiting
use Rattle.ps_static_eval.specs.declared.machine.Job.{Job}
use Rattle.ps_static_eval.specs.declared.machine.Job.TheVariants.{Enter, Perform}
use Rattle.ps_static_eval.specs.declared.machine.Control.{Control}
use Rattle.ps_static_eval.specs.declared.machine.Control.TheVariants.{Work, Take, Halted}
use Rattle.ps_static_eval.specs.declared.machine.Ending.{Ending}
use Rattle.ps_static_eval.specs.declared.machine.Ending.TheVariants as ending
use Rattle.ps_static_eval.specs.declared.machine.Halt.TheVariants.{Wrong, Running}
use Rattle.ps_static_eval.specs.InsideMachine.{Cells, Left, at, Held, bottom, holds, held, held_on, Turns, Resumes, Begins, Becomes, control_of, enters, job_done, slots}
use Rattle.ps_static_eval.proofs.Joins.{pushed}

put_back : (r : Step Value Value) (env : Env Value) (g : Value → Run Value Value) → and_then (and_then r (λ w. put_locals env >> pure w)) g ≡ and_then r (λ w. put_locals env >> g w)
put_back (Goes w s) env g = refl
put_back (Stops h s) env g = refl

pub begin_new : (k : Kernel) (old new : Cells) → new ≡ old ++ Entered ∷ [] → Begins k old new
begin_new k old new push = record {
  same = λ f env p m. put_back (p (at m env)) (held k f old).env (held k f old).give ∙ ap (λ h. and_then (p (at m env)) h.give) (sym (pushed k f old new Entered push));
  env = λ f. ap (λ h. h.env) (pushed k f old new Entered push);
  forgets = λ f w s e. ap (λ h. h.give w s) (pushed k f old new Entered push) ∙ sym (ap (λ h. h.give w (record s { locals = e })) (pushed k f old new Entered push));
}

pub begin_again : (k : Kernel) (mid old new : Cells) → old ≡ mid ++ Entered ∷ [] → new ≡ mid ++ Entered ∷ [] → Begins k old new
begin_again k mid old new was push = record {
  same = λ f env p m.
      ap (λ h. and_then (within env p (at m h.env)) h.give) (pushed k f mid old Entered was)
      ∙ put_back (p (at m env)) [] (holds k f (held k f mid) Entered).give
      ∙ ap (λ h. and_then (p (at m env)) h.give) (sym (pushed k f mid new Entered push));
  env = λ f. ap (λ h. h.env) (pushed k f mid new Entered push);
  forgets = λ f w s e. ap (λ h. h.give w s) (pushed k f mid new Entered push) ∙ sym (ap (λ h. h.give w (record s { locals = e })) (pushed k f mid new Entered push));
}

pub begin_below : (k : Kernel) (mid old new : Cells) (x : ℕ) (v : Value) → old ≡ mid ++ Local x v ∷ [] → Begins k mid new → Begins k old new
begin_below k mid old new x v was b = record {
  same = λ f env p m.
      ap (λ h. and_then (within env p (at m h.env)) h.give) (pushed k f mid old (Local x v) was)
      ∙ put_back (p (at m env)) (holds k f (held k f mid) (Local x v)).env (holds k f (held k f mid) (Local x v)).give
      ∙ sym (put_back (p (at m env)) (held k f mid).env (held k f mid).give)
      ∙ b.same f env p m;
  env = b.env;
  forgets = b.forgets;
}

-- a frame begins on top of what waits
pub begin_waiting : (k : Kernel) (mid old again new : Cells) (w : Waiting) → old ≡ mid ++ Waits w ∷ [] → again ≡ mid ++ Waits w ∷ [] → new ≡ again ++ Entered ∷ [] → Begins k old new
begin_waiting k mid old again new w was back push = subst (λ z. Begins k z new) (back ∙ sym was) (begin_new k again new push)

no_slots : (xs : List ℕ) → slots xs [] ≡ []
no_slots [] = refl
no_slots (x ∷ xs) = refl

-- without values no parameter gets a slot
pub slots_none : (xs : List ℕ) (vs : List Value) → vs ≡ [] → slots xs (reverse vs) ≡ []
slots_none xs vs none = ap (λ z. slots xs (reverse z)) none ∙ no_slots xs

abbrev Forgets : Held → Type 0
Forgets h = (w : Value) (s : State Value) (e : Env Value) → h.give w s ≡ h.give w (record s { locals = e })

module _ (k : Kernel) (f : CompileEnter) where
  held_append : (h : Held) (xs ys : Cells) → held_on k f h (xs ++ ys) ≡ held_on k f (held_on k f h xs) ys
  held_append h [] ys = refl
  held_append h (x ∷ xs) ys = held_append (holds k f h x) xs ys

  bound_env : (h : Held) (xs : List ℕ) (vs : List Value) → (held_on k f h (slots xs vs)).env ≡ push_all xs vs h.env
  bound_env h [] vs = refl
  bound_env h (x ∷ xs) [] = refl
  bound_env h (x ∷ xs) (v ∷ vs) = bound_env (holds k f h (Local x v)) xs vs

  bound_give : (h : Held) (xs : List ℕ) (vs : List Value) → Forgets h → (w : Value) (s : State Value) → (held_on k f h (slots xs vs)).give w s ≡ h.give w s
  bound_give h [] vs forgets w s = refl
  bound_give h (x ∷ xs) [] forgets w s = refl
  bound_give h (x ∷ xs) (v ∷ vs) forgets w s =
      bound_give (holds k f h (Local x v)) xs vs (λ w s e. forgets w (record s { locals = drop 1 s.locals }) (drop 1 e)) w s ∙ sym (forgets w s (drop 1 s.locals))

  -- ---- a procedure is entered

  module _ (l : ℕ) (place : Place) (vs : List Value) (m : Left) where
    -- behind what is found of the lambda
    abbrev behind : Option Lambda → Run Value Value
    behind o = or_wrong place o >>= (λ b. take_call >>= (λ u. at_depth 0 >>= (λ w. within (push_all b.parameters vs []) (compile k f b.body 0))))

    there : (lambda : Lambda) → slice_get k.lambdas l ≡ Some lambda → length lambda.parameters ≡ length vs → compile_entering k f 0 place l vs ≡ behind (Some lambda)
    there lambda is fits =
        ap (λ o. behind (fitting k (length vs) o)) is
        ∙ ap (λ (b : Bool). behind (if b then Some lambda else None)) (eq-eqb (length lambda.parameters) (length vs) fits)

    pub enter_missing : (cells : Cells) (given : List Value) → slice_get k.lambdas l ≡ None → Turns k f (compile_entering k f 0 place l vs) cells m (Halted (Wrong place)) given cells m
    enter_missing cells given is = ap (λ o. and_then (behind (fitting k (length vs) o) (at m (held k f cells).env)) (held k f cells).give) is

    differ : (a b : ℕ) → a ≢ b → nat_eq a b ≡ false
    differ a b apart = grind (arith, apart)

    pub enter_misfit : (cells : Cells) (given : List Value) (lambda : Lambda) → slice_get k.lambdas l ≡ Some lambda → length lambda.parameters ≢ length vs
        → Turns k f (compile_entering k f 0 place l vs) cells m (Halted (Wrong place)) given cells m
    enter_misfit cells given lambda is apart =
        ap (λ o. and_then (behind (fitting k (length vs) o) (at m (held k f cells).env)) (held k f cells).give) is
        ∙ ap (λ (b : Bool). and_then (behind (if b then Some lambda else None) (at m (held k f cells).env)) (held k f cells).give) (differ (length lambda.parameters) (length vs) apart)

    pub enter_running : (cells : Cells) (given : List Value) (lambda : Lambda) → slice_get k.lambdas l ≡ Some lambda → length lambda.parameters ≡ length vs → m.calls ≡ 0
        → Turns k f (compile_entering k f 0 place l vs) cells m (Halted Running) given cells m
    enter_running cells given lambda is fits none =
        ap (λ p. and_then (p (at m (held k f cells).env)) (held k f cells).give) (there lambda is fits)
        ∙ ap (λ n. and_then (and_then (take_one n (at m (held k f cells).env)) (λ u. at_depth 0 >>= (λ w. within (push_all lambda.parameters vs []) (compile k f lambda.body 0)))) (held k f cells).give) none

    pub enter_on : (old mid new : Cells) (calls : ℕ) (lambda : Lambda) (w : Bor Expr) (given : List Value)
        → slice_get k.lambdas l ≡ Some lambda → length lambda.parameters ≡ length vs → m.calls ≡ suc calls → w.now ≡ lambda.body
        → Begins k old mid → new ≡ mid ++ slots lambda.parameters vs
        → Turns k f (compile_entering k f 0 place l vs) old m (Work w) given new (record m { calls = calls })
    enter_on old mid new calls lambda w given is fits some body begins bound =
        let h = held k f old in
        let m' : Left = record m { calls = calls } in
        let env : Env Value = push_all lambda.parameters vs [] in
        let p : Run Value Value = compile k f lambda.body 0 in
        let held_new : held k f new ≡ held_on k f (held k f mid) (slots lambda.parameters vs) = ap (held k f) bound ∙ held_append bottom mid (slots lambda.parameters vs) in
        ap (λ p. and_then (p (at m h.env)) h.give) (there lambda is fits)
        ∙ ap (λ n. and_then (and_then (take_one n (at m h.env)) (λ u. at_depth 0 >>= (λ w. within env p))) h.give) some
        ∙ begins.same f env p m'
        ∙ (λ i. and_then (p (at m' env)) (λ a s. sym (bound_give (held k f mid) lambda.parameters vs (begins.forgets f) a s) i))
        ∙ ap (λ z. and_then (p (at m' z)) (held_on k f (held k f mid) (slots lambda.parameters vs)).give) (sym (bound_env (held k f mid) lambda.parameters vs ∙ ap (push_all lambda.parameters vs) (begins.env f)))
        ∙ ap (λ z. and_then (p (at m' z.env)) z.give) (sym held_new)
        ∙ ap (λ z. and_then (compile k f z 0 (at m' (held k f new).env)) (held k f new).give) (sym body)

  -- ---- operands

  reverse_push : (vs : List Value) (v : Value) → reverse (vs ++ v ∷ []) ≡ v ∷ reverse vs
  reverse_push vs v = reverse-append vs (v ∷ [])

  pub taken_on : (v : Value) (cells : Cells) (m : Left) (given given' : List Value) → given' ≡ given ++ v ∷ [] → Resumes k f Take given (Waits (waiting.Operand v)) cells m Take given' cells m
  taken_on v cells m given given' is = ap (λ z. (held k f cells).take z (at m (held k f cells).env)) (sym (ap reverse is ∙ reverse_push given v))

  -- a primitive that is performed
  pub becomes_turns : (p : Run Value Value) (r : Ending) (cells : Cells) (m m' : Left) (given : List Value) → Becomes p m r m' → Turns k f p cells m (control_of r) given cells m'
  becomes_turns p (ending.Gave v) cells m m' given b = ap (λ z. and_then z (held k f cells).give) (b (held k f cells).env)
  becomes_turns p (ending.Halted h) cells m m' given b = ap (λ z. and_then z (held k f cells).give) (b (held k f cells).env)

-- what operands are for is done, whatever the bound from the calls left on
pub job_on : (k : Kernel) (n : ℕ) (job : Job) (place : Place) (given : List Value) (cells : Cells) (m : Left) (c : Control) (given' : List Value) (cells' : Cells) (m' : Left)
    → m.calls ≤ n → Turns k (enters k n) (job_done k (enters k n) job place (reverse given)) cells m c given' cells' m'
    → Resumes k (enters k n) Take given (Waits (waiting.Gather job place)) cells m c given' cells' m'
job_on k n (Enter l) place given cells m c given' cells' m' le t =
    let h = held k (enters k n) cells in
    ap (λ z. and_then z h.give) (unrolled k n place l (reverse given) (at m h.env) le) ∙ t
job_on k n (Perform p) place given cells m c given' cells' m' le t = t

-- a cell that was waiting is taken off for its job
pub waits_off : (k : Kernel) (n : ℕ) (w : Waiting) (job : Job) (place : Place) (given : List Value) (cells : Cells) (m : Left) (c : Control) (given' : List Value) (cells' : Cells) (m' : Left)
    → w ≡ waiting.Gather job place → m.calls ≤ n → Turns k (enters k n) (job_done k (enters k n) job place (reverse given)) cells m c given' cells' m'
    → Resumes k (enters k n) Take given (Waits w) cells m c given' cells' m'
waits_off k n w job place given cells m c given' cells' m' is le t =
    subst (λ z. Resumes k (enters k n) Take given (Waits z) cells m c given' cells' m') (sym is) (job_on k n job place given cells m c given' cells' m' le t)
