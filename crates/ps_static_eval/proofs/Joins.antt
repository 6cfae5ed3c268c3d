-- How parts of runs are joined, and what one cell more on top means.
-- For: the turns of the machine
use Rattle.std.proofs.Common.{◌≡◌, ℕ, ◌≤◌, List, [], ◌∷◌, ◌++◌, length, refl, sym, ap, ◌∙◌, arith}
use Rattle.std.specs.Prelude.{Result, Ok, Err, IfOk, reverse}
use Rattle.std.specs.List.{IsFirstAndRest}
use denote.Ref.{Bor}
use Rattle.ps_base.specs.declared.faults.Place.{Place}
use Rattle.byte_store.specs.declared.pointer.Value.{Value}
use Rattle.ps_kernel.specs.declared.expr.Expr.{Expr}
use Rattle.ps_kernel.specs.declared.kernel.Kernel.{Kernel}
use Rattle.ps_runs.specs.Runs.{Step, Goes, Stops, Run, and_then, ◌>>=◌, ◌>>◌, pure}
use Rattle.ps_runs.specs.Locals.{binding, put_locals, get_locals}
use Rattle.ps_meaning.specs.Eval.{CompileEnter, compile}
use Rattle.ps_slots.specs.declared.cell.Cell.{Cell}
use Rattle.ps_slots.specs.declared.cell.Cell.TheVariants.{Local, Waits}
use Rattle.ps_static_eval.specs.declared.machine.Waiting.{Waiting}
use Rattle.ps_static_eval.specs.declared.machine.Waiting.TheVariants as waiting
use Rattle.ps_static_eval.specs.declared.machine.Job.{Job}
use Rattle.ps_static_eval.specs.declared.machine.Control.{Control}
use Rattle.ps_static_eval.specs.declared.machine.Control.TheVariants.{Work, Take, Halted}
use Rattle.ps_static_eval.specs.declared.machine.Halt.TheVariants.{Wrong}
use Rattle.ps_static_eval.specs.InsideMachine.{Cells, Left, at, Held, bottom, holds, waits, held, held_on, from, rest, Turns, NextOperand, values_of, last_of, does, gathered, dropping}

pub then_then : {A B C : Type 0} (r : Step Value A) (f : A → Run Value B) (g : B → Run Value C) → and_then (and_then r f) g ≡ and_then r (λ a. f a >>= g)
then_then (Goes a s) f g = refl
then_then (Stops h s) f g = refl

pub then_pure : {A : Type 0} (r : Step Value A) → and_then r pure ≡ r
then_pure (Goes a s) = refl
then_pure (Stops h s) = refl

pub if_ok_map : {A E : Type 0} (P Q : A → Type 0) (r : Result A E) → ((a : A) → P a → Q a) → IfOk r P → IfOk r Q
if_ok_map P Q (Ok a) h p = h a p
if_ok_map P Q (Err e) h p = p

pub empty_of : {X : Type 0} (xs : List X) → length xs ≡ 0 → xs ≡ []
empty_of [] none = refl
empty_of (x ∷ xs) none = absurd (omega (arith, none))

last_of_rest : (r : Step Value (List Value)) (a : Value) (k : List Value → Run Value Value) (g : Value → Run Value Value)
    → and_then (and_then (and_then r (λ vs. pure (a ∷ vs))) k) g ≡ and_then r (λ vs. k (a ∷ vs) >>= g)
last_of_rest (Goes vs s) a k g = refl
last_of_rest (Stops h s) a k g = refl

last_taken : (r : Step Value (List Value)) (a : Value) (k : List Value → Run Value Value) → and_then (and_then r (λ vs. pure (a ∷ vs))) k ≡ and_then r (λ vs. k (a ∷ vs))
last_taken (Goes vs s) a k = refl
last_taken (Stops h s) a k = refl

module _ (k : Kernel) (f : CompileEnter) where
  pub held_push : (h : Held) (cs : Cells) (c : Cell Waiting) → held_on k f h (cs ++ c ∷ []) ≡ holds k f (held_on k f h cs) c
  held_push h [] c = refl
  held_push h (x ∷ cs) c = held_push (holds k f h x) cs c

  pub pushed : (old new : Cells) (c : Cell Waiting) → new ≡ old ++ c ∷ [] → held k f new ≡ holds k f (held k f old) c
  pushed old new c is = ap (held k f) is ∙ held_push bottom old c

  pub on : (c : Control) (vs : List Value) (old new : Cells) (g : Cell Waiting) (m : Left) → new ≡ old ++ g ∷ [] → rest k f c vs new m ≡ from k f c vs (holds k f (held k f old) g) m
  on c vs old new g m is = ap (λ h. from k f c vs h m) (pushed old new g is)

  -- a part that begins with another, whose value goes to what waits
  pub down : (p : Run Value Value) (w : Bor Expr) (q : Value → Run Value Value) (g : Waiting) (old new : Cells) (vs : List Value) (m : Left)
      → p ≡ (compile k f w.now 0 >>= q) → new ≡ old ++ Waits g ∷ []
      → ((h : Held) → from k f (Work w) vs (waits k f h g) m ≡ and_then (compile k f w.now 0 (at m h.env)) (λ v. q v >>= h.give))
      → Turns k f p old m (Work w) vs new m
  down p w q g old new vs m is push gives =
      let h = held k f old in
      ap (λ z. and_then (z (at m h.env)) h.give) is
      ∙ then_then (compile k f w.now 0 (at m h.env)) q h.give
      ∙ sym (gives h)
      ∙ sym (on (Work w) vs old new (Waits g) m push)

  -- the same part by another name
  pub same_run : (p q : Run Value Value) (cells : Cells) (m : Left) (c : Control) (vs : List Value) (cells' : Cells) (m' : Left)
      → p ≡ q → Turns k f q cells m c vs cells' m' → Turns k f p cells m c vs cells' m'
  same_run p q cells m c vs cells' m' is t = ap (λ z. and_then (z (at m (held k f cells).env)) (held k f cells).give) is ∙ t

  -- ---- operands

  pub gather_none : (job : Job) (place : Place) (es : List Expr) (old new : Cells) (vs : List Value) (m : Left)
      → es ≡ [] → vs ≡ [] → new ≡ old ++ Waits (waiting.Gather job place) ∷ [] → Turns k f (gathered k f job place es) old m Take vs new m
  gather_none job place es old new vs m none taken push =
      ap (λ z. and_then (gathered k f job place z (at m (held k f old).env)) (held k f old).give) none
      ∙ ap (λ z. (waits k f (held k f old) (waiting.Gather job place)).take (reverse z) (at m (held k f old).env)) (sym taken)
      ∙ sym (on Take vs old new (Waits (waiting.Gather job place)) m push)

  pub gather_first : (job : Job) (place : Place) (es : List Expr) (w : Bor Expr) (more : Bor (List Expr)) (old mid new : Cells) (vs : List Value) (m : Left)
      → IsFirstAndRest es w.now more.now → mid ≡ old ++ Waits (waiting.Gather job place) ∷ [] → new ≡ mid ++ Waits (waiting.Operands more) ∷ []
      → Turns k f (gathered k f job place es) old m (Work w) vs new m
  gather_first job place es w more old mid new vs m first push push' =
      let h = held k f old in
      let r : Step Value Value = compile k f w.now 0 (at m h.env) in
      let rests : Value → Run Value (List Value) = λ a. values_of k f more.now >>= (λ vs. pure (a ∷ vs)) in
      let job_on : List Value → Run Value Value = λ vs. does k f job place vs in
      ap (λ z. and_then (gathered k f job place z (at m h.env)) h.give) first.0
      ∙ ap (λ z. and_then z h.give) (then_then r rests job_on)
      ∙ then_then r (λ a. rests a >>= job_on) h.give
      ∙ (λ i. and_then r (λ a s. last_of_rest (values_of k f more.now s) a job_on h.give i))
      ∙ ap (λ z. from k f (Work w) vs (waits k f z (waiting.Operands more)) m) (sym (pushed old mid (Waits (waiting.Gather job place)) push))
      ∙ sym (on (Work w) vs mid new (Waits (waiting.Operands more)) m push')

  pub next_none : (v : Value) (es : List Expr) (old new : Cells) (vs : List Value) (m : Left)
      → es ≡ [] → vs ≡ [] → new ≡ old ++ Waits (waiting.Operand v) ∷ [] → NextOperand k f v es old m Take vs new
  next_none v es old new vs m none taken push =
      ap (λ z. and_then (values_of k f z (at m (held k f old).env)) (λ vs. (held k f old).take (v ∷ vs))) none
      ∙ ap (λ z. (held k f old).take (v ∷ reverse z) (at m (held k f old).env)) (sym taken)
      ∙ sym (on Take vs old new (Waits (waiting.Operand v)) m push)

  pub next_first : (v : Value) (es : List Expr) (w : Bor Expr) (more : Bor (List Expr)) (old mid new : Cells) (vs : List Value) (m : Left)
      → IsFirstAndRest es w.now more.now → mid ≡ old ++ Waits (waiting.Operand v) ∷ [] → new ≡ mid ++ Waits (waiting.Operands more) ∷ []
      → NextOperand k f v es old m (Work w) vs new
  next_first v es w more old mid new vs m first push push' =
      let h = held k f old in
      let r : Step Value Value = compile k f w.now 0 (at m h.env) in
      let rests : Value → Run Value (List Value) = λ a. values_of k f more.now >>= (λ vs. pure (a ∷ vs)) in
      let job_on : List Value → Run Value Value = λ vs. h.take (v ∷ vs) in
      ap (λ z. and_then (values_of k f z (at m h.env)) job_on) first.0
      ∙ then_then r rests job_on
      ∙ (λ i. and_then r (λ a s. last_taken (values_of k f more.now s) a job_on i))
      ∙ ap (λ z. from k f (Work w) vs (waits k f z (waiting.Operands more)) m) (sym (pushed old mid (Waits (waiting.Operand v)) push))
      ∙ sym (on (Work w) vs mid new (Waits (waiting.Operands more)) m push')

  -- ---- sequences

  pub order_none : (place : Place) (es : List Expr) (cells : Cells) (vs : List Value) (m : Left)
      → es ≡ [] → Turns k f (last_of k f place es) cells m (Halted (Wrong place)) vs cells m
  order_none place es cells vs m none = ap (λ z. and_then (last_of k f place z (at m (held k f cells).env)) (held k f cells).give) none

  pub order_last : (place : Place) (es : List Expr) (w : Bor Expr) (more : List Expr) (cells : Cells) (vs : List Value) (m : Left)
      → IsFirstAndRest es w.now more → more ≡ [] → Turns k f (last_of k f place es) cells m (Work w) vs cells m
  order_last place es w more cells vs m first none =
      ap (λ z. and_then (last_of k f place z (at m (held k f cells).env)) (held k f cells).give) (first.0 ∙ ap (λ z. w.now ∷ z) none)

  order_more : (place : Place) (e : Expr) (more : List Expr) → 1 ≤ length more → last_of k f place (e ∷ more) ≡ (compile k f e 0 >>= (λ a. last_of k f place more))
  order_more place e [] some = absurd (omega (arith, some))
  order_more place e (x ∷ more) some = refl

  pub order_first : (place : Place) (es : List Expr) (w : Bor Expr) (more : Bor (List Expr)) (old new : Cells) (vs : List Value) (m : Left)
      → IsFirstAndRest es w.now more.now → 1 ≤ length more.now → new ≡ old ++ Waits (waiting.Rest place more) ∷ [] → Turns k f (last_of k f place es) old m (Work w) vs new m
  order_first place es w more old new vs m first some push =
      down (last_of k f place es) w (λ a. last_of k f place more.now) (waiting.Rest place more) old new vs m
      (ap (λ z. last_of k f place z) first.0 ∙ order_more place w.now more.now some) push (λ h. refl)

  -- ---- the body of a let, whose local has its slot

  let_goes : (r : Step Value Value) (g : Value → Run Value Value) → and_then (and_then r (λ a. get_locals >>= (λ later. put_locals (Rattle.std.specs.Prelude.drop 1 later) >> pure a))) g ≡ and_then r (λ w. dropping 1 (g w))
  let_goes (Goes w s) g = refl
  let_goes (Stops h s) g = refl

  pub body_on : (x : ℕ) (v : Value) (b : Bor Expr) (old new : Cells) (vs : List Value) (m : Left)
      → new ≡ old ++ Local x v ∷ [] → Turns k f (binding x v (compile k f b.now 0)) old m (Work b) vs new m
  body_on x v b old new vs m push =
      let h = held k f old in
      let_goes (compile k f b.now 0 (at m ((x, v) ∷ h.env))) h.give
      ∙ sym (on (Work b) vs old new (Local x v) m push)
