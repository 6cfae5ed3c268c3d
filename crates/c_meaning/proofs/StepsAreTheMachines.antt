-- A step by code is the machine's, and leaves each frame at one of its function's statements.
-- For: CState::start, step
use Rattle.std.proofs.Common.{◌≡◌, ℕ, ℤ, zero, suc, ◌+◌, ◌<◌, Bool, true, false, List, [], ◌∷◌, ◌++◌, length, map, get_or, drop, Option, Some, None, refl, sym, ap, ◌∙◌, subst, inl, inr, ⊎_elim, arith, length-drop, length-append}
use Rattle.std.specs.Prelude.{if◌then◌else◌, pos, slice_get, slice_set, option_map, ◌⊎◌}
use Rattle.std.specs.List.{AllByRecursion}
use Rattle.std.proofs.lemmas.List.{length-set, length-map, length-replicate, drop_more}
use Rattle.std.proofs.lemmas.Option.{slice_get-map, slice_get_within, get_or_from_slice_get}
use Rattle.byte_store.specs.declared.event.Event.{Event}
use Rattle.ps_base.specs.declared.faults.Op.{Op}
use Rattle.ps_base.specs.declared.faults.Op.TheVariants.{Overflow, Byte, Unset}
use Rattle.ps_base.specs.Numbers.{fit, byte_of}
use Rattle.byte_store.specs.Machine.{Move, Goes, Ends}
use Rattle.byte_store.specs.Worlds.{Surroundings, next_byte}
use Rattle.c_ast.specs.declared.unit.CFunction.{CFunction}
use Rattle.c_ast.specs.declared.unit.CUnit.{CUnit}
use Rattle.c_ast.specs.declared.unit.Statement.{Statement}
use Rattle.c_ast.specs.declared.unit.Statement.TheVariants as statements
use Rattle.c_ast.specs.WellFormed.{IsStatement, EndsWell, variables_of, arities_of, declared_in, IsFunction, IsWellFormed}
use Rattle.c_meaning.specs.declared.machine.StepOut.{StepOut}
use Rattle.c_meaning.specs.declared.machine.StepOut.TheVariants as outs
use Rattle.c_meaning.specs.declared.stack.Waiting.{Waiting}
use Rattle.c_meaning.specs.Machine.{Locals, Caller, State, atom_value, values_of, with_value, result_of, is_zero, is_label, after_label, statements_of, body_of, locals_of, unset, jump, branch, enter, leave, perform, step_at, machine}
use Rattle.c_meaning.specs.Stack.{Stack}
use Rattle.c_meaning.specs.Steps.{StandsAt, Waits, Stands, starts_at, caller_of, callers_of, machine_state, IsMove, Steps}
use Rattle.c_meaning.specs.InsideSteps.{HasTarget, IsNext, NamesOwn, Performs}
use Rattle.c_meaning.proofs.FramesFollow.{values-are, all-last}
use Rattle.ps_base.proofs.Choices.{true_or_false}

-- ---- lists

-- what holds of each holds of the one at a place
all-at : {A : Type 0} (P : A → Type 0) (xs : List A) (i : ℕ) (x : A) → slice_get xs i ≡ Some x → AllByRecursion P xs → P x
all-at P [] i x e h = absurd cc
all-at P (y ∷ ys) zero x e h = let same : y ≡ x = cc in subst P same h.0
all-at P (y ∷ ys) (suc i) x e h = all-at P ys i x e h.1

all-drop : {A : Type 0} (P : A → Type 0) (xs : List A) (i : ℕ) → AllByRecursion P xs → AllByRecursion P (drop i xs)
all-drop P xs zero h = h
all-drop P [] (suc i) h = tt
all-drop P (x ∷ xs) (suc i) h = all-drop P xs i h.1

all-push : {A : Type 0} (P : A → Type 0) (xs : List A) (x : A) → AllByRecursion P xs → P x → AllByRecursion P (xs ++ x ∷ [])
all-push P [] x h p = (p, tt)
all-push P (y ∷ ys) x h p = (h.0, all-push P ys x h.1 p)

all-front : {A : Type 0} (P : A → Type 0) (xs : List A) (x : A) → AllByRecursion P (xs ++ x ∷ []) → AllByRecursion P xs
all-front P [] x h = tt
all-front P (y ∷ ys) x h = (h.0, all-front P ys x h.1)

-- ---- what is left of a body that ends well

rest-ends : (t : Statement) (left : List Statement) → EndsWell (t ∷ left) → (left ≡ []) ⊎ EndsWell left
rest-ends t [] h = inl refl
rest-ends (statements.Move k a) (x ∷ xs) h = inr h
rest-ends (statements.Operation k a o b) (x ∷ xs) h = inr h
rest-ends (statements.Read k) (x ∷ xs) h = inr h
rest-ends (statements.Write k a) (x ∷ xs) h = inr h
rest-ends (statements.Call k f vs) (x ∷ xs) h = inr h
rest-ends (statements.IfGoto a n) (x ∷ xs) h = inr h
rest-ends (statements.Goto n) (x ∷ xs) h = inr h
rest-ends (statements.Label n) (x ∷ xs) h = inr h
rest-ends (statements.Return a) (x ∷ xs) h = inr h

label-ends : (n : ℕ) (t : Statement) (left : List Statement) → is_label n t ≡ true → EndsWell (t ∷ left) → EndsWell left
label-ends n (statements.Label m) [] e h = h
label-ends n (statements.Label m) (x ∷ xs) e h = h
label-ends n (statements.Move k a) left e h = absurd cc
label-ends n (statements.Operation k a o b) left e h = absurd cc
label-ends n (statements.Read k) left e h = absurd cc
label-ends n (statements.Write k a) left e h = absurd cc
label-ends n (statements.Call k f vs) left e h = absurd cc
label-ends n (statements.IfGoto a m) left e h = absurd cc
label-ends n (statements.Goto m) left e h = absurd cc
label-ends n (statements.Return a) left e h = absurd cc

-- what stands behind a label ends well
behind-ends : (n : ℕ) (ss left : List Statement) → after_label n ss ≡ Some left → EndsWell ss → EndsWell left
behind-ends n [] left e h = absurd h
behind-ends n (t ∷ ss) left e h =
    ⊎_elim
    (λ yes.
    let same : Some ss ≡ Some left = sym (ap (λ b. if b then Some ss else after_label n ss) yes) ∙ e in
    let lists : ss ≡ left = cc in
    subst EndsWell lists (label-ends n t ss yes h))
    (λ no.
    let later : after_label n ss ≡ Some left = sym (ap (λ b. if b then Some ss else after_label n ss) no) ∙ e in
    ⊎_elim
    (λ none. let gone : after_label n ss ≡ None = ap (after_label n) none in absurd (let clash : Some left ≡ None = sym later ∙ gone in cc))
    (λ ends. behind-ends n ss left later ends)
    (rest-ends t ss h))
    (true_or_false (is_label n t))

-- and so does what stands from a place on
drop-ends : (ss : List Statement) (i : ℕ) → i < length ss → EndsWell ss → EndsWell (drop i ss)
drop-ends [] i lt h = absurd h
drop-ends (t ∷ ss) zero lt h = h
drop-ends (t ∷ ss) (suc i) lt h =
    ⊎_elim
    (λ none. let none-left : length ss ≡ 0 = ap length none in absurd (omega arith))
    (λ ends. drop-ends ss i (omega arith) ends)
    (rest-ends t ss h)

nonempty : (body : List Statement) (i : ℕ) → EndsWell (drop i body) → i < length body
nonempty body i h = by (drop i body) refl h
  where
    by : (ss : List Statement) → drop i body ≡ ss → EndsWell ss → i < length body
    by [] e r = absurd r
    by (t ∷ ss) e r = omega (arith, length-drop i body, ap length e)

-- ---- good states of the machine

record GoodFrame (u : CUnit) (function : ℕ) (locals : Locals) (left : List Statement) : Type 0 where
  it : CFunction
  is : slice_get u.functions function ≡ Some it
  variables : length locals ≡ variables_of it
  ends : EndsWell left

record GoodCaller (u : CUnit) (c : Caller) : Type 0 where
  frame : GoodFrame u c.function c.locals c.left
  target : c.target < length c.locals

record Good (u : CUnit) (s : State) : Type 0 where
  runs : GoodFrame u s.function s.locals s.left
  waits : AllByRecursion (GoodCaller u) s.callers

abbrev GoodMove : CUnit → Move State → Type 0
GoodMove u (Goes t) = Good u t
GoodMove u (Ends e) = Unit {0}

with-good : {A : Type 0} (u : CUnit) (op : Op) (o : Option A) (next : A → Move State) → ((x : A) → o ≡ Some x → GoodMove u (next x)) → GoodMove u (with_value op o next)
with-good u op None next h = tt
with-good u op (Some x) next h = h x refl

-- a function of a well-formed unit ends well
function-is : (u : CUnit) → IsWellFormed u → (n : ℕ) (f : CFunction) → slice_get u.functions n ≡ Some f → IsFunction (arities_of u) f
function-is u w n f e = all-at (IsFunction (arities_of u)) u.functions n f e w.functions

-- how many parameters a function has
arity-is : (u : CUnit) (n k : ℕ) (f : CFunction) → slice_get u.functions n ≡ Some f → slice_get (arities_of u) n ≡ Some k → k ≡ f.parameters
arity-is u n k f is at =
    let e : Some k ≡ Some f.parameters = sym at ∙ slice_get-map (λ g. g.parameters) u.functions n ∙ ap (option_map (λ g. g.parameters)) is in
    cc

-- a state whose frame has the variables of its function
module _ (u : CUnit) (w : IsWellFormed u) (s : State) (it : CFunction) (is : slice_get u.functions s.function ≡ Some it) (same : length s.locals ≡ variables_of it) (waits : AllByRecursion (GoodCaller u) s.callers) where
  assigned-good : (left : List Statement) (k : ℕ) (v : Option ℤ) → EndsWell left → GoodFrame u s.function (slice_set s.locals k v) left
  assigned-good left k v r = record { it = it; is = is; variables = length-set s.locals k v ∙ same; ends = r }

  jump-good : (n : ℕ) (o : Option (List Statement)) → after_label n (body_of u s.function) ≡ o → GoodMove u (jump s o)
  jump-good n None e = tt
  jump-good n (Some left) e =
      let ends : EndsWell (body_of u s.function) = subst EndsWell (sym (ap statements_of is)) (function-is u w s.function it is).returns in
      record { runs = record { it = it; is = is; variables = same; ends = behind-ends n (body_of u s.function) left e ends }; waits = waits }

  branch-good : (left : List Statement) (n : ℕ) (i : ℤ) → EndsWell left → GoodMove u (branch (body_of u s.function) s left n i)
  branch-good left n i r =
      elim (is_zero i) as (λ b. GoodMove u (if b then Goes (record s { left = left }) else jump s (after_label n (body_of u s.function))))
      [ true ↦ record { runs = record { it = it; is = is; variables = same; ends = r }; waits = waits } | false ↦ jump-good n (after_label n (body_of u s.function)) refl ]

  enter-good : (left : List Statement) (k n : ℕ) (vs : List ℤ) (arity : ℕ) → k < length s.locals → EndsWell left → slice_get (arities_of u) n ≡ Some arity → length vs ≡ arity
      → (o : Option CFunction) → slice_get u.functions n ≡ o → GoodMove u (enter s left k n vs o)
  enter-good left k n vs arity lt r at count None e = tt
  enter-good left k n vs arity lt r at count (Some f) e =
      let parameters : length (map Some vs) ≡ f.parameters = length-map vs Some ∙ count ∙ arity-is u n arity f e at in
      let count : length (map Some vs ++ unset f.locals) ≡ variables_of f = omega (arith, length-append (map Some vs) (unset f.locals), length-replicate {A = Option ℤ} f.locals None) in
      record {
        runs = record { it = f; is = e; variables = count; ends = (function-is u w n f e).returns };
        waits = (record { frame = record { it = it; is = is; variables = same; ends = r }; target = lt }, waits);
      }

  leave-good : (cs : List Caller) (i : ℤ) → AllByRecursion (GoodCaller u) cs → GoodMove u (leave s cs i)
  leave-good [] i h = tt
  leave-good (c ∷ cs) i h =
      record { runs = record { it = h.0.frame.it; is = h.0.frame.is; variables = length-set c.locals c.target (Some i) ∙ h.0.frame.variables; ends = h.0.frame.ends }; waits = h.1 }

  perform-good : (t : Statement) (left : List Statement) → IsStatement (declared_in (arities_of u) it) t → EndsWell (t ∷ left) → GoodMove u (perform u s t left)
  perform-good (statements.Move k a) [] d r = absurd r
  perform-good (statements.Move k a) (x ∷ xs) d r = with-good u Unset (atom_value s.locals a) _ (λ i _. record { runs = assigned-good (x ∷ xs) k (Some i) r; waits = waits })
  perform-good (statements.Operation k a o b) [] d r = absurd r
  perform-good (statements.Operation k a o b) (x ∷ xs) d r =
      with-good u Unset (atom_value s.locals a) _ (λ i _. with-good u Unset (atom_value s.locals b) _ (λ j _. with-good u Overflow (fit (result_of o i j)) _ (λ n _. record { runs = assigned-good (x ∷ xs) k (Some n) r; waits = waits })))
  perform-good (statements.Read k) [] d r = absurd r
  perform-good (statements.Read k) (x ∷ xs) d r = record { runs = assigned-good (x ∷ xs) k (Some (next_byte s.world.input)) r; waits = waits }
  perform-good (statements.Write k a) [] d r = absurd r
  perform-good (statements.Write k a) (x ∷ xs) d r =
      with-good u Unset (atom_value s.locals a) _ (λ i _. with-good u Byte (byte_of i) _ (λ b _. record { runs = assigned-good (x ∷ xs) k (Some (pos 0)) r; waits = waits }))
  perform-good (statements.Call k n ks) [] d r = absurd r
  perform-good (statements.Call k n ks) (x ∷ xs) d r =
      let target : k < length s.locals = subst (λ m. k < m) (sym same) d.0 in
      with-good u Unset (values_of s.locals ks) _ (λ vs e.
      let lists = values-are s.locals ks vs e in
      let count : length vs ≡ length ks = sym (length-map vs Some) ∙ ap length (sym lists) ∙ length-map ks (λ k. get_or s.locals k None) in
      enter-good (x ∷ xs) k n vs (length ks) target r d.2 count (slice_get u.functions n) refl)
  perform-good (statements.IfGoto a n) [] d r = absurd r
  perform-good (statements.IfGoto a n) (x ∷ xs) d r = with-good u Unset (atom_value s.locals a) _ (λ i _. branch-good (x ∷ xs) n i r)
  perform-good (statements.Goto n) left d r = jump-good n (after_label n (body_of u s.function)) refl
  perform-good (statements.Label n) [] d r = absurd r
  perform-good (statements.Label n) (x ∷ xs) d r = record { runs = record { it = it; is = is; variables = same; ends = r }; waits = waits }
  perform-good (statements.Return a) left d r = with-good u Unset (atom_value s.locals a) _ (λ i _. leave-good s.callers i waits)

-- ---- frames of the code and of the machine

good-frame : (u : CUnit) → IsWellFormed u → (function : ℕ) (locals : Locals) (next : ℕ) → StandsAt u function locals next → GoodFrame u function locals (drop next (body_of u function))
good-frame u w function locals next h =
    let body : body_of u function ≡ h.it.statements = ap statements_of h.is in
    let ends : EndsWell (drop next (body_of u function)) = subst (λ ss. EndsWell (drop next ss)) (sym body) (drop-ends h.it.statements next h.here (function-is u w function h.it h.is).returns) in
    record { it = h.it; is = h.is; variables = h.variables; ends = ends }

frame-stands : (u : CUnit) (function : ℕ) (locals : Locals) (next : ℕ) → GoodFrame u function locals (drop next (body_of u function)) → StandsAt u function locals next
frame-stands u function locals next h =
    let body : body_of u function ≡ h.it.statements = ap statements_of h.is in
    record { it = h.it; is = h.is; variables = h.variables; here = subst (λ ss. next < length ss) body (nonempty (body_of u function) next h.ends) }

good-callers : (u : CUnit) → IsWellFormed u → (cs : List Waiting) → AllByRecursion (Waits u) cs → AllByRecursion (GoodCaller u) (callers_of u cs)
good-callers u w [] h = tt
good-callers u w (c ∷ cs) h =
    all-push (GoodCaller u) (callers_of u cs) (caller_of u c) (good-callers u w cs h.1) (record { frame = good-frame u w c.function c.locals c.next h.0.stands; target = h.0.target })

callers-wait : (u : CUnit) (cs : List Waiting) → AllByRecursion (GoodCaller u) (callers_of u cs) → AllByRecursion (Waits u) cs
callers-wait u [] h = tt
callers-wait u (c ∷ cs) h =
    let last : GoodCaller u (caller_of u c) = all-last (GoodCaller u) (callers_of u cs) (caller_of u c) h in
    (record { stands = frame-stands u c.function c.locals c.next last.frame; target = last.target }, callers-wait u cs (all-front (GoodCaller u) (callers_of u cs) (caller_of u c) h))

-- ---- the statement that the code reads

-- what stands at a place of a body
front : (body : List Statement) (i : ℕ) (t : Statement) → slice_get body i ≡ Some t → drop i body ≡ t ∷ drop (i + 1) body
front body i t e = drop_more body i t (slice_get_within body i t e) ∙ ap (λ x. x ∷ drop (i + 1) body) (get_or_from_slice_get body i t t e)

-- the next statement names variables of the frame
pub step-declared : (u : CUnit) (s : Stack) (t : Statement) → Stands u s → IsNext u s t → NamesOwn s.locals t
step-declared u s t h e =
    let it = h.runs.it in
    let d = declared_in (arities_of u) it in
    let f = function-is u h.well_formed s.function it h.runs.is in
    let at : IsStatement d t = all-at (IsStatement d) (body_of u s.function) s.next t e (subst (AllByRecursion (IsStatement d)) (sym (ap statements_of h.runs.is)) f.declared) in
    (d.labels, d.functions, subst (λ n. IsStatement (record { variables = n; labels = d.labels; functions = d.functions }) t) (sym h.runs.variables) at)

-- each frame that waits has the variable to which its value goes
pub step-targets : (u : CUnit) (cs : List Waiting) → AllByRecursion (Waits u) cs → AllByRecursion HasTarget cs
step-targets u [] h = tt
step-targets u (c ∷ cs) h = (h.0.target, step-targets u cs h.1)

-- its performance by code is the machine's step
pub step-steps : (u : CUnit) (s s' : Stack) (w w' : Surroundings) (e e' : List Event) (out : StepOut) (t : Statement) → IsNext u s t → Performs out u t s s' w w' e e' → Steps out u s s' w w' e e'
step-steps u s s' w w' e e' out t is performs =
    let first = ap (step_at u (machine_state u s w e)) (front (body_of u s.function) s.next t is) in
    subst (λ m. IsMove out m u s s' w w' e e') (sym first) performs

-- the machine's step leads to a good state
step-good : (u : CUnit) (s : Stack) (w : Surroundings) (e : List Event) → Stands u s → GoodMove u ((machine u).step (machine_state u s w e))
step-good u s w e h =
    let it = h.runs.it in
    let d = declared_in (arities_of u) it in
    let f = function-is u h.well_formed s.function it h.runs.is in
    by (drop s.next (body_of u s.function)) (good-frame u h.well_formed s.function s.locals s.next h.runs).ends (subst (λ b. AllByRecursion (IsStatement d) (drop s.next b)) (sym (ap statements_of h.runs.is)) (all-drop (IsStatement d) it.statements s.next f.declared))
  where
    by : (left : List Statement) → EndsWell left → AllByRecursion (IsStatement (declared_in (arities_of u) h.runs.it)) left → GoodMove u (step_at u (machine_state u s w e) left)
    by [] r d = absurd r
    by (t ∷ left) r d = perform-good u h.well_formed (machine_state u s w e) h.runs.it h.runs.is h.runs.variables (good-callers u h.well_formed s.callers h.waits) t left d.0 r

-- the stack after a step of the machine stands for the unit again
stands-after : (u : CUnit) (s s' : Stack) (w w' : Surroundings) (e e' : List Event) → Stands u s → (machine u).step (machine_state u s w e) ≡ Goes (machine_state u s' w' e') → Stands u s'
stands-after u s s' w w' e e' h step =
    let good : Good u (machine_state u s' w' e') = subst (GoodMove u) step (step-good u s w e h) in
    record { well_formed = h.well_formed; runs = frame-stands u s'.function s'.locals s'.next good.runs; waits = callers-wait u s'.callers good.waits }

pub step-stands : (u : CUnit) (s s' : Stack) (w w' : Surroundings) (e e' : List Event) (out : StepOut) → Stands u s → Steps out u s s' w w' e e' → Stands u s'
step-stands u s s' w w' e e' outs.Going h step = stands-after u s s' w w' e e' h step
step-stands u s s' w w' e e' (outs.Returned i) h step = subst (Stands u) (sym step.1.0) h
step-stands u s s' w w' e e' (outs.Stuck op) h step = subst (Stands u) (sym step.1.0) h
step-stands u s s' w w' e e' outs.NoMemory h step = subst (Stands u) (sym step.1.0) h

-- ---- the start

-- a well-formed unit has a function 0
main-is : (u : CUnit) → IsWellFormed u → (it : CFunction) × (slice_get u.functions 0 ≡ Some it) × (it.parameters ≡ 0)
main-is u w = by u.functions w.main
  where
    by : (fs : List CFunction) → slice_get (map (λ f. f.parameters) fs) 0 ≡ Some 0 → (it : CFunction) × (slice_get fs 0 ≡ Some it) × (it.parameters ≡ 0)
    by [] e = absurd cc
    by (f ∷ fs) e = (f, refl, cc)

pub starts-stand : (u : CUnit) → IsWellFormed u → Stands u (starts_at u)
starts-stand u w =
    let main = main-is u w in
    let it = main.0 in
    let count : length (unset (locals_of (slice_get u.functions 0))) ≡ variables_of it = ap (λ o. length (unset (locals_of o))) main.1 ∙ omega (arith, length-replicate {A = Option ℤ} it.locals None, main.2) in
    let here : 0 < length it.statements = nonempty it.statements 0 (function-is u w 0 it main.1).returns in
    record { well_formed = w; runs = record { it = it; is = main.1; variables = count; here = here }; waits = tt }
