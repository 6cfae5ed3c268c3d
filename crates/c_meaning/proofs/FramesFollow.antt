-- Frames that wait, the values that a call passes, and the machine's move at a call and at a return.
-- For: perform_call, leave, variables_of_call, step
use Rattle.std.proofs.Common.{◌≡◌, ℕ, suc, ℤ, ◌+◌, ◌-◌, ◌<◌, true, List, [], ◌∷◌, ◌++◌, length, map, take, get_or, drop, Option, Some, None, refl, sym, ap, ◌∙◌, arith}
use Rattle.std.specs.Prelude.{is_some, slice_get, slice_set}
use Rattle.std.specs.List.{AllByRecursion}
use Rattle.std.proofs.lemmas.List.{map-append, append_assoc, take_more, set_at, length-map, length-take-le}
use Rattle.byte_store.specs.declared.event.Event.{Event}
use Rattle.ps_base.specs.declared.faults.Op.TheVariants.{Unset}
use Rattle.byte_store.specs.Machine.{Move, Goes}
use Rattle.byte_store.specs.Worlds.{Surroundings}
use Rattle.c_ast.specs.declared.unit.CFunction.{CFunction}
use Rattle.c_ast.specs.declared.unit.CUnit.{CUnit}
use Rattle.c_ast.specs.declared.unit.Statement.{Statement}
use Rattle.c_ast.specs.declared.unit.Statement.TheVariants as statements
use Rattle.c_meaning.specs.declared.stack.Waiting.{Waiting}
use Rattle.c_meaning.specs.Machine.{Locals, Caller, State, values_of, with_one, with_value, body_of, statements_of, unset, enter, leave, perform}
use Rattle.c_meaning.specs.Stack.{Stack}
use Rattle.c_meaning.specs.Steps.{caller_of, callers_of, machine_state}

-- ---- frames that wait

-- the last frame of the code is the machine's first
pub callers-push : (u : CUnit) (cs : List Waiting) (c : Waiting) → callers_of u (cs ++ c ∷ []) ≡ caller_of u c ∷ callers_of u cs
callers-push u [] c = refl
callers-push u (x ∷ cs) c = ap (λ l. l ++ caller_of u x ∷ []) (callers-push u cs c)

-- what holds of each holds of the last
pub all-last : {A : Type 0} (P : A → Type 0) (xs : List A) (x : A) → AllByRecursion P (xs ++ x ∷ []) → P x
all-last P [] x h = h.0
all-last P (y ∷ ys) x h = all-last P ys x h.1

-- ---- values that a call passes

with_one-is : (o : Option ℤ) (p : Option (List ℤ)) (vs : List ℤ) → with_one o p ≡ Some vs → (v : ℤ) × (ws : List ℤ) × (o ≡ Some v) × (p ≡ Some ws) × (vs ≡ v ∷ ws)
with_one-is None p vs e = absurd cc
with_one-is (Some v) None vs e = absurd cc
with_one-is (Some v) (Some ws) vs e = (v, ws, refl, refl, let same : v ∷ ws ≡ vs = cc in sym same)

-- where all are assigned, the values are what the variables stand for
pub values-are : (locals : Locals) (ks : List ℕ) (vs : List ℤ) → values_of locals ks ≡ Some vs → map (λ k. get_or locals k None) ks ≡ map Some vs
values-are locals [] vs e = let none : [] ≡ vs = cc in ap (map Some) none
values-are locals (k ∷ ks) vs e =
    let h = with_one-is (get_or locals k None) (values_of locals ks) vs e in
    ap (λ o. o ∷ map (λ k. get_or locals k None) ks) h.2 ∙ ap (λ l. Some h.0 ∷ l) (values-are locals ks h.1 h.3) ∙ ap (map Some) (sym h.4)

pub some-from : {A : Type 0} (o : Option A) → is_some o ≡ true → (x : A) × (o ≡ Some x)
some-from None e = absurd cc
some-from (Some x) e = (x, refl)

-- one more argument is written into a frame that has i of them
pub fills : (f : ℕ → Option ℤ) (ks : List ℕ) (i more : ℕ) (items : Locals) (v : Option ℤ) → items ≡ map f (take i ks) ++ unset (length ks - i + more) → v ≡ f (get_or ks i 0) → i < length ks
    → slice_set items i v ≡ map f (take (i + 1) ks) ++ unset (length ks - (i + 1) + more)
fills f ks i more items v is value lt =
    let n = length ks - (i + 1) + more in
    let count : length ks - i + more ≡ suc n = omega arith in
    let front : length (map f (take i ks)) ≡ i = length-map (take i ks) f ∙ length-take-le i ks (omega arith) in
    ap (λ l. slice_set l i v) (is ∙ ap (λ m. map f (take i ks) ++ unset m) count)
    ∙ set_at (map f (take i ks)) None (unset n) v i front
    ∙ ap (λ x. map f (take i ks) ++ x ∷ unset n) value
    ∙ sym (append_assoc (map f (take i ks)) (f (get_or ks i 0) ∷ []) (unset n))
    ∙ ap (λ l. l ++ unset n) (sym (ap (map f) (take_more ks i 0 lt) ∙ map-append f (take i ks) (get_or ks i 0 ∷ [])))

-- ---- moves

-- the stack of the code behind a call
abbrev pub entered : Stack → ℕ → ℕ → Locals → Stack
entered s k n locals = record { function = n; locals = locals; next = 0; callers = s.callers ++ record { function = s.function; locals = s.locals; next = s.next + 1; target = k } ∷ [] }

-- a call whose arguments are assigned enters its function
pub call-goes : (u : CUnit) (s s' : Stack) (k n : ℕ) (ks : List ℕ) (f : CFunction) (locals : Locals) → is_some (values_of s.locals ks) ≡ true → slice_get u.functions n ≡ Some f
    → locals ≡ map (λ k. get_or s.locals k None) ks ++ unset f.locals → s' ≡ entered s k n locals
    → (w : Surroundings) (e : List Event) → perform u (machine_state u s w e) (statements.Call k n ks) (drop (s.next + 1) (body_of u s.function)) ≡ Goes (machine_state u s' w e)
call-goes u s s' k n ks f locals assigned is new at w e =
    let S = machine_state u s w e in
    let left = drop (s.next + 1) (body_of u s.function) in
    let waiting : Waiting = record { function = s.function; locals = s.locals; next = s.next + 1; target = k } in
    let some = some-from (values_of s.locals ks) assigned in
    let variables : map Some some.0 ++ unset f.locals ≡ locals = sym (new ∙ ap (λ l. l ++ unset f.locals) (values-are s.locals ks some.0 some.1)) in
    let body : f.statements ≡ body_of u n = sym (ap statements_of is) in
    let to : Locals → List Statement → List Caller → Move State = λ l b cs. Goes (record S { function = n; locals = l; left = b; callers = cs }) in
    ap (λ o. with_value Unset o (λ vs. enter S left k n vs (slice_get u.functions n))) some.1
    ∙ ap (λ o. enter S left k n some.0 o) is
    ∙ ap (λ l. to l f.statements (caller_of u waiting ∷ S.callers)) variables
    ∙ ap (λ b. to locals b (caller_of u waiting ∷ S.callers)) body
    ∙ ap (λ cs. to locals (body_of u n) cs) (sym (callers-push u s.callers waiting))
    ∙ ap (λ t. Goes (machine_state u t w e)) (sym at)

-- the stack of the code behind a return
abbrev pub returned : List Waiting → Waiting → ℤ → Stack
returned cs c i = record { function = c.function; locals = slice_set c.locals c.target (Some i); next = c.next; callers = cs }

-- a call ends, and a frame that waits goes on
pub leave-goes : (u : CUnit) (s s' : Stack) (i : ℤ) (cs : List Waiting) (c : Waiting) → s.callers ≡ cs ++ c ∷ [] → s' ≡ returned cs c i
    → (w : Surroundings) (e : List Event) → leave (machine_state u s w e) (callers_of u s.callers) i ≡ Goes (machine_state u s' w e)
leave-goes u s s' i cs c last at w e =
    ap (λ l. leave (machine_state u s w e) l i) (ap (callers_of u) last ∙ callers-push u cs c) ∙ ap (λ t. Goes (machine_state u t w e)) (sym at)
