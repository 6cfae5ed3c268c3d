-- The locals that cells hold are those in scope on top of them, and a local's slot takes another value.
-- For: `local` and `put_local`
use Rattle.std.proofs.Common.{◌≡◌, ℕ, nat_eq, true, false, List, [], ◌∷◌, ◌++◌, Option, Some, None, refl, sym, ap, ◌∙◌, arith}
use Rattle.std.specs.Prelude.{is_some, if◌then◌else◌}
use Rattle.ps_base.specs.declared.faults.Place.{Place}
use Rattle.byte_store.specs.declared.pointer.Value.{Value}
use Rattle.byte_store.specs.declared.pointer.Value.TheVariants.{Unit as Nothing}
use Rattle.ps_kernel.specs.declared.kernel.Kernel.{Kernel}
use Rattle.ps_kernel.specs.Texts.{procedure_of}
use Rattle.ps_runs.specs.Runs.{Env, and_then, ◌>>=◌, pure, or_wrong}
use Rattle.ps_runs.specs.Locals.{found, put_in, get_locals, put_locals, local}
use Rattle.ps_runs.specs.Effects.{global, defined_in}
use Rattle.ps_meaning.specs.Eval.{CompileEnter, letrec_lambda, unless}
use Rattle.ps_slots.specs.declared.cell.Cell.TheVariants.{Entered, Local, Waits}
use Rattle.ps_slots.specs.Scope.{scope, scope_on, IsClear, Puts}
use Rattle.ps_static_eval.specs.declared.machine.Waiting.{Waiting}
use Rattle.ps_static_eval.specs.declared.machine.Waiting.TheVariants as waiting
use Rattle.ps_static_eval.specs.declared.machine.Control.{Control}
use Rattle.ps_static_eval.specs.declared.machine.Control.TheVariants.{Give, Halted}
use Rattle.ps_static_eval.specs.declared.machine.Halt.TheVariants.{Wrong, RunOnly}
use Rattle.ps_static_eval.specs.InsideMachine.{Cells, Left, at, Held, bottom, holds, waits, held, held_on, from, Turns, puts_local, compile_local, compile_global}

abbrev with_env : Held → Env Value → Held
with_env h env = record { env = env; give = h.give; take = h.take }

same_number : (n : ℕ) → nat_eq n n ≡ true
same_number n = grind arith

module _ (k : Kernel) (f : CompileEnter) where
  waits_env : (h : Held) (w : Waiting) → (waits k f h w).env ≡ h.env
  waits_env h (waiting.Branch a b c) = refl
  waits_env h (waiting.Choice a b c d) = refl
  waits_env h (waiting.Body a b) = refl
  waits_env h (waiting.Rest a b) = refl
  waits_env h (waiting.Assigned a) = refl
  waits_env h (waiting.Put a b) = refl
  waits_env h (waiting.Gather a b) = refl
  waits_env h (waiting.Operand a) = refl
  waits_env h (waiting.Operands a) = refl

  waits_with : (h : Held) (env : Env Value) (w : Waiting) → waits k f (with_env h env) w ≡ with_env (waits k f h w) env
  waits_with h env (waiting.Branch a b c) = refl
  waits_with h env (waiting.Choice a b c d) = refl
  waits_with h env (waiting.Body a b) = refl
  waits_with h env (waiting.Rest a b) = refl
  waits_with h env (waiting.Assigned a) = refl
  waits_with h env (waiting.Put a b) = refl
  waits_with h env (waiting.Gather a b) = refl
  waits_with h env (waiting.Operand a) = refl
  waits_with h env (waiting.Operands a) = refl

  scope_held : (h : Held) (cs : Cells) → (held_on k f h cs).env ≡ scope_on h.env cs
  scope_held h [] = refl
  scope_held h (Entered ∷ cs) = scope_held (holds k f h Entered) cs
  scope_held h (Local x v ∷ cs) = scope_held (holds k f h (Local x v)) cs
  scope_held h (Waits w ∷ cs) = scope_held (waits k f h w) cs ∙ ap (λ z. scope_on z cs) (waits_env h w)

  pub in_scope : (cs : Cells) → (held k f cs).env ≡ scope cs
  in_scope cs = scope_held bottom cs

  held_append : (h : Held) (xs ys : Cells) → held_on k f h (xs ++ ys) ≡ held_on k f (held_on k f h xs) ys
  held_append h [] ys = refl
  held_append h (x ∷ xs) ys = held_append (holds k f h x) xs ys

  -- cells that are not the local's leave what is known of it
  clear_found : (x : ℕ) (h : Held) (cs : Cells) → IsClear x cs → found x (held_on k f h cs).env ≡ found x h.env
  clear_found x h [] clear = refl
  clear_found x h (Entered ∷ cs) clear = absurd clear
  clear_found x h (Local y u ∷ cs) clear = clear_found x (holds k f h (Local y u)) cs clear.1 ∙ ap (λ z. if z then Some u else found x h.env) clear.0
  clear_found x h (Waits w ∷ cs) clear = clear_found x (waits k f h w) cs clear ∙ ap (found x) (waits_env h w)

  clear_put : (x : ℕ) (v : Value) (h : Held) (cs : Cells) → IsClear x cs
      → held_on k f (with_env h (put_in x v h.env)) cs ≡ with_env (held_on k f h cs) (put_in x v (held_on k f h cs).env)
  clear_put x v h [] clear = refl
  clear_put x v h (Entered ∷ cs) clear = absurd clear
  clear_put x v h (Local y u ∷ cs) clear =
      ap (λ z. held_on k f (with_env (holds k f h (Local y u)) z) cs) (sym (ap (λ z. if z then (x, v) ∷ h.env else (y, u) ∷ put_in x v h.env) clear.0))
      ∙ clear_put x v (holds k f h (Local y u)) cs clear.1
  clear_put x v h (Waits w ∷ cs) clear =
      ap (λ z. held_on k f z cs) (waits_with h (put_in x v h.env) w)
      ∙ ap (λ z. held_on k f (with_env (waits k f h w) (put_in x v z)) cs) (sym (waits_env h w))
      ∙ clear_put x v (waits k f h w) cs clear

  module _ (x : ℕ) (v : Value) (old new : Cells) (p : Puts x v old new) where
    below : Held
    below = held k f p.below

    was : held k f old ≡ held_on k f (holds k f below (Local x p.before)) p.above
    unfolding below
    was = ap (held k f) p.was ∙ held_append bottom p.below (Local x p.before ∷ p.above)

    is_found : found x (held k f old).env ≡ Some p.before
    unfolding below
    is_found =
        ap (λ h. found x h.env) was
        ∙ clear_found x (holds k f below (Local x p.before)) p.above p.clear
        ∙ ap (λ z. if z then Some p.before else found x below.env) (same_number x)

    is_put : held k f new ≡ with_env (held k f old) (put_in x v (held k f old).env)
    unfolding below
    is_put =
        ap (held k f) p.is
        ∙ held_append bottom p.below (Local x v ∷ p.above)
        ∙ ap (λ z. held_on k f (with_env (holds k f below (Local x p.before)) z) p.above) (sym (ap (λ z. if z then (x, v) ∷ below.env else (x, p.before) ∷ put_in x v below.env) (same_number x)))
        ∙ clear_put x v (holds k f below (Local x p.before)) p.above p.clear
        ∙ ap (λ h. with_env h (put_in x v h.env)) (sym was)

    pub puts_on : (place : Place) (vs : List Value) (m : Left) → Turns k f (puts_local place x v) old m (Give Nothing) vs new m
    puts_on place vs m =
        ap (λ o. and_then (and_then (and_then (or_wrong place o (at m (held k f old).env)) (λ u. get_locals >>= (λ env. put_locals (put_in x v env)))) (λ u. pure Nothing)) (held k f old).give) is_found
        ∙ ap (λ h. from k f (Give Nothing) vs h m) (sym is_put)

  pub puts_nowhere : (x : ℕ) (v : Value) (old new : Cells) (place : Place) (vs : List Value) (m : Left) → found x (scope old) ≡ None → new ≡ old → Turns k f (puts_local place x v) old m (Halted (Wrong place)) vs new m
  puts_nowhere x v old new place vs m none same =
      ap (λ o. and_then (and_then (and_then (or_wrong place o (at m (held k f old).env)) (λ u. get_locals >>= (λ env. put_locals (put_in x v env)))) (λ u. pure Nothing)) (held k f old).give) (ap (found x) (in_scope old) ∙ none)

  -- ---- mentions

  pub local_halts : (x : ℕ) (place : Place) (cells : Cells) (vs : List Value) (m : Left) → is_some (letrec_lambda k x) ≡ true → Turns k f (compile_local k f x place) cells m (Halted (RunOnly place)) vs cells m
  local_halts x place cells vs m some = ap (λ b. and_then (unless k b place (λ d. local place x) 0 (at m (held k f cells).env)) (held k f cells).give) some

  pub local_given : (x : ℕ) (place : Place) (cells : Cells) (vs : List Value) (m : Left) (o : Option Value) (c : Control) → is_some (letrec_lambda k x) ≡ false → o ≡ found x (scope cells)
      → Turns k f (or_wrong place o) cells m c vs cells m → Turns k f (compile_local k f x place) cells m c vs cells m
  local_given x place cells vs m o c none is t =
      ap (λ b. and_then (unless k b place (λ d. local place x) 0 (at m (held k f cells).env)) (held k f cells).give) none
      ∙ ap (λ z. and_then (or_wrong place z (at m (held k f cells).env)) (held k f cells).give) (ap (found x) (in_scope cells) ∙ sym is)
      ∙ t

  pub global_halts : (x : ℕ) (place : Place) (cells : Cells) (vs : List Value) (m : Left) → is_some (procedure_of k x) ≡ true → Turns k f (compile_global k f x place) cells m (Halted (RunOnly place)) vs cells m
  global_halts x place cells vs m some = ap (λ b. and_then (unless k b place (λ d. global place x) 0 (at m (held k f cells).env)) (held k f cells).give) some

  pub global_given : (x : ℕ) (place : Place) (cells : Cells) (vs : List Value) (m : Left) (gs : List (Option Value)) (o : Option Value) (c : Control) → is_some (procedure_of k x) ≡ false → m.globals ≡ gs → o ≡ defined_in x gs
      → Turns k f (or_wrong place o) cells m c vs cells m → Turns k f (compile_global k f x place) cells m c vs cells m
  global_given x place cells vs m gs o c none same is t =
      ap (λ b. and_then (unless k b place (λ d. global place x) 0 (at m (held k f cells).env)) (held k f cells).give) none
      ∙ ap (λ z. and_then (or_wrong place z (at m (held k f cells).env)) (held k f cells).give) (ap (defined_in x) same ∙ sym is)
      ∙ t
