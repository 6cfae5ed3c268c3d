-- What is done to the locals of a machine is done to those of the run.
-- For: `do_deed` and what it calls, and `inside`
use Rattle.std.proofs.Common.{◌≡◌, ◌≢◌, ℕ, zero, suc, ◌-◌, List, [], ◌∷◌, ◌++◌, length, take, drop, Some, None, refl, sym, ap, ◌∙◌, arith, length-drop}
use Rattle.std.proofs.lemmas.List.{take_all}
use denote.Ref.{Bor}
use Rattle.ps_base.specs.declared.faults.Place.{Place}
use Rattle.byte_store.specs.declared.pointer.Value.TheVariants.{Unit as Nothing}
use Rattle.byte_store.specs.Outcome.{Wrong}
use Rattle.ps_kernel.specs.declared.expr.Expr.{Expr}
use Rattle.ps_kernel.specs.declared.expr.GroupEntry.{GroupEntry}
use Rattle.ps_kernel.specs.declared.kernel.Kernel.{Kernel}
use Rattle.ps_runs.specs.Runs.{Env, State, Step, Goes, Stops, Run, Ends, and_then, ◌>>=◌, ◌>>◌, pure, stop, or_wrong}
use Rattle.ps_runs.specs.Locals.{found, put_in, get_locals, put_locals, within}
use Rattle.ps_meaning.specs.declared.values.RunValue.{RunValue}
use Rattle.ps_meaning.specs.declared.values.RunValue.TheVariants.{Plain}
use Rattle.ps_meaning.specs.declared.values.Binding.{Binding, out-roll-Binding}
use Rattle.ps_meaning.specs.Values.{bound, pairs_of}
use Rattle.ps_meaning.specs.Eval.{RunEnter, group_pairs, run}
use Rattle.ps_evaluator.specs.declared.machine.Machine.{Machine}
use Rattle.ps_evaluator.specs.declared.machine.Frame.{Frame}
use Rattle.ps_evaluator.specs.declared.machine.Frame.TheVariants.{Unbound, Back}
use Rattle.ps_evaluator.specs.declared.machine.Deed.TheVariants.{Put, Bind, BindGroup, Unbind}
use Rattle.ps_evaluator.specs.declared.machine.Control.TheVariants.{Inside, Work}
use Rattle.ps_evaluator.specs.InsideMachine.{state_of, dropping, back, acts, plug, rest}
use Rattle.ps_evaluator.proofs.Joins.{plug_push}

-- a pair more
pub one_more : (x : ℕ) (v : RunValue) (env new : List Binding) → new ≡ bound x v ∷ env → pairs_of new ≡ (x, v) ∷ pairs_of env
one_more x v env new is = ap pairs_of is ∙ ap (λ b. (b.local, b.value) ∷ pairs_of env) (out-roll-Binding (record { local = x; value = v }))

-- the locals without so many, by the rest of the locals
drop_empty : (n : ℕ) → drop n (pairs_of []) ≡ pairs_of []
drop_empty zero = refl
drop_empty (suc n) = refl

drop_less : (n : ℕ) (env : List Binding) → n ≢ 0 → drop (n - 1) (pairs_of (drop 1 env)) ≡ drop n (pairs_of env)
drop_less zero env some = absurd (some refl)
drop_less (suc n) [] some = drop_empty (suc n - 1)
drop_less (suc n) (b ∷ env) some = let less : suc n - 1 ≡ n = omega arith in ap (λ (m : ℕ). drop m (pairs_of env)) less

pub drop_rest : (n : ℕ) (env : List Binding) → n ≢ 0 → drop (n - 1) (pairs_of (take (length env - 1) (drop 1 env))) ≡ drop n (pairs_of env)
drop_rest n env some = ap (λ z. drop (n - 1) (pairs_of z)) (take_all (length env - 1) (drop 1 env) (omega (arith, length-drop 1 env))) ∙ drop_less n env some

-- ---- what becomes of a run whose locals stand again, and are then dropped or replaced

then_dropped : (r : Step RunValue RunValue) (n : ℕ) (before : Env RunValue) (q : RunValue → Run RunValue RunValue)
    → and_then (and_then r (λ a. put_locals before >> pure a)) (λ v. dropping n v >>= q) ≡ and_then (and_then r (λ a. put_locals (drop n before) >> pure a)) q
then_dropped (Goes a s) n before q = refl
then_dropped (Stops h s) n before q = refl

then_replaced : (r : Step RunValue RunValue) (before env : Env RunValue) (q : RunValue → Run RunValue RunValue)
    → and_then (and_then r (λ a. put_locals before >> pure a)) (λ v. back env v >>= q) ≡ and_then r (λ v. back env v >>= q)
then_replaced (Goes a s) before env q = refl
then_replaced (Stops h s) before env q = refl

then_back : (r : Step RunValue RunValue) (before : Env RunValue) (q : RunValue → Run RunValue RunValue)
    → and_then (and_then r (λ a. put_locals before >> pure a)) q ≡ and_then r (λ v. back before v >>= q)
then_back (Goes a s) before q = refl
then_back (Stops h s) before q = refl

module _ (k : Kernel) (f : RunEnter) where
  module _ (m : Machine) (locals : List Binding) (b : Bor Expr) (d : ℕ) where
    -- the same machine with these locals
    abbrev after : List Binding → Machine
    after env = record m { locals = env }

    abbrev ran : Step RunValue RunValue
    ran = run k f b.now d (state_of (after locals))

    -- so many locals of the caller go at once
    pub drops_first : (fs old : List Frame) (n : ℕ) (env : List Binding) → old ≡ fs ++ Unbound n ∷ [] → pairs_of env ≡ drop n (pairs_of m.locals)
        → rest k f (Inside locals b d) old (state_of m) ≡ rest k f (Inside locals b d) fs (state_of (after env))
    drops_first fs old n env is less =
        ap (λ z. rest k f (Inside locals b d) z (state_of m)) is
        ∙ (λ i. and_then (within (pairs_of locals) (run k f b.now d) (state_of m)) (λ v. plug_push k f fs (Unbound n) v i))
        ∙ then_dropped ran n (pairs_of m.locals) (plug k f fs)
        ∙ ap (λ z. and_then (and_then ran (λ a. put_locals z >> pure a)) (plug k f fs)) (sym less)

    -- the locals that stand again are replaced by others
    pub needs_none : (fs old new : List Frame) (env : List Binding) → old ≡ fs ++ Back env ∷ [] → new ≡ fs ++ Back env ∷ []
        → rest k f (Inside locals b d) old (state_of m) ≡ rest k f (Work b d) new (state_of (after locals))
    needs_none fs old new env is pushed =
        ap (λ z. rest k f (Inside locals b d) z (state_of m)) is
        ∙ (λ i. and_then (within (pairs_of locals) (run k f b.now d) (state_of m)) (λ v. plug_push k f fs (Back env) v i))
        ∙ then_replaced ran (pairs_of m.locals) (pairs_of env) (plug k f fs)
        ∙ (λ i. and_then ran (λ v. sym (plug_push k f fs (Back env) v) i))
        ∙ ap (λ z. and_then ran (plug k f z)) (sym pushed)

    -- the caller's locals stand again at the end
    pub puts_back : (fs new : List Frame) (before env : List Binding) → before ≡ m.locals → env ≡ locals → new ≡ fs ++ Back before ∷ []
        → rest k f (Inside locals b d) fs (state_of m) ≡ rest k f (Work b d) new (state_of (after env))
    puts_back fs new before env same put pushed =
        then_back ran (pairs_of m.locals) (plug k f fs)
        ∙ ap (λ z. and_then ran (λ v. back (pairs_of z) v >>= plug k f fs)) (sym same)
        ∙ (λ i. and_then ran (λ v. sym (plug_push k f fs (Back before) v) i))
        ∙ ap (λ z. and_then ran (plug k f z)) (sym pushed)
        ∙ ap (λ z. rest k f (Work b d) new (state_of (after z))) (sym put)

  -- ---- deeds

  module _ (m : Machine) where
    pub puts_nowhere : (at : Place) (x : ℕ) (v : RunValue) → found x (pairs_of m.locals) ≡ None → acts k f (Put at x v) (state_of m) ≡ stop (Ends (Wrong at)) (state_of m)
    puts_nowhere at x v is =
        ap (λ o. and_then (and_then (or_wrong at o (state_of m)) (λ u. get_locals >>= (λ env. put_locals (put_in x v env)))) (λ u. pure (Plain Nothing))) is

    pub puts : (at : Place) (x : ℕ) (v w : RunValue) (env : List Binding) → found x (pairs_of m.locals) ≡ Some w → pairs_of env ≡ put_in x v (pairs_of m.locals)
        → acts k f (Put at x v) (state_of m) ≡ Goes (Plain Nothing) (state_of (record m { locals = env }))
    puts at x v w env is new =
        ap (λ o. and_then (and_then (or_wrong at o (state_of m)) (λ u. get_locals >>= (λ env. put_locals (put_in x v env)))) (λ u. pure (Plain Nothing))) is
        ∙ ap (λ (z : Env RunValue). Goes (Plain Nothing) (record (state_of m) { locals = z })) (sym new)

    pub binds : (x : ℕ) (v : RunValue) (b : Bor Expr) (d : ℕ) (env : List Binding) → pairs_of env ≡ (x, v) ∷ pairs_of m.locals
        → acts k f (Bind x v b d) (state_of m) ≡ run k f b.now d (state_of (record m { locals = env }))
    binds x v b d env is = ap (λ (z : Env RunValue). run k f b.now d (record (state_of m) { locals = z })) (sym is)

    pub binds_group : (g : Bor (List GroupEntry)) (b : Bor Expr) (d : ℕ) (env : List Binding) → pairs_of env ≡ group_pairs k g.now (pairs_of m.locals) ++ pairs_of m.locals
        → acts k f (BindGroup g b d) (state_of m) ≡ run k f b.now d (state_of (record m { locals = env }))
    binds_group g b d env is = ap (λ (z : Env RunValue). run k f b.now d (record (state_of m) { locals = z })) (sym is)

    pub unbinds : (n : ℕ) (v : RunValue) (env : List Binding) → pairs_of env ≡ drop n (pairs_of m.locals)
        → acts k f (Unbind n v) (state_of m) ≡ Goes v (state_of (record m { locals = env }))
    unbinds n v env is = ap (λ (z : Env RunValue). Goes v (record (state_of m) { locals = z })) (sym is)
