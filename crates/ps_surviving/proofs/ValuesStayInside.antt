-- A value is inside where its blocks and lambdas are reached, and so is what it keeps; what is made of such values is one.
-- For: `survivors_run_alike`
use Rattle.std.proofs.Common.{◌≡◌, ℕ, zero, suc, List, [], ◌∷◌, ◌++◌, map, drop, Bool, true, false, Option, Some, None, refl, sym, ap, ◌∙◌, subst}
use Rattle.std.specs.Prelude.{nat_eq, ◌&&◌, if◌then◌else◌}
use Rattle.ps_base.proofs.Choices.{and_left, and_rest, and_both}
use Rattle.byte_store.specs.declared.pointer.Value.{Value}
use Rattle.ps_kernel.specs.declared.expr.GroupEntry.{GroupEntry}
use Rattle.ps_kernel.specs.declared.kernel.Kernel.{Kernel}
use Rattle.ps_kernel.specs.declared.kernel.Lambda.{Lambda}
use Rattle.ps_kernel.specs.Scoped.{captured_of, mentioned}
use Rattle.ps_runs.specs.Runs.{Env}
use Rattle.ps_runs.specs.Locals.{found, put_in, push_all}
use Rattle.ps_meaning.specs.declared.values.RunValue.{RunValue, map-RunValue, fold-RunValue, fold-roll-RunValue, fold_out-RunValue, roll-RunValue, out-RunValue}
use Rattle.ps_meaning.specs.declared.values.RunValue.TheVariants as value
use Rattle.ps_meaning.specs.declared.values.RunValue.TheOpen.{RunValue-F}
use Rattle.ps_meaning.specs.declared.values.Binding.{Binding, fold-Binding, fold-roll-Binding, fold_out-Binding, out-Binding}
use Rattle.ps_meaning.specs.Values.{Closure, closure_of, as_procedure, bound, pairs_of, with_known, only}
use Rattle.ps_meaning.specs.Eval.{closure, group_pairs, entered}
use Rattle.ps_survive.specs.Closed.{all_of}
use Rattle.ps_surviving.proofs.ChangesPutOne.{none_some, some_same}
use Rattle.ps_surviving.proofs.RowsDoTheSame.{plain_inside, LayerInside, Insides, all_inside}

module _ (blocks lambdas : ℕ → Bool) where
  abbrev inside_node : RunValue-F Bool Bool → Bool
  inside_node (RunValue-F.Plain v) = plain_inside blocks v
  inside_node (RunValue-F.Procedure l bs) = lambdas l && all_of bs

  abbrev pub inside : RunValue → Bool
  inside = fold-RunValue Bool Bool inside_node (λ b. b.value)

  abbrev inside_binding : Binding → Bool
  inside_binding = fold-Binding Bool Bool inside_node (λ b. b.value)

  abbrev pub env_inside : Env RunValue → Bool
  env_inside [] = true
  env_inside (b ∷ env) = inside b.1 && env_inside env

  abbrev pub kept_inside : List Binding → Bool
  kept_inside bs = all_of (map inside_binding bs)

  at_inside : (x : RunValue-F RunValue Binding) → inside (roll-RunValue x) ≡ inside_node (map-RunValue RunValue Binding Bool Bool inside inside_binding x)
  at_inside x = fold-roll-RunValue Bool Bool inside_node (λ b. b.value) x

  out_inside : (v : RunValue) → inside v ≡ inside_node (map-RunValue RunValue Binding Bool Bool inside inside_binding (out-RunValue v))
  out_inside v = fold_out-RunValue Bool Bool inside_node (λ b. b.value) v

  out_binding : (b : Binding) → inside_binding b ≡ inside (out-Binding b).value
  out_binding b = fold_out-Binding Bool Bool inside_node (λ b. b.value) b

  -- ---- values that are made

  pub plain_is : (v : Value) → plain_inside blocks v ≡ true → inside (value.Plain v) ≡ true
  plain_is v h = ap inside (sym (value.rolls-Plain v)) ∙ at_inside (RunValue-F.Plain v) ∙ h

  pub procedure_is : (l : ℕ) (bs : List Binding) → lambdas l ≡ true → kept_inside bs ≡ true → inside (value.Procedure l bs) ≡ true
  procedure_is l bs h e = ap inside (sym (value.rolls-Procedure l bs)) ∙ at_inside (RunValue-F.Procedure l bs) ∙ and_both (lambdas l) (kept_inside bs) h e

  -- ---- values that are read

  layer_opens : (x : RunValue-F RunValue Binding) → inside_node (map-RunValue RunValue Binding Bool Bool inside inside_binding x) ≡ true → LayerInside blocks x
  layer_opens (RunValue-F.Plain v) h = h
  layer_opens (RunValue-F.Procedure l bs) h = tt

  pub inside_laws : Insides blocks inside
  inside_laws = record { opens = λ v h. layer_opens (out-RunValue v) (sym (out_inside v) ∙ h); plain = plain_is }

  abbrev pub ClosureInside : Closure → Type 0
  ClosureInside c = (lambdas c.lambda && kept_inside c.kept) ≡ true

  procedure_there : (x : RunValue-F RunValue Binding) (c : Closure) → closure_of x ≡ Some c → inside_node (map-RunValue RunValue Binding Bool Bool inside inside_binding x) ≡ true → ClosureInside c
  procedure_there (RunValue-F.Plain v) c e h = absurd (none_some c e)
  procedure_there (RunValue-F.Procedure l bs) c e h = subst ClosureInside (some_same (record { lambda = l; kept = bs }) c e) h

  pub is_procedure : (v : RunValue) (c : Closure) → as_procedure v ≡ Some c → inside v ≡ true → ClosureInside c
  is_procedure v c e h = procedure_there (out-RunValue v) c e (sym (out_inside v) ∙ h)

  -- ---- locals

  abbrev pub option_inside : Option RunValue → Bool
  option_inside None = true
  option_inside (Some v) = inside v

  choose : {A : Type 0} (P : A → Type 0) (c : Bool) (a b : A) → P a → P b → P (if c then a else b)
  choose P true a b h l = h
  choose P false a b h l = l

  pub found_inside : (x : ℕ) (env : Env RunValue) → env_inside env ≡ true → option_inside (found x env) ≡ true
  found_inside x [] h = refl
  found_inside x (b ∷ env) h = choose (λ o. option_inside o ≡ true) (nat_eq x b.0) (Some b.1) (found x env) (and_left (inside b.1) (env_inside env) h) (found_inside x env (and_rest (inside b.1) (env_inside env) h))

  pub put_inside : (x : ℕ) (v : RunValue) (env : Env RunValue) → inside v ≡ true → env_inside env ≡ true → env_inside (put_in x v env) ≡ true
  put_inside x v [] h l = refl
  put_inside x v (b ∷ env) h l =
      choose (λ o. env_inside o ≡ true) (nat_eq x b.0) ((x, v) ∷ env) (b ∷ put_in x v env) (and_both (inside v) (env_inside env) h (and_rest (inside b.1) (env_inside env) l))
      (and_both (inside b.1) (env_inside (put_in x v env)) (and_left (inside b.1) (env_inside env) l) (put_inside x v env h (and_rest (inside b.1) (env_inside env) l)))

  pub push_inside : (xs : List ℕ) (vs : List RunValue) (env : Env RunValue) → all_inside blocks inside inside_laws vs ≡ true → env_inside env ≡ true → env_inside (push_all xs vs env) ≡ true
  push_inside [] vs env h l = l
  push_inside (x ∷ xs) [] env h l = l
  push_inside (x ∷ xs) (v ∷ vs) env h l = push_inside xs vs ((x, v) ∷ env) (and_rest (inside v) (all_inside blocks inside inside_laws vs) h) (and_both (inside v) (env_inside env) (and_left (inside v) (all_inside blocks inside inside_laws vs) h) l)

  pub joined_inside : (xs ys : Env RunValue) → env_inside xs ≡ true → env_inside ys ≡ true → env_inside (xs ++ ys) ≡ true
  joined_inside [] ys h l = l
  joined_inside (b ∷ xs) ys h l = and_both (inside b.1) (env_inside (xs ++ ys)) (and_left (inside b.1) (env_inside xs) h) (joined_inside xs ys (and_rest (inside b.1) (env_inside xs) h) l)

  pub dropped_inside : (n : ℕ) (env : Env RunValue) → env_inside env ≡ true → env_inside (drop n env) ≡ true
  dropped_inside zero env h = h
  dropped_inside (suc n) [] h = h
  dropped_inside (suc n) (b ∷ env) h = dropped_inside n env (and_rest (inside b.1) (env_inside env) h)

  pub pairs_inside : (bs : List Binding) → kept_inside bs ≡ true → env_inside (pairs_of bs) ≡ true
  pairs_inside [] h = refl
  pairs_inside (b ∷ bs) h = and_both (inside (out-Binding b).value) (env_inside (pairs_of bs)) (sym (out_binding b) ∙ and_left (inside_binding b) (kept_inside bs) h) (pairs_inside bs (and_rest (inside_binding b) (kept_inside bs) h))

  bound_inside : (x : ℕ) (v : RunValue) → inside v ≡ true → inside_binding (bound x v) ≡ true
  bound_inside x v h = fold-roll-Binding Bool Bool inside_node (λ b. b.value) (record { local = x; value = v }) ∙ h

  known_inside : (x : ℕ) (o : Option RunValue) (bs : List Binding) → option_inside o ≡ true → kept_inside bs ≡ true → kept_inside (with_known x o bs) ≡ true
  known_inside x None bs h l = l
  known_inside x (Some v) bs h l = and_both (inside_binding (bound x v)) (kept_inside bs) (bound_inside x v h) l

  only_inside : (xs : List ℕ) (env : Env RunValue) → env_inside env ≡ true → kept_inside (only xs env) ≡ true
  only_inside [] env h = refl
  only_inside (x ∷ xs) env h = known_inside x (found x env) (only xs env) (found_inside x env h) (only_inside xs env h)

  -- ---- procedures

  -- the lambdas of entries are reached
  abbrev pub entries_in : List GroupEntry → Bool
  entries_in [] = true
  entries_in (e ∷ es) = lambdas e.lambda && entries_in es

  module _ (k : Kernel) where
    pub closure_inside : (l : ℕ) (env : Env RunValue) → lambdas l ≡ true → env_inside env ≡ true → inside (closure k l env) ≡ true
    closure_inside l env h e = procedure_is l (only (captured_of k l) env) h (only_inside (captured_of k l) env e)

    pub group_inside : (g : List GroupEntry) (env : Env RunValue) → entries_in g ≡ true → env_inside env ≡ true → env_inside (group_pairs k g env) ≡ true
    group_inside [] env h e = refl
    group_inside (x ∷ xs) env h e =
        and_both (inside (closure k x.lambda env)) (env_inside (group_pairs k xs env)) (closure_inside x.lambda env (and_left (lambdas x.lambda) (entries_in xs) h) e) (group_inside xs env (and_rest (lambdas x.lambda) (entries_in xs) h) e)

    pub entered_inside : (c : Closure) (m : Lambda) (vs : List RunValue) → entries_in (mentioned k c.lambda) ≡ true → kept_inside c.kept ≡ true → all_inside blocks inside inside_laws vs ≡ true → env_inside (entered k c m vs) ≡ true
    entered_inside c m vs h e l =
        let kept = pairs_inside c.kept e in
        push_inside m.parameters vs (group_pairs k (mentioned k c.lambda) (pairs_of c.kept) ++ pairs_of c.kept) l
        (joined_inside (group_pairs k (mentioned k c.lambda) (pairs_of c.kept)) (pairs_of c.kept) (group_inside (mentioned k c.lambda) (pairs_of c.kept) h kept) kept)
