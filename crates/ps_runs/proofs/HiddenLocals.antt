-- What a part of a run does where a local that it does not name stands among the others: the same, and the local stays.
-- For: the law that a case does what it unfolds to, of each meaning that is said in the words of runs
use Rattle.std.proofs.Common.{◌≡◌, ℕ, zero, suc, ◌+◌, ◌≤◌, List, [], ◌∷◌, ◌++◌, length, drop, Option, Some, None, refl, sym, ap, ◌∙◌, subst, arith}
use Rattle.std.specs.Prelude.{Bool, true, false, not, nat_eq, nat_le, ◌-◌, if◌then◌else◌}
use Rattle.ps_base.specs.declared.faults.Place.{Place}
use Rattle.byte_store.specs.Outcome.{Undefined, Wrong, StoppedAtCells}
use Rattle.ps_prims.specs.Rows.{Scene, Performed, Answers}
use Rattle.ps_prims.specs.Rows as rows
use Rattle.ps_runs.specs.Runs.{Env, State, Halt, Ends, Step, Goes, Stops, Run, and_then, ◌>>=◌, ◌>>◌, pure, stop, or_wrong}
use Rattle.ps_runs.specs.Locals.{found, put_in, get_locals, put_locals, local, set_local, with_pairs, within}
use Rattle.ps_runs.specs.Effects.{take_one, take_call, at_depth, get_globals, put_globals, pay, take_cells, get_scene, came, performing}
use Rattle.ps_runs.proofs.WordsKeep.{Keeps, wrongs}

module _ {V : Type 0} (x : ℕ) (v : V) where
  -- the local stands behind so many others
  abbrev pub insert : ℕ → Env V → Env V
  insert zero env = (x, v) ∷ env
  insert (suc n) [] = (x, v) ∷ []
  insert (suc n) (b ∷ env) = b ∷ insert n env

  abbrev pub hide : ℕ → State V → State V
  hide n s = record s { locals = insert n s.locals }

  -- a part comes to the same where the local stands behind n others, and it stays behind as many
  abbrev pub Moved : {A : Type 0} → ℕ → Step V A → Step V A → Type 0
  Moved n (Goes a t) r = (n ≤ length t.locals) × (r ≡ Goes a (hide n t))
  Moved n (Stops h t) r = r ≡ Stops h t

  pub record Hidden (A : Type 0) (p q : Run V A) : Type 0 where
    pub by : (n : ℕ) (s : State V) → n ≤ length s.locals → Moved n (p s) (q (hide n s))

  -- ---- words that leave the locals alone

  pure_hidden : {A : Type 0} (a : A) → Hidden A (pure a) (pure a)
  pure_hidden a = record { by = λ n s le. (le, refl) }

  stop_hidden : {A : Type 0} (h : Halt) → Hidden A (stop h) (stop h)
  stop_hidden h = record { by = λ n s le. refl }

  gets_hidden : Hidden (List (Option V)) get_globals get_globals
  gets_hidden = record { by = λ n s le. (le, refl) }

  puts_hidden : (globals : List (Option V)) → Hidden (Unit {0}) (put_globals globals) (put_globals globals)
  puts_hidden globals = record { by = λ n s le. (le, refl) }

  pub at_depth_hidden : (d : ℕ) → Hidden (Unit {0}) (at_depth d) (at_depth d)
  at_depth_hidden d = record { by = λ n s le. (le, refl) }

  take_one_hidden : (c n : ℕ) (s : State V) → n ≤ length s.locals → Moved n (take_one c s) (take_one c (hide n s))
  take_one_hidden zero n s le = refl
  take_one_hidden (suc c) n s le = (le, refl)

  pub take_call_hidden : Hidden (Unit {0}) take_call take_call
  take_call_hidden = record { by = λ n s le. take_one_hidden s.calls n s le }

  module _ {A B : Type 0} (f g : A → Run V B) (h : (a : A) → Hidden B (f a) (g a)) (n : ℕ) where
    then_moved : (r r' : Step V A) → Moved n r r' → Moved n (and_then r f) (and_then r' g)
    then_moved (Goes a s) r' m = subst (λ z. Moved n (f a s) (and_then z g)) (sym m.1) ((h a).by n s m.0)
    then_moved (Stops i s) r' m = ap (λ z. and_then z g) m

  pub then_hidden : {A B : Type 0} {p q : Run V A} {f g : A → Run V B} → Hidden A p q → ((a : A) → Hidden B (f a) (g a)) → Hidden B (p >>= f) (q >>= g)
  then_hidden {p} {q} {f} {g} l h = record { by = λ n s le. then_moved f g h n (p s) (q (hide n s)) (l.by n s le) }

  pays_hidden : (c : ℕ) (left : Option ℕ) → Hidden (Unit {0}) (pay c left) (pay c left)
  pays_hidden c None = pure_hidden tt
  pays_hidden c (Some left) = one (nat_le c left)
    where
      one : (b : Bool) → Hidden (Unit {0}) (if b then (λ s. Goes tt (record s { cells = Some (left - c) })) else stop (Ends StoppedAtCells)) (if b then (λ s. Goes tt (record s { cells = Some (left - c) })) else stop (Ends StoppedAtCells))
      one true = record { by = λ n s le. (le, refl) }
      one false = stop_hidden (Ends StoppedAtCells)

  cells_hidden : (c : ℕ) → Hidden (Unit {0}) (take_cells c) (take_cells c)
  cells_hidden c = record { by = λ n s le. (pays_hidden c s.cells).by n s le }

  scene_hidden : Hidden (Scene V) get_scene get_scene
  scene_hidden = record { by = λ n s le. (le, refl) }

  came_hidden : (at : Place) (r : Performed V) → Hidden V (came at r) (came at r)
  came_hidden at (Answers d) = record { by = λ n s le. (le, refl) }
  came_hidden at (rows.Undefined op) = stop_hidden (Ends (Undefined op at))
  came_hidden at rows.Wrong = stop_hidden (Ends (Wrong at))

  performs_hidden : (at : Place) (asks : Scene V → ℕ) (act : Scene V → Performed V) → Hidden V (performing at asks act) (performing at asks act)
  performs_hidden at asks act = then_hidden scene_hidden (λ scene. then_hidden (cells_hidden (asks scene)) (λ u. came_hidden at (act scene)))

  pub hidden_keeps : Keeps V Hidden
  hidden_keeps = record {
    pures = λ a. pure_hidden a;
    stops = λ h. stop_hidden h;
    globals = gets_hidden;
    puts_globals = puts_hidden;
    performs = performs_hidden;
    thens = λ l h. then_hidden l h;
  }

  -- ---- locals

  module _ (y : ℕ) (other : nat_eq y x ≡ false) where
    pub found_behind : (n : ℕ) (env : Env V) → found y (insert n env) ≡ found y env
    found_behind zero env = ap (λ (b : Bool). if b then Some v else found y env) other
    found_behind (suc n) [] = ap (λ (b : Bool). if b then Some v else None) other
    found_behind (suc n) (b ∷ env) = ap (λ o. if nat_eq y b.0 then Some b.1 else o) (found_behind n env)

    either_put : (t : Bool) (w : V) (n : ℕ) (b : ℕ × V) (env : Env V) → put_in y w (insert n env) ≡ insert n (put_in y w env)
        → (if t then (y, w) ∷ insert n env else b ∷ put_in y w (insert n env)) ≡ insert (suc n) (if t then (y, w) ∷ env else b ∷ put_in y w env)
    either_put true w n b env is = refl
    either_put false w n b env is = ap (λ z. b ∷ z) is

    put_behind : (w : V) (n : ℕ) (env : Env V) → put_in y w (insert n env) ≡ insert n (put_in y w env)
    put_behind w zero env = ap (λ (b : Bool). if b then (y, w) ∷ env else (x, v) ∷ put_in y w env) other
    put_behind w (suc n) [] = ap (λ (b : Bool). if b then (y, w) ∷ [] else (x, v) ∷ []) other
    put_behind w (suc n) (b ∷ env) = either_put (nat_eq y b.0) w n b env (put_behind w n env)

    either_length : (t : Bool) (w : V) (b : ℕ × V) (env : Env V) → length (put_in y w env) ≡ length env → length (if t then (y, w) ∷ env else b ∷ put_in y w env) ≡ suc (length env)
    either_length true w b env is = refl
    either_length false w b env is = ap suc is

    put_length : (w : V) (env : Env V) → length (put_in y w env) ≡ length env
    put_length w [] = refl
    put_length w (b ∷ env) = either_length (nat_eq y b.0) w b env (put_length w env)

    found_moved : (at : Place) (n : ℕ) (s : State V) → n ≤ length s.locals → (o o' : Option V) → o' ≡ o → Moved n (or_wrong at o s) (or_wrong at o' (hide n s))
    found_moved at n s le o o' is = subst (λ z. Moved n (or_wrong at o s) (or_wrong at z (hide n s))) (sym is) ((wrongs Hidden hidden_keeps at o).by n s le)

    pub local_hidden : (at : Place) → Hidden V (local at y) (local at y)
    local_hidden at = record { by = λ n s le. found_moved at n s le (found y s.locals) (found y (insert n s.locals)) (found_behind n s.locals) }

    puts_moved : (w : V) (n : ℕ) (s : State V) → n ≤ length s.locals → Moved n ((get_locals >>= (λ env. put_locals (put_in y w env))) s) ((get_locals >>= (λ env. put_locals (put_in y w env))) (hide n s))
    puts_moved w n s le = (subst (λ z. n ≤ z) (sym (put_length w s.locals)) le, ap (λ env. Goes tt (record s { locals = env })) (put_behind w n s.locals))

    pub set_local_hidden : (at : Place) (w : V) → Hidden (Unit {0}) (set_local at y w) (set_local at y w)
    set_local_hidden at w = then_hidden (local_hidden at) (λ u. record { by = λ n s le. puts_moved w n s le })

  -- ---- pairs in front

  -- n others and these
  abbrev above : ℕ → Env V → ℕ
  above n [] = n
  above n (p ∷ ps) = suc (above n ps)

  joined : (ps : Env V) (n : ℕ) (env : Env V) → ps ++ insert n env ≡ insert (above n ps) (ps ++ env)
  joined [] n env = refl
  joined (p ∷ ps) n env = ap (λ z. p ∷ z) (joined ps n env)

  joined_length : (ps : Env V) (n : ℕ) (env : Env V) → n ≤ length env → above n ps ≤ length (ps ++ env)
  joined_length [] n env le = le
  joined_length (p ∷ ps) n env le = let more = joined_length ps n env le in omega arith

  dropped : (ps : Env V) (n : ℕ) (env : Env V) → above n ps ≤ length env → drop (length ps) (insert (above n ps) env) ≡ insert n (drop (length ps) env)
  dropped [] n env le = refl
  dropped (p ∷ ps) n [] le = absurd (omega arith)
  dropped (p ∷ ps) n (b ∷ env) le = dropped ps n env (omega arith)

  dropped_length : (ps : Env V) (n : ℕ) (env : Env V) → above n ps ≤ length env → n ≤ length (drop (length ps) env)
  dropped_length [] n env le = le
  dropped_length (p ∷ ps) n [] le = absurd (omega arith)
  dropped_length (p ∷ ps) n (b ∷ env) le = dropped_length ps n env (omega arith)

  -- the pairs go
  abbrev leaving : {A : Type 0} → ℕ → Step V A → Step V A
  leaving m r = and_then r (λ a. get_locals >>= (λ later. put_locals (drop m later) >> pure a))

  left : {A : Type 0} (ps : Env V) (n : ℕ) (r r' : Step V A) → Moved (above n ps) r r' → Moved n (leaving (length ps) r) (leaving (length ps) r')
  left ps n (Goes a t) r' moved =
      (dropped_length ps n t.locals moved.0, ap (leaving (length ps)) moved.1 ∙ ap (λ env. Goes a (record t { locals = env })) (dropped ps n t.locals moved.0))
  left ps n (Stops h t) r' moved = ap (leaving (length ps)) moved

  pub pairs_hidden : {A : Type 0} (ps : Env V) (p q : Run V A) → Hidden A p q → Hidden A (with_pairs ps p) (with_pairs ps q)
  pairs_hidden ps p q h = record {
    by = λ n s le. subst
        (λ env. Moved n (leaving (length ps) (p (record s { locals = ps ++ s.locals }))) (leaving (length ps) (q (record s { locals = env }))))
        (sym (joined ps n s.locals))
        (left ps n _ _ (h.by (above n ps) (record s { locals = ps ++ s.locals }) (joined_length ps n s.locals le)));
  }

  -- a procedure that is entered does not see the locals of its caller
  abbrev returning : {A : Type 0} → Env V → Step V A → Step V A
  returning before r = and_then r (λ a. put_locals before >> pure a)

  returned : {A : Type 0} (n : ℕ) (before : Env V) → n ≤ length before → (r : Step V A) → Moved n (returning before r) (returning (insert n before) r)
  returned n before le (Goes a t) = (le, refl)
  returned n before le (Stops h t) = refl

  pub within_hidden : {A : Type 0} (env : Env V) (p : Run V A) → Hidden A (within env p) (within env p)
  within_hidden env p = record { by = λ n s le. returned n s.locals le (p (record s { locals = env })) }
