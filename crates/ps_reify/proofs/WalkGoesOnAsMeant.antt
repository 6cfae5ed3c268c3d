-- The code's walk is the walk that is meant: a turn of it is a step of that one.
-- For: run, start, reify
use Rattle.std.proofs.Common.{◌≡◌, ℕ, zero, suc, ◌+◌, ◌*◌, ◌<◌, Bool, true, false, List, [], ◌∷◌, ◌++◌, length, replicate, append_assoc, get_or, set, Option, Some, None, refl, sym, ap, ◌∙◌, subst, ⊎_elim, arith}
use Rattle.std.specs.Prelude.{◌||◌, nat_eq, max, if◌then◌else◌, Result, Ok, Err, slice_get}
use Rattle.std.proofs.Math.Nat.{le-max_left, le-max_right}
use Rattle.std.proofs.lemmas.Bool.{cases_eq, eqb-true}
use Rattle.std.proofs.lemmas.Option.{slice_get_within}
use Rattle.std.proofs.lemmas.List.{get_or-set_same, get_or-set_other, length-set, length-append, length-replicate, append-nil}
use Rattle.ps_base.specs.declared.faults.Place.{Place}
use Rattle.ps_base.specs.declared.faults.SurviveKind.TheVariants as kinds
use Rattle.ps_base.specs.declared.faults.Fault.{Fault as Refused}
use Rattle.ps_base.specs.declared.faults.Fault.TheVariants as faults
use Rattle.ps_base.specs.declared.faults.Refusal.{Refusal}
use Rattle.ps_base.specs.declared.faults.Refusal.TheVariants as refusals
use Rattle.byte_store.specs.Blocks.{find, next_number}
use Rattle.ps_kernel.specs.declared.kernel.Definition.{Definition}
use Rattle.ps_meaning.specs.Source.{Program}
use Rattle.ps_survive.specs.declared.steps.Node.{Node}
use Rattle.ps_survive.specs.declared.steps.Node.TheVariants as nodes
use Rattle.ps_survive.specs.declared.steps.Step.{Step}
use Rattle.ps_survive.specs.Steps.{same, has, steps_of, names, fault}
use Rattle.ps_survive.specs.Walk.{main_node, begins, missing_main, End, Ended, Fails, Walks, done, fails, passes, knows, visits, Survives, missing, walks}
use Rattle.ps_survive.proofs.NodesInLists.{either, same_self}
use Rattle.ps_survive.proofs.WalksEndOnce.{Exists, left, visit_falls, step_exists}
use Rattle.ps_reify.specs.Answers.{RefusesFault}
use Rattle.ps_reify.specs.declared.find.Part.{Part}
use Rattle.ps_reify.specs.declared.find.Frame.{Frame}
use Rattle.ps_reify.specs.declared.find.Walk.{Walk}
use Rattle.ps_reify.specs.InsideWork.{part_steps, flagged, set_flag, frame_of, seen_now, Enters, VisitsBy, VisitsNamed, onto, IsFaulty, Works, TurnsBy, Turns, frame_steps, todo, IsWalk, IsOver, Ends, nothing_seen, IsStart}

-- ---- flags

-- n is in the tables
record Fits (w : Walk) (n : Node) : Type 0 where
  is : (k : Node) → flagged (set_flag n w) k ≡ (same n k || flagged w k)

nat_other : (g h : ℕ) → (h ≡ g → ⊥) → same (nodes.Global g) (nodes.Global h) ≡ false
nat_other g h other = ⊎_elim (λ (e : same (nodes.Global g) (nodes.Global h) ≡ true). absurd (other (sym (eqb-true g h e)))) (λ (e : same (nodes.Global g) (nodes.Global h) ≡ false). e) (either (same (nodes.Global g) (nodes.Global h)))

flag_set : (flags : List Bool) (g h : ℕ) → g < length flags → get_or (set flags g true) h false ≡ (same (nodes.Global g) (nodes.Global h) || get_or flags h false)
flag_set flags g h lt =
    ⊎_elim
    (λ (e : h ≡ g).
    ap (λ x. get_or (set flags g true) x false) e ∙ get_or-set_same flags g true false lt
    ∙ sym (ap (λ x. x || get_or flags h false) (ap (λ x. same (nodes.Global g) (nodes.Global x)) e ∙ same_self (nodes.Global g))))
    (λ (other : h ≡ g → ⊥). get_or-set_other flags g h true false other ∙ sym (ap (λ x. x || get_or flags h false) (nat_other g h other)))
    (cases_eq h g)

global_fits : (w : Walk) (g : ℕ) → g < length w.definitions → (k : Node) → flagged (set_flag (nodes.Global g) w) k ≡ (same (nodes.Global g) k || flagged w k)
global_fits w g lt (nodes.Global h) = flag_set w.definitions g h lt
global_fits w g lt (nodes.Inner l) = refl
global_fits w g lt (nodes.Data b) = refl

inner_fits : (w : Walk) (g : ℕ) → g < length w.lambdas → (k : Node) → flagged (set_flag (nodes.Inner g) w) k ≡ (same (nodes.Inner g) k || flagged w k)
inner_fits w g lt (nodes.Global h) = refl
inner_fits w g lt (nodes.Inner h) = flag_set w.lambdas g h lt
inner_fits w g lt (nodes.Data b) = refl

data_fits : (w : Walk) (g : ℕ) → g < length w.blocks → (k : Node) → flagged (set_flag (nodes.Data g) w) k ≡ (same (nodes.Data g) k || flagged w k)
data_fits w g lt (nodes.Global h) = refl
data_fits w g lt (nodes.Inner h) = refl
data_fits w g lt (nodes.Data h) = flag_set w.blocks g h lt

or_swap : (a b c : Bool) → b ≡ c → (a || b) ≡ (c || (a || false))
or_swap true true true e = refl
or_swap true true false e = refl
or_swap true false true e = refl
or_swap true false false e = refl
or_swap false true true e = refl
or_swap false true false e = absurd cc
or_swap false false true e = absurd cc
or_swap false false false e = refl

or_assoc : (a b c : Bool) → (a || (b || c)) ≡ ((a || b) || c)
or_assoc true b c = refl
or_assoc false b c = refl

has_append : (xs ys : List Node) (n : Node) → has (xs ++ ys) n ≡ (has xs n || has ys n)
has_append [] ys n = refl
has_append (x ∷ xs) ys n = ap (λ b. same x n || b) (has_append xs ys n) ∙ or_assoc (same x n) (has xs n) (has ys n)

-- a number that is found is below the next
found_below : {A : Type 0} (b : ℕ) (a : A) (es : List (ℕ × A)) → find b es ≡ Some a → b < next_number es
found_below b a [] e = let h : None ≡ Some a = e in absurd cc
found_below b a (e ∷ es) is = go (nat_eq b e.0) refl (λ h. found_below b a es h) is
  where
    go : (c : Bool) → nat_eq b e.0 ≡ c → (find b es ≡ Some a → b < next_number es) → (if c then Some e.1 else find b es) ≡ Some a → b < max (suc e.0) (next_number es)
    go true i later h = let is : b ≡ e.0 = eqb-true b e.0 i in omega (arith, is, le-max_left (suc e.0) (next_number es))
    go false i later h = omega (arith, later h, le-max_right (suc e.0) (next_number es))

past : {A : Type 0} (xs : List A) (k : ℕ) → k < length xs → slice_get xs k ≡ None → ⊥
past [] k lt e = omega (arith, lt)
past (x ∷ xs) zero lt e = let h : Some x ≡ None = e in cc
past (x ∷ xs) (suc k) lt e = past xs k (omega (arith, lt)) e

module _ (p : Program) where
  flags_fit : (w : Walk) (n : Node) → length w.definitions ≡ length p.kernel.definitions → length w.lambdas ≡ length p.kernel.lambdas → length w.blocks ≡ next_number p.memory.fixed → Exists p n
      → (k : Node) → flagged (set_flag n w) k ≡ (same n k || flagged w k)
  flags_fit w (nodes.Global g) d l b h = global_fits w g (omega (arith, d, slice_get_within p.kernel.definitions g h.0 h.1))
  flags_fit w (nodes.Inner g) d l b h = inner_fits w g (omega (arith, l, slice_get_within p.kernel.lambdas g h.0 h.1))
  flags_fit w (nodes.Data g) d l b h = data_fits w g (omega (arith, b, found_below g h.0 p.memory.fixed h.1))

  todo_onto : (fs : List Frame) (f : Frame) → todo p (fs ++ f ∷ []) ≡ frame_steps p f ++ todo p fs
  todo_onto [] f = sym (append-nil (frame_steps p f))
  todo_onto (g ∷ fs) f = ap (λ x. x ++ frame_steps p g) (todo_onto fs f) ∙ append_assoc (frame_steps p f) (todo p fs) (frame_steps p g)

  -- the tables are as wide, and tell the order
  record Tables (w : Walk) : Type 0 where
    definitions : length w.definitions ≡ length p.kernel.definitions
    lambdas : length w.lambdas ≡ length p.kernel.lambdas
    blocks : length w.blocks ≡ next_number p.memory.fixed
    flags : (n : Node) → flagged w n ≡ has w.order n

  tables_visit : (w : Walk) (n : Node) (part : Part) → Exists p n → Tables w → Tables (seen_now n part (set_flag n w))
  tables_visit w (nodes.Global g) part there t = record {
    definitions = length-set w.definitions g true ∙ t.definitions;
    lambdas = t.lambdas;
    blocks = t.blocks;
    flags = λ k. flags_fit w (nodes.Global g) t.definitions t.lambdas t.blocks there k ∙ or_swap (same (nodes.Global g) k) (flagged w k) (has w.order k) (t.flags k) ∙ sym (has_append w.order (nodes.Global g ∷ []) k);
  }
  tables_visit w (nodes.Inner g) part there t = record {
    definitions = t.definitions;
    lambdas = length-set w.lambdas g true ∙ t.lambdas;
    blocks = t.blocks;
    flags = λ k. flags_fit w (nodes.Inner g) t.definitions t.lambdas t.blocks there k ∙ or_swap (same (nodes.Inner g) k) (flagged w k) (has w.order k) (t.flags k) ∙ sym (has_append w.order (nodes.Inner g ∷ []) k);
  }
  tables_visit w (nodes.Data g) part there t = record {
    definitions = t.definitions;
    lambdas = t.lambdas;
    blocks = length-set w.blocks g true ∙ t.blocks;
    flags = λ k. flags_fit w (nodes.Data g) t.definitions t.lambdas t.blocks there k ∙ or_swap (same (nodes.Data g) k) (flagged w k) (has w.order k) (t.flags k) ∙ sym (has_append w.order (nodes.Data g ∷ []) k);
  }

  abbrev pub size : Walk → ℕ
  size w = 2 * (left p w.order + length (todo p w.frames)) + length w.frames

  -- the walk goes on, and there is less to do
  pub record Next (old new : Walk) : Type 0 where
    pub is : IsWalk p new
    pub less : size new < size old

  abbrev pub After : Walk → Walk → Result (Unit {0}) Refusal → Type 0
  After old new (Ok x) = Next old new
  After old new (Err (refusals.Fault f)) = RefusesFault p f
  After old new (Err refusals.NoMemory) = Unit {0}

  is_walk : (w : Walk) → Tables w → ((e : End) → Walks p w.order (todo p w.frames) e → Survives p e) → IsWalk p w
  is_walk w t on = record { definitions = t.definitions; lambdas = t.lambdas; blocks = t.blocks; flags = t.flags; on = on }

  -- the frame f, on w
  module _ (f : Frame) (w : Walk) (h : IsWalk p (onto f w)) where
    tables : Tables w
    tables = record { definitions = h.definitions; lambdas = h.lambdas; blocks = h.blocks; flags = h.flags }

    on_taken : (e : End) → Walks p w.order (frame_steps p f ++ todo p w.frames) e → Survives p e
    on_taken e k = h.on e (subst (λ x. Walks p w.order x e) (sym (todo_onto w.frames f)) k)

    length_taken : length (todo p (w.frames ++ f ∷ [])) ≡ length (frame_steps p f) + length (todo p w.frames)
    length_taken = ap (λ (x : List Step). length x) (todo_onto w.frames f) ∙ length-append (frame_steps p f) (todo p w.frames)

    frames_taken : length (w.frames ++ f ∷ []) ≡ length w.frames + 1
    frames_taken = length-append w.frames (f ∷ [])

    -- all its steps are done
    finished : frame_steps p f ≡ [] → Next (onto f w) w
    finished none =
        let size_todo = length_taken in
        let size_frames = frames_taken in
        let size_none : length (frame_steps p f) ≡ 0 = ap (λ (x : List Step). length x) none in
        record {
          is = is_walk w tables (λ z k. on_taken z (subst (λ x. Walks p w.order (x ++ todo p w.frames) z) (sym none) k));
          less = omega (arith, size_todo, size_frames, size_none);
        }

    -- step s is due, and next goes on behind it
    module _ (s : Step) (next : Frame) (due : frame_steps p f ≡ s ∷ frame_steps p next) where
      abbrev rest : Walk
      rest = onto next w

      on_step : (e : End) → Walks p w.order (s ∷ todo p rest.frames) e → Survives p e
      on_step e k =
          let whole : frame_steps p f ++ todo p w.frames ≡ s ∷ todo p rest.frames = ap (λ x. x ++ todo p w.frames) due ∙ ap (λ x. s ∷ x) (sym (todo_onto w.frames next)) in
          on_taken e (subst (λ x. Walks p w.order x e) (sym whole) k)

      -- what there is to do, in numbers
      step_size : length (todo p (w.frames ++ f ∷ [])) ≡ 1 + length (todo p rest.frames)
      step_size =
          let a = length_taken in
          let b = ap (λ (x : List Step). length x) due in
          let c = ap (λ (x : List Step). length x) (todo_onto w.frames next) ∙ length-append (frame_steps p next) (todo p w.frames) in
          omega (arith, a, b, c)

      frames_rest : length rest.frames ≡ length w.frames + 1
      frames_rest = length-append w.frames (next ∷ [])

      tables_rest : Tables rest
      tables_rest = record { definitions = h.definitions; lambdas = h.lambdas; blocks = h.blocks; flags = h.flags }

      passed : fault p s ≡ None → names p s ≡ None → Next (onto f w) rest
      passed e n =
          let a = step_size in
          let b = frames_taken in
          let c = frames_rest in
          record { is = is_walk rest tables_rest (λ z k. on_step z (passes w.order s (todo p rest.frames) z e n k)); less = omega (arith, a, b, c) }

      known : (n : Node) → fault p s ≡ None → names p s ≡ Some n → has w.order n ≡ true → Next (onto f w) rest
      known n e q old =
          let a = step_size in
          let b = frames_taken in
          let c = frames_rest in
          record { is = is_walk rest tables_rest (λ z k. on_step z (knows w.order s (todo p rest.frames) z n e q old k)); less = omega (arith, a, b, c) }

      visited : (n : Node) (part : Part) → part_steps p part ≡ steps_of p n → fault p s ≡ None → names p s ≡ Some n → has w.order n ≡ false → Next (onto f w) (seen_now n part (set_flag n rest))
      visited n part does e q new =
          let t : Tables (seen_now n part (set_flag n rest)) = tables_visit rest n part (step_exists p s n q) tables_rest in
          let own : todo p (rest.frames ++ frame_of part 0 ∷ []) ≡ steps_of p n ++ todo p rest.frames = todo_onto rest.frames (frame_of part 0) ∙ ap (λ x. x ++ todo p rest.frames) does in
          let a = step_size in
          let b = frames_taken in
          let c = frames_rest in
          let d = length-append rest.frames (frame_of part 0 ∷ []) in
          let fall = visit_falls p w.order s (todo p rest.frames) n q new in
          let total = ap (λ (x : List Step). length x) own in
          record {
            is = is_walk (seen_now n part (set_flag n rest)) t (λ z k. on_step z (visits w.order s (todo p rest.frames) z n e q new (subst (λ x. Walks p (w.order ++ n ∷ []) x z) own k)));
            less = omega (arith, a, b, c, d, fall, total);
          }

      by_flag : (n : Node) → fault p s ≡ None → names p s ≡ Some n → (new : Walk) (b : Bool) → flagged rest n ≡ b → VisitsBy b p n rest new → Next (onto f w) new
      by_flag n e q new true x v = subst (Next (onto f w)) (sym v) (known n e q (sym (h.flags n) ∙ x))
      by_flag n e q new false x v = subst (Next (onto f w)) (sym v.is) (visited n v.part v.steps e q (sym (h.flags n) ∙ x))

      by_names : fault p s ≡ None → (new : Walk) (o : Option Node) → names p s ≡ o → VisitsNamed p o rest new → Next (onto f w) new
      by_names e new None q v = subst (Next (onto f w)) (sym v) (passed e q)
      by_names e new (Some n) q v = by_flag n e q new (flagged rest n) refl v

      faulty : (r : Refused) → IsFaulty p s r → RefusesFault p r
      faulty (faults.Survives kind at) k = on_step (Fails (record { kind = kind; at = at })) (fails w.order s (todo p rest.frames) (record { kind = kind; at = at }) k)
      faulty r k = absurd k

      worked : (new : Walk) (r : Result (Unit {0}) Refusal) → Works p next s w new r → After (onto f w) new r
      worked new (Ok x) k = by_names k.clean new (names p s) refl k.visits
      worked new (Err (refusals.Fault r)) k = faulty r k
      worked new (Err refusals.NoMemory) k = tt

    turned : (o : Option (Step × ℕ)) (new : Walk) (r : Result (Unit {0}) Refusal) → TurnsBy p o f w new r → After (onto f w) new r
    turned None new (Ok x) k = subst (Next (onto f w)) (sym k.stays) (finished k.none)
    turned None new (Err e) k = absurd k
    turned (Some x) new r k = worked k.step (frame_of f.part k.next) k.is new r k.works

  pub turn_after : (old w new : Walk) (f : Frame) (r : Result (Unit {0}) Refusal) → IsWalk p old → old ≡ onto f w → Turns p f w new r → After old new r
  turn_after old w new f r h e k = subst (λ (x : Walk). After x new r) (sym e) (turned f w (subst (IsWalk p) e h) k.found new r k.is)

  -- nothing is left to do
  pub over : (w : Walk) → IsWalk p w → w.frames ≡ [] → IsOver p w
  over w h e = record { flags = h.flags; ended = h.on (Ended w.order) (subst (λ x. Walks p w.order (todo p x) (Ended w.order)) (sym e) (done w.order)) }

  pub ends_after : (old new : Walk) (r : Refusal) → After old new (Err r) → Ends p (Err r)
  ends_after old new (refusals.Fault f) h = h
  ends_after old new refusals.NoMemory h = tt

  pub over_taken : (old new : Walk) → IsWalk p old → (old.frames ≡ []) × (new ≡ old) → IsOver p new
  over_taken old new h e = subst (IsOver p) (sym e.1) (over old h e.0)

  -- ---- the start

  none_set : (k i : ℕ) → get_or (replicate k false) i false ≡ false
  none_set zero i = refl
  none_set (suc k) zero = refl
  none_set (suc k) (suc i) = none_set k i

  none_flagged : (n : Node) → flagged (nothing_seen p) n ≡ false
  none_flagged (nodes.Global g) = none_set (length p.kernel.definitions) g
  none_flagged (nodes.Inner l) = none_set (length p.kernel.lambdas) l
  none_flagged (nodes.Data b) = none_set (next_number p.memory.fixed) b

  started_by : (w : Walk) → begins p ≡ true → Exists p (main_node p) → Enters p (main_node p) (nothing_seen p) w → IsWalk p w
  started_by w b there e =
      let n = main_node p in
      let t : Tables (seen_now n e.part (set_flag n (nothing_seen p))) = tables_visit (nothing_seen p) n e.part there (record {
        definitions = length-replicate (length p.kernel.definitions) false;
        lambdas = length-replicate (length p.kernel.lambdas) false;
        blocks = length-replicate (next_number p.memory.fixed) false;
        flags = none_flagged;
      }) in
      subst (IsWalk p) (sym e.is) (is_walk (seen_now n e.part (set_flag n (nothing_seen p))) t (λ z k. walks z b (subst (λ x. Walks p (n ∷ []) x z) e.steps k)))

  main_there : (o : Option Definition) → slice_get p.kernel.definitions p.kernel.main ≡ o → p.kernel.main < length p.kernel.definitions → Exists p (main_node p)
  main_there None e lt = absurd (past p.kernel.definitions p.kernel.main lt e)
  main_there (Some d) e lt = (d, e)

  pub started : (w : Walk) → begins p ≡ true → p.kernel.main < length p.kernel.definitions → IsStart p w → IsWalk p w
  started w b lt e = started_by w b (main_there (slice_get p.kernel.definitions p.kernel.main) refl lt) (subst (λ c. VisitsBy c p (main_node p) (nothing_seen p) w) (none_flagged (main_node p)) e)

  pub started_at : (w : Walk) (b : Bool) → b ≡ true → b ≡ begins p → p.kernel.main < length p.kernel.definitions → IsStart p w → IsWalk p w
  started_at w b h is lt e = started w (sym is ∙ h) lt e

  pub is_missing : (q : Program) (at : Place) → p ≡ q → (b : Bool) → b ≡ false → b ≡ begins p → at ≡ (missing_main p).at → Survives q (Fails (record { kind = kinds.MainMissing; at = at }))
  is_missing q at same b h is place =
      subst (λ z. Survives z (Fails (record { kind = kinds.MainMissing; at = at }))) same
      (subst (λ z. Survives p (Fails (record { kind = kinds.MainMissing; at = z }))) (sym place) (missing (sym is ∙ h)))
