-- The run of the survivors is the run of the program.
-- For: `survivors_run_alike`
use Rattle.std.proofs.Common.{◌≡◌, ℕ, zero, suc, ◌+◌, ◌<◌, List, [], ◌∷◌, map, length, Bool, true, false, Option, Some, None, refl, sym, ap, ◌∙◌, subst, arith, inl, inr}
use Rattle.std.specs.Prelude.{nat_eq, slice_get, if◌then◌else◌}
use Rattle.std.specs.Option.{option_map}
use Rattle.std.proofs.lemmas.Option.{slice_get_within}
use Rattle.byte_store.specs.declared.pointer.Base.{Base}
use Rattle.byte_store.specs.declared.pointer.Base.TheVariants.{Fixed, Made}
use Rattle.byte_store.specs.declared.pointer.Value.{Value}
use Rattle.byte_store.specs.Blocks.{Memory, Block, Bytes, Cells, Freed, find}
use Rattle.byte_store.specs.Blocks as store
use Rattle.byte_store.specs.Mapping.{map_block, map_numbered}
use Rattle.byte_store.specs.Worlds.{Surroundings}
use Rattle.ps_kernel.specs.declared.kernel.Definition.{Definition}
use Rattle.ps_kernel.specs.declared.kernel.Lambda.{Lambda}
use Rattle.ps_kernel.specs.declared.survivors.Survivors.{Survivors}
use Rattle.ps_kernel.specs.Lists.{Among}
use Rattle.ps_kernel.specs.Texts.{procedure_of}
use Rattle.ps_kernel.proofs.BodiesNameWhatTheyMay.{are_scoped}
use Rattle.ps_runs.specs.Runs.{State, Step, Goes, Stops}
use Rattle.ps_runs.specs.Effects.{value_in}
use Rattle.ps_runs.specs.Ends.{outcome}
use Rattle.ps_meaning.specs.declared.values.RunValue.{RunValue}
use Rattle.ps_meaning.specs.declared.values.RunValue.TheVariants.{Plain}
use Rattle.ps_meaning.specs.Source.{Program, run_memory, run_global, run_globals, begun_of, run_start, main_place, call_main, integer_of}
use Rattle.ps_survive.specs.declared.steps.Node.{Node}
use Rattle.ps_survive.specs.declared.steps.Node.TheVariants as nodes
use Rattle.ps_survive.specs.Steps.{has, if_there}
use Rattle.ps_survive.specs.Walk.{Survives, Ended}
use Rattle.ps_survive.specs.Kept.{survivors}
use Rattle.ps_survive.specs.Closed.{Reached, reached_by, named_in, closed, IsClosed}
use Rattle.ps_survive.specs.Laws.{IsWhole}
use Rattle.ps_survive.proofs.SeenIsReached.{seen_is_reached}
use Rattle.ps_survive.proofs.SeenIsClosed.{seen_is_closed}
use Rattle.ps_surviving.specs.Begun.{given, begun_global, begun_globals, begun_with, value_among}
use Rattle.ps_surviving.specs.Laws.{IsLeftProgram, RunsAlike, SurvivorsRunAlike}
use Rattle.ps_surviving.proofs.ChangesPutOne.{none_some, some_same}
use Rattle.ps_surviving.proofs.StoresDoTheSame.{base_reached}
use Rattle.ps_surviving.proofs.ValuesStayInside.{inside, option_inside, procedure_is}
use Rattle.ps_surviving.proofs.WordsDoTheSame.{Like, Agrees, Same, aside, then_same, global_same}
use Rattle.ps_surviving.proofs.BodiesDoTheSame.{definitions, lambdas, blocks, IsInside, plain_in, enters_same}
use Rattle.ps_surviving.proofs.GroupsAreReached.{groups}
use Rattle.ps_surviving.proofs.CopiesAreFaithful.{kept_fixed, block_kept, block_absent, lambda_absent, lambda_kept, value_kept}

-- what stands in a list is there
past : {A : Type 0} (xs : List A) (k : ℕ) → k < length xs → slice_get xs k ≡ None → ⊥
past [] k lt e = omega (arith, lt)
past (x ∷ xs) zero lt e = none_some x (sym e)
past (x ∷ xs) (suc k) lt e = past xs k (omega (arith, lt)) e

-- the values of definitions, each by its number
run_global_at : (p : Program) (i j g : ℕ) (vs : List (Option Value)) → g ≡ i + j → slice_get (run_globals p.kernel i vs) j ≡ option_map (λ v. run_global (procedure_of p.kernel g) v) (slice_get vs j)
run_global_at p i j g [] is = refl
run_global_at p i zero g (v ∷ vs) is = let same : i ≡ g = omega (arith, is) in ap (λ n. Some (run_global (procedure_of p.kernel n) v)) same
run_global_at p i (suc j) g (v ∷ vs) is = run_global_at p (suc i) j g vs (omega (arith, is))

begun_global_at : (s : Survivors) (i j g n : ℕ) → g ≡ i + j → j < n → slice_get (begun_globals s i n) j ≡ Some (begun_global s g)
begun_global_at s i j g zero is lt = absurd (omega (arith, lt))
begun_global_at s i zero g (suc n) is lt = let same : i ≡ g = omega (arith, is) in ap (λ k. Some (begun_global s k)) same
begun_global_at s i (suc j) g (suc n) is lt = begun_global_at s (suc i) j g n (omega (arith, is)) (omega (arith, lt))

begun_global_past : (s : Survivors) (i j n : ℕ) → (j < n → ⊥) → slice_get (begun_globals s i n) j ≡ None
begun_global_past s i j zero h = refl
begun_global_past s i zero (suc n) h = absurd (h (omega arith))
begun_global_past s i (suc j) (suc n) h = begun_global_past s (suc i) j n (λ lt. h (omega (arith, lt)))

module _ (p : Program) (is_left : IsLeftProgram p) (found : List Node) (walk : Survives p (Ended found)) where
  abbrev r : Reached
  r = reached_by found

  abbrev s : Survivors
  s = survivors p found (has found)

  whole : IsWhole p found
  whole = seen_is_reached p found walk

  shut : IsClosed p r
  shut = seen_is_closed p found walk

  abbrev D : ℕ → Bool
  D = definitions p r

  abbrev B : ℕ → Bool
  B = blocks p r

  abbrev L : ℕ → Bool
  L = lambdas p r

  -- what is reached and is there was seen
  seen_global : (g : ℕ) (v : Option Value) → D g ≡ true → slice_get p.globals g ≡ Some v → r.definitions g ≡ true
  seen_global g v h at = one (slice_get p.kernel.definitions g) refl h
    where
      one : (o : Option Definition) → slice_get p.kernel.definitions g ≡ o → named_in p r (if_there o (nodes.Global g)) ≡ true → r.definitions g ≡ true
      one None e k = absurd (
          let lt = slice_get_within p.globals g v at in
          let there : g < length p.kernel.definitions = omega (arith, lt, is_left.entries) in
          past p.kernel.definitions g there e)
      one (Some d) e k = k

  -- ---- definitions

  given_same : (g : ℕ) (v : Option Value) → r.definitions g ≡ true → slice_get p.globals g ≡ Some v → (o : Option ℕ) → procedure_of p.kernel g ≡ o → begun_global s g ≡ run_global o v
  given_same g v h at None is =
      ap (λ o. given o (value_among g s.globals)) (lambda_absent p g found is) ∙ value_kept p (has found) g 0 g p.globals v is_left.left.values h is (omega arith) at
  given_same g v h at (Some l) is = ap (λ o. given o (value_among g s.globals)) (lambda_kept p g l found is h)

  globals_same : (g : ℕ) → D g ≡ true → slice_get (begun_globals s 0 (length p.kernel.definitions)) g ≡ slice_get (run_globals p.kernel 0 p.globals) g
  globals_same g h = one (slice_get p.globals g) refl
    where
      one : (o : Option (Option Value)) → slice_get p.globals g ≡ o → slice_get (begun_globals s 0 (length p.kernel.definitions)) g ≡ slice_get (run_globals p.kernel 0 p.globals) g
      one None at =
          begun_global_past s 0 g (length p.kernel.definitions) (λ lt. past p.globals g (omega (arith, lt, is_left.entries)) at)
          ∙ sym (run_global_at p 0 g g p.globals (omega arith) ∙ ap (option_map (λ v. run_global (procedure_of p.kernel g) v)) at)
      one (Some v) at =
          let lt = slice_get_within p.globals g v at in
          begun_global_at s 0 g g (length p.kernel.definitions) (omega arith) (omega (arith, lt, is_left.entries))
          ∙ ap Some (given_same g v (seen_global g v h at) at (procedure_of p.kernel g) refl)
          ∙ sym (run_global_at p 0 g g p.globals (omega arith) ∙ ap (option_map (λ v. run_global (procedure_of p.kernel g) v)) at)

  values_inside : (g : ℕ) → D g ≡ true → option_inside B L (value_in (slice_get (run_globals p.kernel 0 p.globals) g)) ≡ true
  values_inside g h = subst (λ o. option_inside B L (value_in o) ≡ true) (sym (run_global_at p 0 g g p.globals (omega arith))) (one (slice_get p.globals g) refl)
    where
      two : (v : Option Value) → slice_get p.globals g ≡ Some v → (o : Option ℕ) → procedure_of p.kernel g ≡ o → option_inside B L (run_global o v) ≡ true
      two v at (Some l) is = procedure_is B L l [] (shut.procedures g l (seen_global g v h at) is) refl
      two None at None is = refl
      two (Some u) at None is = plain_in p r u (shut.values g u (seen_global g (Some u) h at) is at)

      one : (o : Option (Option Value)) → slice_get p.globals g ≡ o → option_inside B L (value_in (option_map (λ v. run_global (procedure_of p.kernel g) v) o)) ≡ true
      one None at = refl
      one (Some v) at = two v at (procedure_of p.kernel g) refl

  -- ---- blocks

  abbrev fixed : List (ℕ × Block RunValue)
  fixed = kept_fixed p.kernel.kinds p.memory (has found) p.memory.fixed

  fixed_same : (n : ℕ) → B n ≡ true → find n fixed ≡ find n (run_memory p.memory).fixed
  fixed_same n h = one (find n p.memory.fixed) refl h
    where
      one : (o : Option (Block Value)) → find n p.memory.fixed ≡ o → named_in p r (if_there o (nodes.Data n)) ≡ true → find n fixed ≡ find n (run_memory p.memory).fixed
      one None e k = let a = block_absent p.kernel.kinds p.memory (has found) n p.memory.fixed e in a.0 ∙ sym a.1
      one (Some b) e k = block_kept p.kernel.kinds p.memory (has found) n p.memory.fixed is_left.left.fixed k

  found_in : (n : ℕ) (es : List (ℕ × Block Value)) → find n (map (map_numbered Plain) es) ≡ option_map (map_block Plain) (find n es)
  found_in n [] = refl
  found_in n (e ∷ es) = one (nat_eq n e.0) (found_in n es)
    where
      one : (c : Bool) → find n (map (map_numbered Plain) es) ≡ option_map (map_block Plain) (find n es)
          → (if c then Some (map_block Plain e.1) else find n (map (map_numbered Plain) es)) ≡ option_map (map_block Plain) (if c then Some e.1 else find n es)
      one true later = refl
      one false later = later

  abbrev items : Block RunValue → List (Option RunValue)
  items (Bytes bytes) = []
  items (Cells cells) = cells
  items (Freed n) = []

  member_there : (cs : List (Option Value)) (i : ℕ) (v : RunValue) → slice_get (map (option_map Plain) cs) i ≡ Some (Some v) → (u : Value) × Among (Some u) cs × (Plain u ≡ v)
  member_there [] i v e = absurd (none_some (Some v) e)
  member_there (None ∷ cs) zero v e = absurd (none_some v (some_same None (Some v) e))
  member_there (Some u ∷ cs) zero v e = (u, inl refl, some_same (Plain u) v (some_same (Some (Plain u)) (Some v) e))
  member_there (c ∷ cs) (suc i) v e = let t = member_there cs i v e in (t.0, inr t.1, t.2)

  cells_inside : (base : Base) (cs : List (Option RunValue)) (i : ℕ) (v : RunValue) → base_reached B base ≡ true → store.block_of (run_memory p.memory) base ≡ Some (Cells cs) → slice_get cs i ≡ Some (Some v) → inside B L v ≡ true
  cells_inside (Made n) cs i v h at there = absurd (none_some (Cells cs) (sym (ap (λ bs. slice_get (map (map_block Plain) bs) n) is_left.left.none_made) ∙ at))
  cells_inside (Fixed n) cs i v h at there = one (find n p.memory.fixed) refl h (sym (found_in n p.memory.fixed) ∙ at)
    where
      two : (b : Block Value) → find n p.memory.fixed ≡ Some b → r.blocks n ≡ true → map_block Plain b ≡ Cells cs → inside B L v ≡ true
      two (Bytes bytes) e k is = absurd (let clash : Bytes bytes ≡ Cells cs = is in cc)
      two (Freed m) e k is = absurd (let clash : Freed m ≡ Cells cs = is in cc)
      two (Cells ds) e k is =
          let all : map (option_map Plain) ds ≡ cs = ap items is in
          let t = member_there ds i v (ap (λ xs. slice_get xs i) all ∙ there) in
          subst (IsInside p r) t.2 (plain_in p r t.0 (shut.cells n ds t.0 k e t.1))

      one : (o : Option (Block Value)) → find n p.memory.fixed ≡ o → named_in p r (if_there o (nodes.Data n)) ≡ true → option_map (map_block Plain) o ≡ Some (Cells cs) → inside B L v ≡ true
      one None e k is = absurd (none_some (Cells cs) is)
      one (Some b) e k is = two b e k (some_same (map_block Plain b) (Cells cs) is)

  -- ---- the runs

  bodies : (l : ℕ) (m : Lambda) → L l ≡ true → slice_get p.kernel.lambdas l ≡ Some m → closed p r m.body ≡ true
  bodies l m h is = shut.bodies l m (subst (λ o. named_in p r (if_there o (nodes.Inner l)) ≡ true) is h) is

  main_in : D p.kernel.main ≡ true
  main_in = one (slice_get p.kernel.definitions p.kernel.main)
    where
      one : (o : Option Definition) → named_in p r (if_there o (nodes.Global p.kernel.main)) ≡ true
      one None = refl
      one (Some d) = shut.main

  module _ (w : Surroundings) (cells : Option ℕ) (n : ℕ) where
    abbrev begins : State RunValue
    begins = run_start (begun_of p) w n cells

    like : Like D B L begins (begun_globals s 0 (length p.kernel.definitions)) fixed
    like = record {
      same = globals_same;
      values = values_inside;
      memory = record { same = fixed_same; cells = cells_inside };
      locals = refl;
    }

    main_same : Same D B L RunValue (IsInside p r) (call_main p.kernel n)
    main_same =
        then_same D B L (global_same D B L (main_place p.kernel) p.kernel.main main_in)
        (λ v hv. (enters_same p r bodies (groups p found whole (are_scoped p.kernel is_left.captured is_left.valid)) n).by 0 (main_place p.kernel) v [] hv refl)

    outcomes : (x y : Step RunValue RunValue) → Agrees D B L (IsInside p r) x y → outcome integer_of (main_place p.kernel) y ≡ outcome integer_of (main_place p.kernel) x
    outcomes (Goes v t) y h = ap (outcome integer_of (main_place p.kernel)) h.is
    outcomes (Stops e t) y h = ap (outcome integer_of (main_place p.kernel)) h.is

    -- no block was made
    starts : run_start (begun_with p.kernel s) w n cells ≡ aside begins (begun_globals s 0 (length p.kernel.definitions)) fixed
    starts = ap (λ made. record (run_start (begun_with p.kernel s) w n cells) { memory = record { fixed = fixed; made = map (map_block Plain) made } }) (sym is_left.left.none_made)

    runs : outcome integer_of (main_place p.kernel) (call_main p.kernel n (run_start (begun_with p.kernel s) w n cells)) ≡ outcome integer_of (main_place p.kernel) (call_main p.kernel n begins)
    runs =
        ap (λ t. outcome integer_of (main_place p.kernel) (call_main p.kernel n t)) starts
        ∙ outcomes (call_main p.kernel n begins) (call_main p.kernel n (aside begins (begun_globals s 0 (length p.kernel.definitions)) fixed)) (main_same.same begins (begun_globals s 0 (length p.kernel.definitions)) fixed like)

  alike : RunsAlike p s
  alike = record { source = λ w n. runs w None n; traced = λ w cells n. runs w (Some cells) n }

pub survivors_run_alike : SurvivorsRunAlike
survivors_run_alike p s is_left h = subst (RunsAlike p) (sym h.is) (alike p is_left h.found h.walk)
