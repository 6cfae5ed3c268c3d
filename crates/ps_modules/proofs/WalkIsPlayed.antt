-- The walk with a stack of its own does what the recursion does.
-- For: walk
use Rattle.std.proofs.Common.{◌≡◌, ℕ, suc, ◌+◌, ◌-◌, ◌^◌, ◌<◌, ◌≤◌, List, [], ◌∷◌, ◌++◌, length, drop, slice_get, slice_set, Bool, true, false, Option, Some, None, Result, Ok, Err, refl, sym, ap, ◌∙◌, subst, arith, length-set, length-append, if◌then◌else◌}
use Rattle.std.specs.Prelude.{is_some}
use Rattle.ps_base.proofs.Choices.{or_false}
use Rattle.ps_base.specs.declared.faults.Refusal.{Refusal}
use Rattle.ps_base.specs.declared.faults.Refusal.TheVariants as refusals
use Rattle.ps_base.specs.declared.faults.ModuleKind.TheVariants as kinds
use Rattle.ps_base.specs.declared.faults.Place.{Place}
use Rattle.ps_base.specs.declared.limits.Limits.{Limits}
use Rattle.ps_library.specs.LibraryStates.{LibraryState}
use Rattle.ps_library.specs.Fetching.{AllStay}
use Rattle.ps_read.specs.Lexical.{Table}
use Rattle.ps_modules.specs.declared.files.Count.{Count}
use Rattle.ps_modules.specs.declared.shapes.Broken.{Broken}
use Rattle.ps_modules.specs.declared.shapes.OpenedName.{OpenedName}
use Rattle.ps_modules.specs.declared.shapes.Shape.{Shape}
use Rattle.ps_modules.specs.declared.types.Export.{Export}
use Rattle.ps_modules.specs.declared.types.Structure.{Structure}
use Rattle.ps_modules.specs.declared.walking.Frame.{Frame}
use Rattle.ps_modules.specs.declared.walking.Left.{Left}
use Rattle.ps_modules.specs.InsideShapes.{Says}
use Rattle.ps_modules.specs.InsideTexts.{Comes, IsEntry, refusal_by}
use Rattle.ps_modules.specs.InsideWalking.{IsMet, LeadsTo, LeftIs, opens_by, all_unmet}
use Rattle.ps_modules.specs.Playing.{Outcome, Plays, done, no_memory}
use Rattle.ps_modules.specs.Runs.{Run, Done, Stops}
use Rattle.ps_modules.specs.Texts.{Defined, place_in, last_of, resolved}
use Rattle.ps_modules.specs.Walking.{State, Goes, Enters, is_on, opening, opens_left, leaving, leaves, stops, entered, enters, start, starting, from_entry, by_entry}
use Rattle.ps_modules.proofs.FormsDefine.{interface_stops}
use Rattle.ps_modules.proofs.OpenedNamesLead.{comes_so}
use Rattle.ps_modules.proofs.PartsAreGathered.{all_stay_same, all_stay_join}
use Rattle.ps_modules.proofs.Places.{not_there}
use Rattle.ps_modules.proofs.StructuresAreMet.{structures, unmet_length, none_met, one_met, one_left, PathSo, nil, cons, path_left, met_count, count_within, count_unmet, one_more, one_unmet, unmet_at, some_at, none_at}

same_flag : (a b : Bool) → Some a ≡ Some b → a ≡ b
same_flag a b e = cc

pub leads_as : (shapes : List Shape) (path : List ℕ) (o : OpenedName) (table : Table) (walked : List ℕ) (ms : List Bool) (r s : Result (Option ℕ) Refusal) → r ≡ s
    → ((path : List ℕ) → IsMet (length shapes) ms path walked → LeadsTo shapes path o table walked ms r) → IsMet (length shapes) ms path walked → LeadsTo shapes path o table walked ms s
leads_as shapes path o table walked ms r s e h met = subst (λ q. LeadsTo shapes path o table walked ms q) e (h path met)

abbrev pub first_at : ℕ → List Export → List Frame
first_at n exports = record { structure = n; next = 0; exports = exports } ∷ []

some_last : (shapes : List Shape) (s : Shape) → last_of shapes ≡ Some s → 0 < length shapes
some_last [] s e = let h : None ≡ Some s = e in absurd (cc)
some_last (t ∷ shapes) s e = omega arith

module _ (text : Defined) (limits : Limits) where
  -- the rest of a structure that stands on the path, at most n below it
  abbrev pub rest_by : ℕ → List ℕ → ℕ → ℕ → List Export → Option Shape → State → Goes → Run
  rest_by n path i next exports None state goes_on = Done state.order state.table
  rest_by n path i next exports (Some shape) state goes_on = opens_left text limits (enters text limits n path) path i shape exports (drop next shape.clauses.opens) state goes_on

  -- what is left to do where these stand on the path, the innermost first, and at most n more may stand below them
  abbrev pub unwound : ℕ → List Frame → State → Run
  unwound n [] state = Done state.order state.table
  unwound n (f ∷ frames) state = rest_by n (structures (f ∷ frames)) f.structure f.next f.exports (slice_get text.shapes f.structure) state (λ gone. unwound (suc n) frames gone)

  -- one opened name is next
  rest_opens : (n : ℕ) (path : List ℕ) (i next : ℕ) (exports : List Export) (s : Option Shape) (o : OpenedName) (state : State) (goes_on : Goes) → slice_get (opens_by s) next ≡ Some o
      → rest_by n path i next exports s state goes_on ≡ opening text.shapes (enters text limits n path) path o state (λ after. rest_by n path i (next + 1) exports s after goes_on)
  rest_opens n path i next exports None o state goes_on e = let h : None ≡ Some o = e in absurd (cc)
  rest_opens n path i next exports (Some shape) o state goes_on e = ap (λ os. opens_left text limits (enters text limits n path) path i shape exports os state goes_on) (some_at shape.clauses.opens next o e)

  -- none is
  rest_leaves : (n : ℕ) (path : List ℕ) (i next : ℕ) (exports : List Export) (s : Option Shape) (shape : Shape) (state : State) (goes_on : Goes) → s ≡ Some shape → slice_get (opens_by s) next ≡ None
      → rest_by n path i next exports s state goes_on ≡ leaves text.shapes limits i shape exports state goes_on
  rest_leaves n path i next exports s shape state goes_on is e =
      ap (λ q. rest_by n path i next exports q state goes_on) is
      ∙ ap (λ os. opens_left text limits (enters text limits n path) path i shape exports os state goes_on) (none_at shape.clauses.opens next (ap (λ q. slice_get (opens_by q) next) (sym is) ∙ e))

  module _ (m : ℕ) (path : List ℕ) (place : Place) (j : ℕ) (shape : Shape) (at : slice_get text.shapes j ≡ Some shape) (state : State) (goes_on : Goes) where
    abbrev begun : List Export → Run
    begun = λ exports. opens_left text limits (enters text limits m (j ∷ path)) (j ∷ path) j shape exports shape.clauses.opens state goes_on

    enters_by : enters text limits (suc m) path place j state goes_on ≡ stops (resolved text.definitions (length text.definitions) [] shape.interface) begun
    unfolding enters
    enters_by = ap (λ s. entered text limits (enters text limits m (j ∷ path)) (j ∷ path) place j s state goes_on) at

    pub enters_so : (exports : List Export) → resolved text.definitions (length text.definitions) [] shape.interface ≡ Ok exports
        → enters text limits (suc m) path place j state goes_on ≡ rest_by m (j ∷ path) j 0 exports (slice_get text.shapes j) state goes_on
    enters_so exports lists = enters_by ∙ ap (λ r. stops r begun) lists ∙ sym (ap (λ s. rest_by m (j ∷ path) j 0 exports s state goes_on) at)

    pub enters_not : (b : Broken) (e : Refusal) → e ≡ refusal_by kinds.UnknownInterface b → Says (resolved text.definitions (length text.definitions) [] shape.interface) (Err b)
        → Comes (enters text limits (suc m) path place j state goes_on) e
    enters_not b e is h = subst (λ r. Comes r e) (sym enters_by) (interface_stops _ begun b e is h)

  module _ (names : Table) (taken : ℕ) (olds : List LibraryState) where
    abbrev pub whole : Run
    whole = by_entry names text limits taken (last_of text.shapes)

    pub record WalkingSo (nows : List LibraryState) (ms : List Bool) (frames : List Frame) (walked : List ℕ) (order : List Structure) (count : Count) (table : Table) : Type 0 where
      pub size : length text.shapes ≡ length ms
      pub are : IsMet (length text.shapes) ms (structures frames) walked
      pub path : PathSo (length text.shapes) walked frames
      pub counted : met_count ms ≡ length walked + length frames
      pub within : count.taken ≤ limits.all_bytes
      pub room : length table + (limits.all_bytes - count.taken) < 2 ^ 32 - 1
      pub stay : AllStay olds nows
      pub goes : (last : List LibraryState) (out : Outcome)
          → Plays (unwound (length text.shapes - length frames) frames (record { walked = walked; order = order; count = count; table = table })) nows last out
          → Plays whole olds last out

    pub popped : (nows : List LibraryState) (ms : List Bool) (fs gs : List Frame) (walked : List ℕ) (order : List Structure) (count : Count) (table : Table) → fs ≡ gs
        → WalkingSo nows ms fs walked order count table → WalkingSo nows ms gs walked order count table
    popped nows ms fs gs walked order count table e so = subst (λ hs. WalkingSo nows ms hs walked order count table) e so

    -- the same, where the marks, the path and what was left are told otherwise
    pub told_so : (nows : List LibraryState) (ms ns : List Bool) (fs gs : List Frame) (walked others : List ℕ) (order other : List Structure) (count : Count) (table : Table)
        → ns ≡ ms → gs ≡ fs → others ≡ walked → other ≡ order → WalkingSo nows ms fs walked order count table → WalkingSo nows ns gs others other count table
    told_so nows ms ns fs gs walked others order other count table e h w k so =
        subst (λ ms. WalkingSo nows ms gs others other count table) (sym e) (subst (λ fs. WalkingSo nows ms fs others other count table) (sym h)
        (subst (λ ws. WalkingSo nows ms fs ws other count table) (sym w) (subst (λ o. WalkingSo nows ms fs walked o count table) (sym k) so)))

    -- no structure is left on the path
    pub finished : (nows : List LibraryState) (ms : List Bool) (walked : List ℕ) (order : List Structure) (count : Count) (table : Table) → WalkingSo nows ms [] walked order count table → Plays whole olds nows (Ok (order, table))
    finished nows ms walked order count table so = so.goes nows (Ok (order, table)) done

    module _ (nows : List LibraryState) (ms : List Bool) (f : Frame) (frames : List Frame) (walked : List ℕ) (order : List Structure) (count : Count) (table : Table) (so : WalkingSo nows ms (f ∷ frames) walked order count table) where
      abbrev n : ℕ
      n = length text.shapes - length (f ∷ frames)

      abbrev now : State
      now = record { walked = walked; order = order; count = count; table = table }

      abbrev pub onward : Frame
      onward = record { structure = f.structure; next = f.next + 1; exports = f.exports }

      abbrev path : List ℕ
      path = structures (f ∷ frames)

      abbrev below : Enters
      below = enters text limits n path

      pub top_inside : f.structure < length text.shapes
      top_inside = elim so.path [ cons h new once t ↦ h ]

      pub top_new : place_in walked f.structure ≡ None
      top_new = elim so.path [ cons h new once t ↦ new ]

      top_once : is_on f.structure (structures frames) ≡ false
      top_once = elim so.path [ cons h new once t ↦ once ]

      rest_inside : PathSo (length text.shapes) walked frames
      rest_inside = elim so.path [ cons h new once t ↦ t ]

      onward_inside : PathSo (length text.shapes) walked (onward ∷ frames)
      onward_inside = cons top_inside top_new top_once rest_inside

      pub few_walked : length walked < length text.shapes
      few_walked = let x = so.counted in let y = count_within ms in let z = so.size in omega arith

      -- memory ran out
      pub lost : Plays whole olds nows (Err refusals.NoMemory)
      lost = no_memory so.stay

      -- an opened name is next
      module _ (o : OpenedName) (at : slice_get (opens_by (slice_get text.shapes f.structure)) f.next ≡ Some o) where
        abbrev goes_on : Goes
        goes_on = λ after. unwound n (onward ∷ frames) after

        opens : (last : List LibraryState) (out : Outcome) → Plays (opening text.shapes below path o now goes_on) nows last out → Plays whole olds last out
        opens last out h = so.goes last out (subst (λ r. Plays r nows last out) (sym (rest_opens n path f.structure f.next f.exports (slice_get text.shapes f.structure) o now (λ gone. unwound (suc n) frames gone) at)) h)

        pub refused : (e : Refusal) → (IsMet (length text.shapes) ms path walked → LeadsTo text.shapes path o table walked ms (Err e)) → Plays whole olds nows (Err e)
        refused e h = opens nows (Err e) (comes_so _ e nows (h so.are below order count goes_on))

        pub known : (IsMet (length text.shapes) ms path walked → LeadsTo text.shapes path o table walked ms (Ok None)) → WalkingSo nows ms (onward ∷ frames) walked order count table
        known h = record {
          size = so.size;
          are = so.are;
          path = onward_inside;
          counted = so.counted;
          within = so.within;
          room = so.room;
          stay = so.stay;
          goes = λ last out plays. opens last out (subst (λ r. Plays r nows last out) (sym (h so.are below order count goes_on)) plays);
        }

        module _ (j : ℕ) (given : IsMet (length text.shapes) ms path walked → LeadsTo text.shapes path o table walked ms (Ok (Some j))) where
          leads : LeadsTo text.shapes path o table walked ms (Ok (Some j))
          leads = given so.are

          pub new_below : j < length text.shapes
          new_below = leads.0

          pub new_unmet : slice_get ms j ≡ Some false
          new_unmet = leads.1

          abbrev m : ℕ
          m = length text.shapes - suc (length (f ∷ frames))

          fresh : (is_some (place_in walked j) ≡ false) × (is_on j path ≡ false)
          fresh = or_false _ _ (same_flag _ _ (sym (so.are.are j new_below) ∙ new_unmet))

          one_below : suc m ≡ n
          one_below = let x = one_unmet ms j new_unmet in let y = so.counted in let z = so.size in omega arith

          meets : (last : List LibraryState) (out : Outcome) → Plays (enters text limits (suc m) path o.place j now (λ after. unwound (suc m) (onward ∷ frames) after)) nows last out → Plays whole olds last out
          meets last out h = opens last out (subst (λ r. Plays r nows last out) (sym (leads.2 below order count goes_on))
              (subst (λ k. Plays (enters text limits k path o.place j now (λ after. unwound k (onward ∷ frames) after)) nows last out) one_below h))

          module _ (shape : Shape) (there : slice_get text.shapes j ≡ Some shape) where
            pub stuck : (b : Broken) (e : Refusal) → e ≡ refusal_by kinds.UnknownInterface b → Says (resolved text.definitions (length text.definitions) [] shape.interface) (Err b) → Plays whole olds nows (Err e)
            stuck b e is h = meets nows (Err e) (comes_so _ e nows (enters_not m path o.place j shape there now (λ after. unwound (suc m) (onward ∷ frames) after) b e is h))

            pub deeper : (exports : List Export) → resolved text.definitions (length text.definitions) [] shape.interface ≡ Ok exports
                → WalkingSo nows (slice_set ms j true) (record { structure = j; next = 0; exports = exports } ∷ onward ∷ frames) walked order count table
            deeper exports lists = record {
              size = so.size ∙ sym (length-set ms j true);
              are = one_met (length text.shapes) ms path walked j new_below so.size so.are;
              path = cons new_below (not_there _ fresh.0) fresh.1 onward_inside;
              counted = let x = one_more ms j new_unmet in let y = so.counted in omega arith;
              within = so.within;
              room = so.room;
              stay = so.stay;
              goes = λ last out plays. meets last out (subst (λ r. Plays r nows last out) (sym (enters_so m path o.place j shape there now (λ after. unwound (suc m) (onward ∷ frames) after) exports lists)) plays);
            }

      -- no opened name is left
      module _ (shape : Shape) (there : slice_get text.shapes f.structure ≡ Some shape) (at : slice_get (opens_by (slice_get text.shapes f.structure)) f.next ≡ None) where
        ends : (last : List LibraryState) (out : Outcome) → Plays (leaves text.shapes limits f.structure shape f.exports now (λ gone. unwound (suc n) frames gone)) nows last out → Plays whole olds last out
        ends last out h = so.goes last out (subst (λ r. Plays r nows last out) (sym (rest_leaves n path f.structure f.next f.exports (slice_get text.shapes f.structure) shape now (λ gone. unwound (suc n) frames gone) there at)) h)

        module _ (later : Table) (laters : List LibraryState) where
          pub left_behind : (e : Refusal) → LeftIs text.shapes limits shape f.exports now nows later laters (Err e) → Plays whole olds laters (Err e)
          left_behind e h = ends laters (Err e) (h f.structure (λ gone. unwound (suc n) frames gone))

          module _ (left : Left) (h : LeftIs text.shapes limits shape f.exports now nows later laters (Ok left)) where
            pub lost_behind : Plays whole olds laters (Err refusals.NoMemory)
            lost_behind = no_memory (all_stay_join olds nows laters so.stay h.stay)

            pub closed : WalkingSo laters ms frames (walked ++ f.structure ∷ []) (order ++ left.structure ∷ []) left.count later
            closed = record {
              size = so.size;
              are = one_left (length text.shapes) ms (structures frames) walked f.structure so.are;
              path = path_left (length text.shapes) walked f.structure frames top_once rest_inside;
              counted = let x = so.counted in let y = length-append walked (f.structure ∷ []) in omega (arith, y);
              within = h.taken;
              room = let x = h.room in let y = so.room in omega arith;
              stay = all_stay_join olds nows laters so.stay h.stay;
              goes = λ last out plays. let x = so.counted in let y = count_within ms in let z = so.size in let one : length text.shapes - length frames ≡ suc n = omega arith in
                  ends last out (h.goes_on f.structure (λ gone. unwound (suc n) frames gone) last out (subst (λ k. Plays (unwound k frames (leaving f.structure left.structure now left.count later)) laters last out) one plays));
            }

    module _ (exports : List Export) (entry : IsEntry names text (last_of text.shapes) exports) where
      pub some_entry : 0 < length text.shapes
      some_entry = some_last text.shapes entry.entry entry.is

      abbrev ends_with : Goes
      ends_with = λ state. Done state.order state.table

      whole_is : whole ≡ enters text limits (length text.shapes) [] start (length text.shapes - 1) (starting names taken) ends_with
      whole_is = ap (by_entry names text limits taken) entry.is ∙ ap (λ r. stops r (from_entry names text limits taken entry.entry)) entry.lists
          ∙ ap (λ (b : Bool). if b then enters text limits (length text.shapes) [] start (length text.shapes - 1) (starting names taken) ends_with else Stops (record { kind = kinds.NoMain; place = entry.entry.form })) entry.main

      pub starts : taken ≤ limits.all_bytes → length names + (limits.all_bytes - taken) < 2 ^ 32 - 1 → (ms : List Bool) → ms ≡ all_unmet (length text.shapes)
          → WalkingSo olds (slice_set ms (length text.shapes - 1) true) (record { structure = length text.shapes - 1; next = 0; exports = exports } ∷ []) [] [] (record { number = 0; taken = taken }) names
      starts within room ms e = subst (λ ms. WalkingSo olds (slice_set ms (length text.shapes - 1) true) (record { structure = length text.shapes - 1; next = 0; exports = exports } ∷ []) [] [] (record { number = 0; taken = taken }) names) (sym e) (record {
        size = sym (unmet_length (length text.shapes)) ∙ sym (length-set (all_unmet (length text.shapes)) (length text.shapes - 1) true);
        are = one_met (length text.shapes) (all_unmet (length text.shapes)) [] [] (length text.shapes - 1) last_below (sym (unmet_length (length text.shapes))) (none_met (length text.shapes));
        path = cons last_below refl refl nil;
        counted = one_more (all_unmet (length text.shapes)) (length text.shapes - 1) (unmet_at (length text.shapes) (length text.shapes - 1) last_below) ∙ ap suc (count_unmet (length text.shapes));
        within = within;
        room = room;
        stay = all_stay_same olds;
        goes = λ last out plays. let one : suc (length text.shapes - 1) ≡ length text.shapes = omega (arith, some_entry) in
            subst (λ r. Plays r olds last out) (sym whole_is)
            (subst (λ k. Plays (enters text limits k [] start (length text.shapes - 1) (starting names taken) ends_with) olds last out) one
            (subst (λ r. Plays r olds last out) (sym (enters_so (length text.shapes - 1) [] start (length text.shapes - 1) entry.entry entry.is (starting names taken) ends_with exports entry.lists)) plays));
      })
        where
          last_below : length text.shapes - 1 < length text.shapes
          last_below = omega (arith, some_entry)
