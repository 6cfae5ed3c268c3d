-- What follows of a walk that was played.
-- For: link, link_structures
use Rattle.std.proofs.Common.{◌≡◌, ℕ, zero, suc, ◌≤◌, List, [], ◌∷◌, length, slice_get, Bool, true, false, Option, Some, None, IfSome, Ok, Err, refl, sym, ap, ◌∙◌, subst, arith, if◌then◌else◌}
use Rattle.std.specs.Prelude.{codes}
use Rattle.std.specs.Option.{option_map, option_and_then}
use Rattle.ps_base.specs.declared.faults.Fault.TheVariants as faults
use Rattle.ps_base.specs.declared.faults.Place.{Place}
use Rattle.ps_base.specs.declared.faults.Refusal.{Refusal}
use Rattle.ps_base.specs.declared.faults.Refusal.TheVariants as refusals
use Rattle.ps_base.specs.declared.limits.Limits.{Limits}
use Rattle.ps_datum.specs.declared.datum.Datum.{Datum}
use Rattle.ps_library.specs.LibraryStates.{LibraryState, Files}
use Rattle.ps_library.specs.Fetching.{Fits, before, search_path, AllStay, RoseAt}
use Rattle.ps_library.specs.declared.fetching.FetchFault.{FetchFault}
use Rattle.ps_library.specs.declared.fetching.FetchFault.TheVariants as fetching
use Rattle.ps_read.specs.Lexical.{Table, name_in}
use Rattle.ps_read.specs.Reading.{Reads}
use Rattle.ps_modules.specs.declared.files.Count.{Count}
use Rattle.ps_modules.specs.declared.types.Structure.{Structure}
use Rattle.ps_modules.specs.InsideTexts.{Troubles, Comes}
use Rattle.ps_modules.specs.InsideWalking.{IsUser}
use Rattle.ps_modules.specs.Linking.{Answered, found, too_long, missing, Tells, just, failed, memory, Links}
use Rattle.ps_modules.specs.Linking as linking
use Rattle.ps_modules.specs.Playing.{Outcome, Plays, done, stopped, fetched, unreadable, missed, no_memory, refusal_of}
use Rattle.ps_modules.specs.Runs.{Run, Wants}
use Rattle.ps_modules.specs.Texts.{Defined, is_body, defined_by, nothing, last_of}
use Rattle.ps_modules.specs.Walking.{next_number, by_text, by_entry, walk_of, user, with_user, body_run, linked}
use Rattle.ps_modules.proofs.OpenedNamesLead.{comes_so}
use Rattle.ps_modules.proofs.PartsAreGathered.{all_stay_same, all_stay_join}

-- ---- the libraries stay

plays_stay : (run : Run) (olds news : List LibraryState) (out : Outcome) → Plays run olds news out → AllStay olds news
plays_stay run olds news out done = all_stay_same olds
plays_stay run olds news out stopped = all_stay_same olds
plays_stay run olds news out (fetched {behind = behind} {goes_on = goes_on} {mids = mids} {text = text} {ds = ds} got reads rest) = all_stay_join olds mids news got.stay (plays_stay (goes_on text ds behind) mids news out rest)
plays_stay run olds news out (unreadable got first) = got.stay
plays_stay run olds news out (missed got) = got.stay
plays_stay run olds news out (no_memory stay) = stay

same_path : (olds news : List LibraryState) → AllStay olds news → search_path news ≡ search_path olds
same_path [] [] h = refl
same_path (old ∷ olds) (new ∷ news) h = ap (λ files. option_and_then (λ first. option_map (before first) (search_path news)) files) h.0.files
    ∙ ap (λ rest. option_and_then (λ first. option_map (before first) rest) old.files) (same_path olds news h.1)
same_path [] (new ∷ news) h = absurd h
same_path (old ∷ olds) [] h = absurd h

-- ---- what is told

module _ (files : Files) where
  tells_missed : (name : List ℕ) (room : ℕ) (place : Place) (count : Count) (table : Table) (goes_on : List ℕ → List Datum → Table → Run) (fault : FetchFault) → Fits room (files name) (Err fault)
      → Tells files (Wants name room place count table goes_on) (Err (refusal_of place count fault))
  tells_missed name room place count table goes_on fetching.Absent h = just (missing h)
  tells_missed name room place count table goes_on (fetching.Failed i) h = failed i
  tells_missed name room place count table goes_on fetching.TooLong h = just (too_long h.is h.longer)
  tells_missed name room place count table goes_on fetching.NoMemory h = memory

  tells_on : (name : List ℕ) (room : ℕ) (place : Place) (count : Count) (table behind : Table) (goes_on : List ℕ → List Datum → Table → Run) (text : List ℕ) (ds : List Datum) (out : Outcome)
      → files name ≡ Some text → length text ≤ room → Reads table (next_number count) text ds behind → Tells files (goes_on text ds behind) out → Tells files (Wants name room place count table goes_on) out
  tells_on name room place count table behind goes_on text ds out is fits reads (just a) = just (found is fits reads a)
  tells_on name room place count table behind goes_on text ds out is fits reads (failed k) = failed k
  tells_on name room place count table behind goes_on text ds out is fits reads memory = memory

  some : (o : Option Files) (P : Files → Type 0) → o ≡ Some files → IfSome o P → P files
  some o P e h = subst (λ q. IfSome q P) e h

  tells : (run : Run) (olds news : List LibraryState) (out : Outcome) → search_path olds ≡ Some files → Plays run olds news out → Tells files run out
  tells run olds news out e done = just linking.done
  tells run olds news out e stopped = just linking.stopped
  tells run olds news out e (fetched {name = name} {room = room} {place = place} {count = count} {table = table} {behind = behind} {goes_on = goes_on} {mids = mids} {text = text} {ds = ds} got reads rest) =
      let fits = some (search_path olds) (λ fs. Fits room (fs name) (Ok text)) e got.told in
      tells_on name room place count table behind goes_on text ds out fits.0 fits.1 reads (tells (goes_on text ds behind) mids news out (same_path olds mids got.stay ∙ e) rest)
  tells run olds news out e (unreadable {name = name} {room = room} {text = text} got first) =
      let fits = some (search_path olds) (λ fs. Fits room (fs name) (Ok text)) e got.told in just (linking.unreadable fits.0 fits.1 first)
  tells run olds news out e (missed {name = name} {room = room} {place = place} {count = count} {table = table} {goes_on = goes_on} {fault = fault} got) =
      tells_missed name room place count table goes_on fault (some (search_path olds) (λ fs. Fits room (fs name) (Err fault)) e got.told)
  tells run olds news out e (no_memory stay) = memory

told : (run : Run) (olds news : List LibraryState) (out : Outcome) (o : Option Files) → search_path olds ≡ o → Plays run olds news out → IfSome o (λ files. Tells files run out)
told run olds news out None e h = tt
told run olds news out (Some files) e h = tells files run olds news out e h

-- ---- who is blamed

at_before : (k : ℕ) (olds mids : List LibraryState) (mid : LibraryState) → AllStay olds mids → slice_get mids k ≡ Some mid → (old : LibraryState) × (slice_get olds k ≡ Some old) × (old.faults ≤ mid.faults)
at_before k [] [] mid h e = let x : None ≡ Some mid = e in absurd (cc)
at_before zero (old ∷ olds) (m ∷ mids) mid h e = let x : m ≡ mid = cc in (old, refl, subst (λ s. old.faults ≤ s.faults) x h.0.faults)
at_before (suc k) (old ∷ olds) (m ∷ mids) mid h e = at_before k olds mids mid h.1 e
at_before k [] (m ∷ mids) mid h e = absurd h
at_before k (old ∷ olds) [] mid h e = absurd h

rose_before : (k : ℕ) (olds mids news : List LibraryState) → AllStay olds mids → RoseAt k mids news → RoseAt k olds news
rose_before k olds mids news h rose = let (old, stood, below) = at_before k olds mids rose.old h rose.stood in
    record { old = old; new = rose.new; stood = stood; stands = rose.stands; rose = let x = rose.rose in omega arith }

blamed : (run : Run) (olds news : List LibraryState) (out : Outcome) → Plays run olds news out → (k : ℕ) → out ≡ Err (refusals.Fault (faults.Library k)) → RoseAt k olds news
blamed run olds news out done k e = absurd (cc)
blamed run olds news out stopped k e = absurd (cc)
blamed run olds news out (fetched {behind = behind} {goes_on = goes_on} {mids = mids} {text = text} {ds = ds} got reads rest) k e = rose_before k olds mids news got.stay (blamed (goes_on text ds behind) mids news out rest k e)
blamed run olds news out (unreadable got first) k e = absurd (cc)
blamed run olds news out (missed {fault = fetching.Absent} got) k e = absurd (cc)
blamed run olds news out (missed {fault = fetching.Failed i} got) k e = let same : i ≡ k = cc in subst (λ n. RoseAt n olds news) same got.rose
blamed run olds news out (missed {fault = fetching.TooLong} got) k e = absurd (cc)
blamed run olds news out (missed {fault = fetching.NoMemory} got) k e = absurd (cc)
blamed run olds news out (no_memory stay) k e = absurd (cc)

pub links : (run : Run) (olds news : List LibraryState) (out : Outcome) → Plays run olds news out → Links run olds news out
links run olds news out h = record { plays = h; stay = plays_stay run olds news out h; told = told run olds news out (search_path olds) refl h; blamed = blamed run olds news out h }

-- ---- a text of structures

text_comes : (names : Table) (limits : Limits) (ds : List Datum) (taken : ℕ) (e : Refusal) → Troubles (defined_by names nothing ds) e → Comes (walk_of names limits ds taken) e
text_comes names limits ds taken refusals.NoMemory h = tt
text_comes names limits ds taken (refusals.Fault f) h = let (t, is, same) = h in (t, ap (by_text names limits taken) is, same)

pub text_refused : (names : Table) (limits : Limits) (ds : List Datum) (taken : ℕ) (e : Refusal) (states : List LibraryState) → Troubles (defined_by names nothing ds) e → Plays (walk_of names limits ds taken) states states (Err e)
text_refused names limits ds taken e states h = comes_so (walk_of names limits ds taken) e states (text_comes names limits ds taken e h)

module _ (names : Table) (limits : Limits) (ds : List Datum) (taken : ℕ) (text : Defined) (is : defined_by names nothing ds ≡ Ok text) where
  pub walk_so : (olds news : List LibraryState) (out : Outcome) → Plays (by_entry names text limits taken (last_of text.shapes)) olds news out → Plays (walk_of names limits ds taken) olds news out
  walk_so olds news out h = subst (λ r. Plays (by_text names limits taken r) olds news out) (sym is) h

  pub entry_refused : (e : Refusal) (states : List LibraryState) → ((limits : Limits) (taken : ℕ) → Comes (by_entry names text limits taken (last_of text.shapes)) e) → Plays (walk_of names limits ds taken) states states (Err e)
  entry_refused e states h = walk_so states states (Err e) (comes_so _ e states (h limits taken))

-- ---- every text

module _ (names : Table) (limits : Limits) (ds : List Datum) (taken : ℕ) (body : Bool) (is : body ≡ is_body names ds) where
  module _ (other : List Datum) (same : other ≡ ds) where
    pub linked_walk : body ≡ false → (olds news : List LibraryState) (out : Outcome) → Plays (walk_of names limits other taken) olds news out → Links (linked names limits ds taken) olds news out
    linked_walk fails olds news out h = links _ olds news out (subst (λ b. Plays (if b then body_run names ds else walk_of names limits ds taken) olds news out) (sym (sym is ∙ fails))
        (subst (λ xs. Plays (walk_of names limits xs taken) olds news out) same h))

    pub linked_body : body ≡ true → (structures : List Structure) (later : Table) → IsUser names other structures later → (states : List LibraryState) → Links (linked names limits ds taken) states states (Ok (structures, later))
    linked_body holds structures later given states = let so = subst (λ xs. IsUser names xs structures later) same given in
        links _ states states _ (subst (λ b. Plays (if b then body_run names ds else walk_of names limits ds taken) states states (Ok (structures, later))) (sym (sym is ∙ holds))
        (subst (λ o. Plays (body_run names ds) states states (Ok (o, later))) (sym so.is)
        (subst (λ (t : Table). Plays (body_run names ds) states states (Ok (user (name_in names (codes "user")) (name_in (with_user names) (codes "main")) ds ∷ [], t))) (sym so.table) done)))

pub linked_lost : (run : Run) (states : List LibraryState) → Links run states states (Err refusals.NoMemory)
linked_lost run states = links run states states _ (no_memory (all_stay_same states))
