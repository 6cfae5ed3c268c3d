-- The parts of a body are gathered one after another, and its files are fetched and read.
-- For: body_of, part_of, file_of
use Rattle.std.proofs.Common.{◌≡◌, ℕ, ◌+◌, ◌-◌, ◌<◌, ◌≤◌, List, [], ◌∷◌, ◌++◌, length, drop, get_or, Result, Ok, Err, refl, sym, ap, ◌∙◌, subst, arith}
use Rattle.std.proofs.lemmas.List.{drop_all}
use Rattle.ps_base.specs.declared.faults.Fault.{Fault}
use Rattle.ps_base.specs.declared.faults.Fault.TheVariants as faults
use Rattle.ps_base.specs.declared.faults.Refusal.{Refusal}
use Rattle.ps_base.specs.declared.faults.Refusal.TheVariants as refusals
use Rattle.ps_base.specs.declared.limits.Limits.{Limits}
use Rattle.ps_datum.specs.declared.datum.Datum.{Datum}
use Rattle.ps_library.specs.LibraryStates.{LibraryState}
use Rattle.ps_library.specs.Fetching.{Fetches, Stays, AllStay}
use Rattle.ps_library.specs.declared.fetching.FetchFault.{FetchFault}
use Rattle.ps_read.specs.Lexical.{Table, tokens_of}
use Rattle.ps_read.specs.Reading.{Reads, Refuses, IsSyntax}
use Rattle.ps_read.specs.declared.token.Breach.{Breach}
use Rattle.ps_modules.specs.declared.files.Body.{Body}
use Rattle.ps_modules.specs.declared.files.Count.{Count}
use Rattle.ps_modules.specs.declared.shapes.FileName.{FileName}
use Rattle.ps_modules.specs.declared.shapes.Part.{Part}
use Rattle.ps_modules.specs.declared.shapes.Part.TheVariants as parts
use Rattle.ps_modules.specs.InsideWalking.{Gathered, Ungathered}
use Rattle.ps_modules.specs.Playing.{Outcome, Plays, fetched, unreadable, missed, no_memory, refusal_of}
use Rattle.ps_modules.specs.Runs.{Run}
use Rattle.ps_modules.specs.Walking.{room_of, next_number, counted, parts_then}
use Rattle.ps_modules.proofs.Gathering.{item_at}
use Rattle.ps_modules.proofs.TextsAddFewNames.{few_listed}

-- ---- libraries stay

pub all_stay_same : (olds : List LibraryState) → AllStay olds olds
all_stay_same [] = tt
all_stay_same (old ∷ olds) = (record { key = refl; files = refl; given = omega arith; faults = omega arith }, all_stay_same olds)

stays_join : (s t u : LibraryState) → Stays s t → Stays t u → Stays s u
stays_join s t u h k = record { key = k.key ∙ h.key; files = k.files ∙ h.files; given = let x = h.given in let y = k.given in omega arith; faults = let x = h.faults in let y = k.faults in omega arith }

pub all_stay_join : (ss ts us : List LibraryState) → AllStay ss ts → AllStay ts us → AllStay ss us
all_stay_join [] [] [] h k = tt
all_stay_join (s ∷ ss) (t ∷ ts) (u ∷ us) h k = (stays_join s t u h.0 k.0, all_stay_join ss ts us h.1 k.1)
all_stay_join [] [] (u ∷ us) h k = absurd k
all_stay_join [] (t ∷ ts) us h k = absurd h
all_stay_join (s ∷ ss) [] us h k = absurd h
all_stay_join (s ∷ ss) (t ∷ ts) [] h k = absurd k

-- ---- one file

module _ (limits : Limits) (f : FileName) (count : Count) (table : Table) (olds mids : List LibraryState) (name : List ℕ) (is_name : name ≡ f.text) (room : ℕ) (is_room : room ≡ room_of limits count) (within : count.taken ≤ limits.all_bytes) where
  asked : (r : Result (List ℕ) FetchFault) → Fetches name room olds mids r → Fetches f.text (room_of limits count) olds mids r
  asked r h = subst (λ m. Fetches f.text m olds mids r) is_room (subst (λ n. Fetches n room olds mids r) is_name h)

  module _ (text : List ℕ) (got : Fetches name room olds mids (Ok text)) where
    pub file_fits : count.taken + length text ≤ limits.all_bytes
    file_fits = let x = got.within in omega (arith, is_room)

    module _ (behind : Count) (is_behind : behind ≡ counted count (length text)) where
      -- it was read
      pub file_gathered : (ds : List Datum) (later : Table) → Reads table behind.number text ds later
          → Gathered limits (parts.File f ∷ []) count table olds later mids (record { forms = ds; count = behind })
      file_gathered ds later reads = subst (λ b. Gathered limits (parts.File f ∷ []) count table olds later mids (record { forms = ds; count = b })) (sym is_behind) (record {
        taken = file_fits;
        room = let x = few_listed table 0 text in let y = ap length reads.names_are in let z = file_fits in omega arith;
        stay = got.stay;
        goes_on = λ goes last out h. fetched (asked (Ok text) got) (subst (λ c. Reads table c.number text ds later) is_behind reads) h;
      })

      -- it was not
      syntax_is : (f : Fault) (b : Breach) → IsSyntax f b → f ≡ faults.Syntax b.kind b.place
      syntax_is (faults.Syntax kind place) b h = ap (λ (b : Breach). faults.Syntax b.kind b.place) (sym h)
      syntax_is _ b h = absurd h

      refused : (e : Refusal) → Refuses e (tokens_of table (next_number count) text) → Ungathered limits (parts.File f ∷ []) count table olds mids e
      refused refusals.NoMemory h = record { refuses = λ goes. no_memory got.stay }
      refused (refusals.Fault x) h = let (b, is, first) = h in record {
        refuses = λ goes. subst (λ y. Plays (parts_then limits (parts.File f ∷ []) [] count table goes) olds mids (Err (refusals.Fault y))) (sym (syntax_is x b is)) (unreadable (asked (Ok text) got) first);
      }

      pub file_unread : (e : Refusal) → Refuses e (tokens_of table behind.number text) → Ungathered limits (parts.File f ∷ []) count table olds mids e
      file_unread e h = refused e (subst (λ c. Refuses e (tokens_of table c.number text)) is_behind h)

  pub file_missed : (fault : FetchFault) → Fetches name room olds mids (Err fault) → (e : Refusal) → e ≡ refusal_of f.place count fault → Ungathered limits (parts.File f ∷ []) count table olds mids e
  file_missed fault is e same = record { refuses = λ goes. subst (λ x. Plays (parts_then limits (parts.File f ∷ []) [] count table goes) olds mids (Err x)) (sym same) (missed (asked (Err fault) is)) }

-- ---- forms

pub forms_gathered : (limits : Limits) (forms copies : List Datum) (count : Count) (table : Table) (olds : List LibraryState) → count.taken ≤ limits.all_bytes → copies ≡ forms
    → Gathered limits (parts.Forms forms ∷ []) count table olds table olds (record { forms = copies; count = count })
forms_gathered limits forms copies count table olds within e = subst (λ ds. Gathered limits (parts.Forms forms ∷ []) count table olds table olds (record { forms = ds; count = count })) (sym e)
    (record { taken = within; room = omega arith; stay = all_stay_same olds; goes_on = λ goes last out h. h })

pub part_forms : (limits : Limits) (p : Part) (forms copies : List Datum) (count : Count) (table : Table) (olds : List LibraryState) → p ≡ parts.Forms forms → count.taken ≤ limits.all_bytes → copies ≡ forms
    → Gathered limits (p ∷ []) count table olds table olds (record { forms = copies; count = count })
part_forms limits p forms copies count table olds is within e = subst (λ q. Gathered limits (q ∷ []) count table olds table olds (record { forms = copies; count = count })) (sym is) (forms_gathered limits forms copies count table olds within e)

pub ungathered_lost : (limits : Limits) (parts : List Part) (count : Count) (table : Table) (olds mids : List LibraryState) → AllStay olds mids → Ungathered limits parts count table olds mids refusals.NoMemory
ungathered_lost limits parts count table olds mids stay = record { refuses = λ goes. no_memory stay }

-- ---- one part after another

-- a part in front of others
pub part_first : (limits : Limits) (p : Part) (rest : List Part) (body : List Datum) (count : Count) (table : Table) (goes : List Datum → Count → Table → Run)
    → parts_then limits (p ∷ rest) body count table goes ≡ parts_then limits (p ∷ []) [] count table (λ ds c t. parts_then limits rest (body ++ ds) c t goes)
part_first limits (parts.Forms ds) rest body count table goes = refl
part_first limits (parts.File f) rest body count table goes = refl

-- the first i parts were gathered
pub record GatheredSo (limits : Limits) (all : List Part) (first : Count) (table : Table) (olds : List LibraryState) (forms : List Datum) (count : Count) (later : Table) (nows : List LibraryState) (i : ℕ) : Type 0 where
  pub taken : count.taken ≤ limits.all_bytes
  pub room : length later + (limits.all_bytes - count.taken) ≤ length table + (limits.all_bytes - first.taken)
  pub stay : AllStay olds nows
  pub goes_on : (goes : List Datum → Count → Table → Run) (last : List LibraryState) (out : Outcome)
      → Plays (parts_then limits (drop i all) forms count later goes) nows last out → Plays (parts_then limits all [] first table goes) olds last out

pub none_gathered : (limits : Limits) (all : List Part) (first : Count) (table : Table) (olds : List LibraryState) (forms : List Datum) → forms ≡ [] → first.taken ≤ limits.all_bytes
    → GatheredSo limits all first table olds forms first table olds 0
none_gathered limits all first table olds forms e within = subst (λ ds. GatheredSo limits all first table olds ds first table olds 0) (sym e)
    (record { taken = within; room = omega arith; stay = all_stay_same olds; goes_on = λ goes last out h. h })

module _ (limits : Limits) (all : List Part) (first : Count) (table : Table) (olds : List LibraryState) (forms : List Datum) (count : Count) (later : Table) (nows : List LibraryState) (i : ℕ) (so : GatheredSo limits all first table olds forms count later nows i) where
  module _ (p : Part) (lt : i < length all) (at : p ≡ get_or all i p) where
    onto : (goes : List Datum → Count → Table → Run) → List Datum → Count → Table → Run
    onto goes = λ ds c t. parts_then limits (drop (i + 1) all) (forms ++ ds) c t goes

    next : (goes : List Datum → Count → Table → Run) (last : List LibraryState) (out : Outcome)
        → Plays (parts_then limits (p ∷ []) [] count later (λ ds c t. parts_then limits (drop (i + 1) all) (forms ++ ds) c t goes)) nows last out → Plays (parts_then limits all [] first table goes) olds last out
    next goes last out h = so.goes_on goes last out (subst (λ r. Plays r nows last out)
        (sym (ap (λ ps. parts_then limits ps forms count later goes) (item_at all i p lt at) ∙ part_first limits p (drop (i + 1) all) forms count later goes)) h)

    module _ (after : Table) (news : List LibraryState) where
      pub part_gathered : (body : Body) → Gathered limits (p ∷ []) count later nows after news body → (now : List Datum) → now ≡ forms ++ body.forms
          → GatheredSo limits all first table olds now body.count after news (i + 1)
      part_gathered body h now e = subst (λ ds. GatheredSo limits all first table olds ds body.count after news (i + 1)) (sym e) (record {
        taken = h.taken;
        room = let x = so.room in let y = h.room in omega arith;
        stay = all_stay_join olds nows news so.stay h.stay;
        goes_on = λ goes last out plays. next goes last out (h.goes_on _ last out plays);
      })

      pub part_lost : (body : Body) → Gathered limits (p ∷ []) count later nows after news body → Ungathered limits all first table olds news refusals.NoMemory
      part_lost body h = ungathered_lost limits all first table olds news (all_stay_join olds nows news so.stay h.stay)

      pub part_refused : (e : Refusal) → Ungathered limits (p ∷ []) count later nows news e → Ungathered limits all first table olds news e
      part_refused e h = record { refuses = λ goes. next goes news (Err e) (h.refuses _) }

  pub all_gathered : length all ≤ i → Gathered limits all first table olds later nows (record { forms = forms; count = count })
  all_gathered past = record {
    taken = so.taken;
    room = so.room;
    stay = so.stay;
    goes_on = λ goes last out h. so.goes_on goes last out (subst (λ ps. Plays (parts_then limits ps forms count later goes) nows last out) (sym (drop_all i all past)) h);
  }
