-- What follows when the libraries are asked one after another.
-- For: fetch
use Rattle.std.proofs.Common.{◌≡◌, ◌≢◌, ℕ, suc, ◌+◌, List, [], ◌∷◌, Option, Some, None, IfSome, IfOk, length, ◌≤◌, Result, Ok, Err, refl, sym, subst, arith}
use Rattle.std.specs.Option.{option_map, option_and_then}
use Rattle.ps_library.specs.LibraryStates.{LibraryState, Files}
use Rattle.ps_library.specs.Libraries.{Gave}
use Rattle.ps_library.specs.Fetching.{ReadsFile, Asks, none, passed, found, or_else, before, search_path, Fits, Stays, AllStay, RoseAt, Blames, Fetches}
use Rattle.ps_library.specs.declared.fetching.FetchFault.{FetchFault}
use Rattle.ps_library.specs.declared.fetching.FetchFault.TheVariants as fault

-- ---- the libraries stay

gave_stays : (old new : LibraryState) (k : ℕ) → Gave old new k → Stays old new
gave_stays old new k h = record { key = h.key; files = h.files; given = omega (arith, h.given); faults = h.faults }

reads_stays : (name : List ℕ) (room k : ℕ) (old new : LibraryState) (r : Result (List ℕ) FetchFault) → ReadsFile name room k old new r → Stays old new
reads_stays name room k old new (Ok text) h = gave_stays old new _ h.1
reads_stays name room k old new (Err fault.Absent) h = gave_stays old new _ h.0
reads_stays name room k old new (Err (fault.Failed i)) h = gave_stays old new _ h.1.2
reads_stays name room k old new (Err fault.TooLong) h = gave_stays old new _ h.0.2
reads_stays name room k old new (Err fault.NoMemory) h = gave_stays old new _ h.2

all_stay_same : (olds : List LibraryState) → AllStay olds olds
all_stay_same [] = tt
all_stay_same (old ∷ olds) = (record { key = refl; files = refl; given = omega arith; faults = omega arith }, all_stay_same olds)

all_stay : (name : List ℕ) (room k : ℕ) (olds news : List LibraryState) (r : Result (List ℕ) FetchFault) → Asks name room k olds news r → AllStay olds news
all_stay name room k [] [] r none = tt
all_stay name room k [] (new ∷ news) r h = elim h [ ]
all_stay name room k (old ∷ olds) [] r h = elim h [ ]
all_stay name room k (old ∷ olds) (new ∷ news) r (passed reads rest) = (reads_stays name room k old new (Err fault.Absent) reads, all_stay name room (suc k) olds news r rest)
all_stay name room k (old ∷ olds) (new ∷ news) r (found is reads) = (reads_stays name room k old new r reads, all_stay_same olds)

-- ---- what is told

passes : (name : List ℕ) (room : ℕ) (r : Result (List ℕ) FetchFault) (first rest : Option Files) → IfSome first (λ f. f name ≡ None) → IfSome rest (λ f. Fits room (f name) r)
    → IfSome (option_and_then (λ f. option_map (before f) rest) first) (λ f. Fits room (f name) r)
passes name room r None rest lacks so = tt
passes name room r (Some f) None lacks so = tt
passes name room r (Some f) (Some fs) lacks so = subst (λ o. Fits room (or_else o (fs name)) r) (sym lacks) so

gives : (room : ℕ) (r : Result (List ℕ) FetchFault) (file rest : Option (List ℕ)) → r ≢ Err fault.Absent → Fits room file r → Fits room (or_else file rest) r
gives room r (Some text) rest is so = so
gives room (Ok text) None rest is so = let e : None ≡ Some text = so.0 in absurd (cc)
gives room (Err fault.Absent) None rest is so = absurd (is refl)
gives room (Err (fault.Failed i)) None rest is so = tt
gives room (Err fault.TooLong) None rest is so = let e : None ≡ Some so.text = so.is in absurd (cc)
gives room (Err fault.NoMemory) None rest is so = tt

stops : (name : List ℕ) (room : ℕ) (r : Result (List ℕ) FetchFault) (first rest : Option Files) → r ≢ Err fault.Absent → IfSome first (λ f. Fits room (f name) r)
    → IfSome (option_and_then (λ f. option_map (before f) rest) first) (λ f. Fits room (f name) r)
stops name room r None rest is so = tt
stops name room r (Some f) None is so = tt
stops name room r (Some f) (Some fs) is so = gives room r (f name) (fs name) is so

nothing : (first : Option Files) → IfSome first (λ f. Unit {0})
nothing None = tt
nothing (Some f) = tt

both : (first : Option Files) (P Q : Files → Type 0) → ((f : Files) → P f → Q f) → IfSome first P → IfSome first Q
both None P Q so h = tt
both (Some f) P Q so h = so f h

reads_told : (name : List ℕ) (room k : ℕ) (old new : LibraryState) (r : Result (List ℕ) FetchFault) → ReadsFile name room k old new r → IfSome old.files (λ f. Fits room (f name) r)
reads_told name room k old new (Ok text) h = both old.files _ _ (λ f e. (e, h.0)) h.2.holds
reads_told name room k old new (Err fault.Absent) h = h.1.holds
reads_told name room k old new (Err (fault.Failed i)) h = nothing old.files
reads_told name room k old new (Err fault.TooLong) h = h.1.holds
reads_told name room k old new (Err fault.NoMemory) h = nothing old.files

told : (name : List ℕ) (room k : ℕ) (olds news : List LibraryState) (r : Result (List ℕ) FetchFault) → Asks name room k olds news r → IfSome (search_path olds) (λ f. Fits room (f name) r)
told name room k [] [] r none = refl
told name room k [] (new ∷ news) r h = elim h [ ]
told name room k (old ∷ olds) [] r h = elim h [ ]
told name room k (old ∷ olds) (new ∷ news) r (passed reads rest) = passes name room r old.files (search_path olds) (reads_told name room k old new (Err fault.Absent) reads) (told name room (suc k) olds news r rest)
told name room k (old ∷ olds) (new ∷ news) r (found is reads) = stops name room r old.files (search_path olds) is (reads_told name room k old new r reads)

-- ---- what is answered has room

short : (name : List ℕ) (room k : ℕ) (olds news : List LibraryState) (r : Result (List ℕ) FetchFault) → Asks name room k olds news r → IfOk r (λ text. length text ≤ room)
short name room k olds news (Err fault) h = tt
short name room k [] [] (Ok text) h = elim h [ ]
short name room k [] (new ∷ news) (Ok text) h = elim h [ ]
short name room k (old ∷ olds) [] (Ok text) h = elim h [ ]
short name room k (old ∷ olds) (new ∷ news) (Ok text) (passed reads rest) = short name room (suc k) olds news (Ok text) rest
short name room k (old ∷ olds) (new ∷ news) (Ok text) (found is reads) = reads.0

-- ---- who is blamed

rose : (name : List ℕ) (room k i : ℕ) (olds news : List LibraryState) → Asks name room k olds news (Err (fault.Failed i)) → (j : ℕ) × (i ≡ k + j) × RoseAt j olds news
rose name room k i [] news h = elim h [ ]
rose name room k i (old ∷ olds) [] h = elim h [ ]
rose name room k i (old ∷ olds) (new ∷ news) (passed reads rest) =
    let (j, at, so) = rose name room (suc k) i olds news rest in
    (suc j, omega (arith, at), record { old = so.old; new = so.new; stood = so.stood; stands = so.stands; rose = so.rose })
rose name room k i (old ∷ olds) (new ∷ news) (found is reads) =
    (0, omega (arith, reads.0), record { old = old; new = new; stood = refl; stands = refl; rose = reads.2 })

blames : (name : List ℕ) (room : ℕ) (olds news : List LibraryState) (r : Result (List ℕ) FetchFault) → Asks name room 0 olds news r → Blames olds news r
blames name room olds news (Ok text) h = tt
blames name room olds news (Err fault.Absent) h = tt
blames name room olds news (Err (fault.Failed i)) h = let (j, at, so) = rose name room 0 i olds news h in subst (λ n. RoseAt n olds news) (omega (arith, at)) so
blames name room olds news (Err fault.TooLong) h = tt
blames name room olds news (Err fault.NoMemory) h = tt

pub fetches : (name : List ℕ) (room : ℕ) (olds news : List LibraryState) (r : Result (List ℕ) FetchFault) → Asks name room 0 olds news r → Fetches name room olds news r
fetches name room olds news r h = record { asks = h; within = short name room 0 olds news r h; stay = all_stay name room 0 olds news r h; told = told name room 0 olds news r h; rose = blames name room olds news r h }
