-- What fetching a file answers, and what it does to the libraries of the search path (this project's own).
-- Read `Fetches name room olds news result` as: where libraries that show olds are asked for the file of this name, and at most room
-- bytes of it are wanted, they show news behind it and the answer is result.
use Rattle.std.specs.Prelude.{◌≡◌, ◌≢◌, ℕ, suc, ◌<◌, ◌≤◌, List, [], ◌∷◌, length, slice_get, Option, Some, None, IfSome, IfOk, Result, Ok, Err}
use Rattle.std.specs.Option.{option_map, option_and_then}
use Rattle.ps_base.specs.Numbers.{Rose}
use Rattle.ps_library.specs.LibraryStates.{LibraryState, Files}
use Rattle.ps_library.specs.Libraries.{Gave, Told}
use Rattle.ps_library.specs.declared.fetching.FetchFault.{FetchFault}
use Rattle.ps_library.specs.declared.fetching.FetchFault.TheVariants as fault

-- ---- one library after another

-- the file is there, and longer than the room
pub record IsLonger (room : ℕ) (file : Option (List ℕ)) : Type 0 where
  pub text : List ℕ
  pub is : file ≡ Some text
  pub longer : room < length text

-- What reading one file of the library with this number does. In each case it is said how many bytes were taken of the file:
-- more than the room exactly where it is too long.
abbrev pub ReadsFile : List ℕ → ℕ → ℕ → LibraryState → LibraryState → Result (List ℕ) FetchFault → Type 0
ReadsFile name room number old new (Ok text) = (length text ≤ room) × Gave old new (length text) × Told old name (λ file. file ≡ Some text)
ReadsFile name room number old new (Err fault.Absent) = Gave old new 0 × Told old name (λ file. file ≡ None)
ReadsFile name room number old new (Err (fault.Failed i)) = (i ≡ number) × ((taken : ℕ) × (taken ≤ room) × Gave old new taken) × Rose old.faults new.faults
ReadsFile name room number old new (Err fault.TooLong) = ((taken : ℕ) × (room < taken) × Gave old new taken) × Told old name (IsLonger room)
ReadsFile name room number old new (Err fault.NoMemory) = (taken : ℕ) × (taken ≤ room) × Gave old new taken

-- The libraries are asked from the first, numbered from k: each that lacks the file is passed, and the first that does not
-- say so gives the answer. Those behind it are not asked.
pub data Asks (name : List ℕ) (room : ℕ) : ℕ → List LibraryState → List LibraryState → Result (List ℕ) FetchFault → Type 0 where
  none : {k : ℕ} → Asks name room k [] [] (Err fault.Absent)
  passed : {k : ℕ} {old new : LibraryState} {olds news : List LibraryState} {r : Result (List ℕ) FetchFault}
      → ReadsFile name room k old new (Err fault.Absent) → Asks name room (suc k) olds news r → Asks name room k (old ∷ olds) (new ∷ news) r
  found : {k : ℕ} {old new : LibraryState} {olds : List LibraryState} {r : Result (List ℕ) FetchFault}
      → r ≢ Err fault.Absent → ReadsFile name room k old new r → Asks name room k (old ∷ olds) (new ∷ olds) r

-- ---- what follows of the answer

-- the files of two libraries, of which the first counts where both have one
abbrev pub or_else : Option (List ℕ) → Option (List ℕ) → Option (List ℕ)
or_else None rest = rest
or_else (Some text) rest = Some text

abbrev pub before : Files → Files → Files
before first rest name = or_else (first name) (rest name)

-- the files of the search path, where every library tells its own
abbrev pub search_path : List LibraryState → Option Files
search_path [] = Some (λ name. None)
search_path (s ∷ states) = option_and_then (λ first. option_map (before first) (search_path states)) s.files

-- what an answer says of the file
abbrev pub Fits : ℕ → Option (List ℕ) → Result (List ℕ) FetchFault → Type 0
Fits room file (Ok text) = (file ≡ Some text) × (length text ≤ room)
Fits room file (Err fault.Absent) = file ≡ None
Fits room file (Err (fault.Failed i)) = Unit {0}
Fits room file (Err fault.TooLong) = IsLonger room file
Fits room file (Err fault.NoMemory) = Unit {0}

-- the library stays: it has its key and its files still, and its counts did not fall
pub record Stays (old new : LibraryState) : Type 0 where
  pub key : new.key ≡ old.key
  pub files : new.files ≡ old.files
  pub given : old.given ≤ new.given
  pub faults : old.faults ≤ new.faults

-- the libraries stay, each in its place
abbrev pub AllStay : List LibraryState → List LibraryState → Type 0
AllStay [] [] = Unit {0}
AllStay (old ∷ olds) (new ∷ news) = Stays old new × AllStay olds news
AllStay _ _ = ⊥

-- the count of faults of the library with this number rose
pub record RoseAt (number : ℕ) (olds news : List LibraryState) : Type 0 where
  pub old : LibraryState
  pub new : LibraryState
  pub stood : slice_get olds number ≡ Some old
  pub stands : slice_get news number ≡ Some new
  pub rose : Rose old.faults new.faults

-- the library that is blamed failed
abbrev pub Blames : List LibraryState → List LibraryState → Result (List ℕ) FetchFault → Type 0
Blames olds news (Err (fault.Failed i)) = RoseAt i olds news
Blames olds news _ = Unit {0}

-- what fetching does
pub record Fetches (name : List ℕ) (room : ℕ) (olds news : List LibraryState) (result : Result (List ℕ) FetchFault) : Type 0 where
  -- who was asked, who gave the answer, and how many bytes were taken of the file
  pub asks : Asks name room 0 olds news result
  -- a file that is answered has room
  pub within : IfOk result (λ text. length text ≤ room)
  -- the libraries are there still, in the same order and with the same files
  pub stay : AllStay olds news
  -- where every library tells its files, the answer is about the file of the first that has one of that name
  pub told : IfSome (search_path olds) (λ files. Fits room (files name) result)
  -- the library that is blamed failed
  pub rose : Blames olds news result
