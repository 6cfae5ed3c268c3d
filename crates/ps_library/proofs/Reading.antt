-- One piece of a file is read after another.
-- For: read_file
use Rattle.std.proofs.Common.{◌≡◌, ℕ, ◌+◌, ◌<◌, ◌≤◌, List, [], ◌∷◌, ◌++◌, length, take, drop, Option, Some, None, IfSome, Result, Ok, Err, refl, sym, ap, ◌∙◌, subst, append_assoc, arith, length-append, length-take-le, append-nil}
use Rattle.std.proofs.Math.Seq.{drop-append_seam}
use Rattle.std.specs.Result.{IsErrAnd}
use Rattle.ps_base.specs.Numbers.{more}
use Rattle.ps_library.specs.LibraryStates.{LibraryState, Files}
use Rattle.ps_library.specs.Libraries.{Gave, Told, Stands, Ends}
use Rattle.ps_library.specs.Fetching.{ReadsFile, IsLonger}
use Rattle.ps_library.specs.declared.fetching.FetchFault.{FetchFault}
use Rattle.ps_library.specs.declared.fetching.FetchFault.TheVariants as fault

-- ---- what is given

pub gave_nothing : (s : LibraryState) → Gave s s 0
gave_nothing s = record { key = refl; files = refl; given = omega arith; faults = omega arith }

given_join : (n a b c : ℕ) → c ≡ a + b → more (more n a) b ≡ more n c
given_join n a b c e = omega arith

pub gave_join : (s t u : LibraryState) (a b c : ℕ) → c ≡ a + b → Gave s t a → Gave t u b → Gave s u c
gave_join s t u a b c e h k = record {
  key = k.key ∙ h.key;
  files = k.files ∙ h.files;
  given = k.given ∙ ap (λ n. more n b) h.given ∙ given_join s.given a b c e;
  faults = let x = h.faults in let y = k.faults in omega arith;
}

-- ---- what is told

some_map : (P Q : Option (List ℕ) → Type 0) (files : Option Files) (name : List ℕ) → ((file : Option (List ℕ)) → P file → Q file) → IfSome files (λ f. P (f name)) → IfSome files (λ f. Q (f name))
some_map P Q None name so h = tt
some_map P Q (Some f) name so h = so (f name) h

some_both : (P Q : Option (List ℕ) → Type 0) (files : Option Files) (name : List ℕ) → IfSome files (λ f. P (f name)) → IfSome files (λ f. Q (f name)) → IfSome files (λ f. P (f name) × Q (f name))
some_both P Q None name h k = tt
some_both P Q (Some f) name h k = (h, k)

pub told_map : (P Q : Option (List ℕ) → Type 0) (s : LibraryState) (name : List ℕ) → ((file : Option (List ℕ)) → P file → Q file) → Told s name P → Told s name Q
told_map P Q s name so h = record { holds = some_map P Q s.files name so h.holds }

pub told_both : (P Q : Option (List ℕ) → Type 0) (s : LibraryState) (name : List ℕ) → Told s name P → Told s name Q → Told s name (λ file. P file × Q file)
told_both P Q s name h k = record { holds = some_both P Q s.files name h.holds k.holds }

-- what a later state tells, since the files stay
pub told_before : (P : Option (List ℕ) → Type 0) (s t : LibraryState) (name : List ℕ) (k : ℕ) → Gave s t k → Told t name P → Told s name P
told_before P s t name k gave h = record { holds = subst (λ files. IfSome files (λ f. P (f name))) gave.files h.holds }

-- ---- what the pieces are

same : {A : Type 0} (x y : A) → Some x ≡ Some y → x ≡ y
same x y e = cc

-- the text so far is the front of the file, once there is a text
pub data IsFront : List ℕ → Option (List ℕ) → Type 0 where
  nothing : {file : Option (List ℕ)} → IsFront [] file
  front : {file : Option (List ℕ)} {text : List ℕ} → Stands file 0 text → IsFront text file

front_join : (a b : List ℕ) (file : Option (List ℕ)) → IsFront a file × Stands file (length a) b → IsFront (a ++ b) file
front_join [] b file (nothing, k) = front k
front_join a b file (front h, k) =
    let one : k.text ≡ h.text = same k.text h.text (sym k.is ∙ h.is) in
    let rest : h.rest ≡ b ++ k.rest = sym (drop-append_seam a h.rest) ∙ ap (drop (length a)) (sym h.parts) ∙ ap (drop (length a)) (sym one) ∙ k.parts in
    front (record { text = h.text; is = h.is; rest = k.rest; parts = h.parts ∙ ap (λ r. a ++ r) rest ∙ sym (append_assoc a b k.rest) })

front_longer : (room : ℕ) (text : List ℕ) (file : Option (List ℕ)) → room < length text → IsFront text file → IsLonger room file
front_longer room [] file long nothing = absurd (omega arith)
front_longer room text file long (front h) = record { text = h.text; is = h.is; longer = omega (arith, ap length h.parts, length-append text h.rest) }

none_left : (a b : List ℕ) → length (a ++ b) ≤ length a → b ≡ []
none_left a [] h = refl
none_left a (x ∷ b) h = absurd (omega (arith, length-append a (x ∷ b)))

no_items : (a : List ℕ) → length a ≤ 0 → a ≡ []
no_items [] h = refl
no_items (x ∷ a) h = absurd (omega arith)

-- the text so far is the file, where the file ends there
front_whole : (text : List ℕ) (file : Option (List ℕ)) → IsFront text file × Ends file (length text) → file ≡ Some text
front_whole [] file (nothing, k) = k.is ∙ ap (λ (t : List ℕ). Some t) (no_items k.text k.within)
front_whole text file (front h, k) =
    let one : k.text ≡ h.text = same k.text h.text (sym k.is ∙ h.is) in
    let whole : h.text ≡ text ++ h.rest = h.parts in
    let short : length (text ++ h.rest) ≤ length text = omega (arith, k.within, ap length one, ap length whole) in
    h.is ∙ ap (λ (t : List ℕ). Some t) (whole ∙ ap (λ r. text ++ r) (none_left text h.rest short) ∙ append-nil text)

-- a file of which there is a text is not absent
front_there : (text : List ℕ) (file : Option (List ℕ)) → 0 < length text → IsFront text file × (file ≡ None) → file ≡ Some text
front_there [] file long (nothing, k) = absurd (omega arith)
front_there text file long (front h, k) = let e : Some h.text ≡ None = sym h.is ∙ k in absurd (cc)

-- ---- the loop

-- what is so while a file is read
pub record ReadingSo (name : List ℕ) (room : ℕ) (old now : LibraryState) (text : List ℕ) : Type 0 where
  pub within : length text ≤ room
  pub gave : Gave old now (length text)
  pub told : Told old name (IsFront text)

nothing_told : (files : Option Files) (name : List ℕ) → IfSome files (λ f. IsFront [] (f name))
nothing_told None name = tt
nothing_told (Some f) name = nothing

pub reading_starts : (name : List ℕ) (room : ℕ) (s : LibraryState) (text : List ℕ) → text ≡ [] → ReadingSo name room s s text
reading_starts name room s text e = subst (ReadingSo name room s s) (sym e) (record { within = omega arith; gave = gave_nothing s; told = record { holds = nothing_told s.files name } })

-- want of memory after these bytes were taken
no_memory : (name : List ℕ) (room number : ℕ) (s t : LibraryState) (taken : ℕ) (r : Result (List ℕ) FetchFault) → IsErrAnd r (λ e. e ≡ fault.NoMemory) → taken ≤ room → Gave s t taken → ReadsFile name room number s t r
no_memory name room number s t taken (Ok text) e within gave = absurd e
no_memory name room number s t taken (Err fault.Absent) e within gave = let x : fault.Absent ≡ fault.NoMemory = e in absurd (cc)
no_memory name room number s t taken (Err (fault.Failed i)) e within gave = let x : fault.Failed i ≡ fault.NoMemory = e in absurd (cc)
no_memory name room number s t taken (Err fault.TooLong) e within gave = let x : fault.TooLong ≡ fault.NoMemory = e in absurd (cc)
no_memory name room number s t taken (Err fault.NoMemory) e within gave = (taken, within, gave)

module _ (name : List ℕ) (room : ℕ) (s t u : LibraryState) (text : List ℕ) (from : ℕ) (at : from ≡ length text) (so : ReadingSo name room s t text) where
  -- a piece more was read
  module _ (k : ℕ) (into : List ℕ) (within : k ≤ length into) (gave : Gave t u k) (told-at : Told t name (λ file. Stands file from (take k into))) where
    told : Told t name (λ file. Stands file (length text) (take k into))
    told = subst (λ n. Told t name (λ file. Stands file n (take k into))) at told-at

    count : length (text ++ take k into) ≡ length text + k
    count = omega (arith, length-append text (take k into), length-take-le k into within)

    pub more_gave : Gave s u (length (text ++ take k into))
    more_gave = gave_join s t u (length text) k _ count so.gave gave

    more_told : Told s name (IsFront (text ++ take k into))
    more_told = told_map _ _ s name (front_join text (take k into)) (told_both (IsFront text) _ s name so.told (told_before _ s t name _ so.gave told))

    pub reading_goes_on : length text + k ≤ room → ReadingSo name room s u (text ++ take k into)
    reading_goes_on short = record { within = omega (arith, count); gave = more_gave; told = more_told }

    pub too_long : room < length text + k → ((taken : ℕ) × (room < taken) × Gave s u taken) × Told s name (IsLonger room)
    too_long long =
        let longer : room < length (text ++ take k into) = omega (arith, count) in
        ((length (text ++ take k into), longer, more_gave), told_map _ _ s name (λ file. front_longer room _ file longer) more_told)

    pub memory_ran_out : length text + k ≤ room → (number : ℕ) (r : Result (List ℕ) FetchFault) → IsErrAnd r (λ e. e ≡ fault.NoMemory) → ReadsFile name room number s u r
    memory_ran_out short number r e = no_memory name room number s u _ r e (omega (arith, count)) more_gave

  -- the file ended
  pub whole : Gave t u 0 → Told t name (λ file. Ends file from) → (length text ≤ room) × Gave s u (length text) × Told s name (λ file. file ≡ Some text)
  whole gave told = (so.within, gave_join s t u (length text) 0 _ (omega arith) so.gave gave, told_map _ _ s name (front_whole text) (told_both (IsFront text) _ s name so.told (told_before _ s t name _ so.gave (subst (λ n. Told t name (λ file. Ends file n)) at told))))

  -- the file went away
  pub gone : 0 < length text → Gave t u 0 → Told t name (λ file. file ≡ None) → (length text ≤ room) × Gave s u (length text) × Told s name (λ file. file ≡ Some text)
  gone long gave told = (so.within, gave_join s t u (length text) 0 _ (omega arith) so.gave gave, told_map _ _ s name (λ file. front_there text file long) (told_both (IsFront text) _ s name so.told (told_before _ s t name _ so.gave told)))
