-- What the functions that take forms apart answer: what the shapes say, or that memory ran out (private to them).
use Rattle.std.specs.Prelude.{◌≡◌, ℕ, List, ◌++◌, map, drop, Result, Ok, Err}
use Rattle.ps_datum.specs.declared.datum.Datum.{Datum}
use Rattle.ps_modules.specs.declared.shapes.Broken.{Broken}
use Rattle.ps_modules.specs.declared.shapes.Broken.TheVariants as broken
use Rattle.ps_modules.specs.Shapes.{Shaped, shaped_then, each, gathered}

abbrev pub Says : {A : Type 0} → Shaped A → Result A Broken → Type 0
Says want (Ok a) = want ≡ Ok a
Says want (Err (broken.At place)) = want ≡ Err place
Says want (Err broken.NoMemory) = Unit {0}

-- what is wanted is put onto what is there, which is `after` behind it
abbrev pub Adds : {A B : Type 0} → (A → B) → Shaped A → B → Result (Unit {0}) Broken → Type 0
Adds onto want after (Ok u) = shaped_then want (λ more. Ok (onto more)) ≡ Ok after
Adds onto want after (Err (broken.At place)) = want ≡ Err place
Adds onto want after (Err broken.NoMemory) = Unit {0}

-- each of these data, behind what is there
abbrev pub put : {A B : Type 0} → List B → (A → B) → (Datum → Shaped A) → List Datum → Shaped (List B)
put before f read ds = shaped_then (each read ds) (λ more. Ok (before ++ map f more))

-- the first i data were put behind what was there
pub record PutSo {A B : Type 0} (f : A → B) (read : Datum → Shaped A) (ds : List Datum) (before after : List B) (i : ℕ) : Type 0 where
  pub is : put before f read ds ≡ put after f read (drop i ds)

-- the first i data were joined to what was there
pub record JoinedSo {A : Type 0} (none : A) (join : A → A → A) (read : Datum → Shaped A) (ds : List Datum) (before after : A) (i : ℕ) : Type 0 where
  pub is : shaped_then (gathered none join read ds) (λ more. Ok (join before more))
      ≡ shaped_then (gathered none join read (drop i ds)) (λ more. Ok (join after more))
