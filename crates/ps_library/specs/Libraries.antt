-- What one call does to a library (this project's own). Read `Answers old new name from into piece` as: a library that shows old, asked
-- for the file of this name from this position on, gives the piece, and then shows new; into is what was filled.
use Rattle.std.specs.Prelude.{◌≡◌, ℕ, ◌<◌, ◌≤◌, List, ◌++◌, length, take, drop, Option, Some, None, IfSome}
use Rattle.ps_base.specs.Numbers.{more, Rose}
use Rattle.ps_library.specs.LibraryStates.{LibraryState}
use Rattle.ps_library.specs.declared.library.LibPiece.{LibPiece}
use Rattle.ps_library.specs.declared.library.LibPiece.TheVariants as piece

-- so many bytes were given, the key and the files stayed, and the count of faults did not fall
pub record Gave (old new : LibraryState) (number : ℕ) : Type 0 where
  pub key : new.key ≡ old.key
  pub files : new.files ≡ old.files
  pub given : new.given ≡ more old.given number
  pub faults : old.faults ≤ new.faults

-- the file is there, and at this position it goes on with these bytes
pub record Stands (file : Option (List ℕ)) (from : ℕ) (bytes : List ℕ) : Type 0 where
  pub text : List ℕ
  pub is : file ≡ Some text
  pub rest : List ℕ
  pub parts : drop from text ≡ bytes ++ rest

-- the file is there, and has no byte from this position on
pub record Ends (file : Option (List ℕ)) (from : ℕ) : Type 0 where
  pub text : List ℕ
  pub is : file ≡ Some text
  pub within : length text ≤ from

-- where the library tells its files, this holds of the one with this name
pub record Told (state : LibraryState) (name : List ℕ) (P : Option (List ℕ) → Type 0) : Type 0 where
  pub holds : IfSome state.files (λ files. P (files name))

-- what one call does: the bytes that it gives stand at the front of what it wrote into
abbrev pub Answers : LibraryState → LibraryState → List ℕ → ℕ → List ℕ → LibPiece → Type 0
Answers old new name from into (piece.Bytes k) = (0 < k) × (k ≤ length into) × Gave old new k × Told old name (λ file. Stands file from (take k into))
Answers old new name from into piece.End = Gave old new 0 × Told old name (λ file. Ends file from)
Answers old new name from into piece.Absent = Gave old new 0 × Told old name (λ file. file ≡ None)
Answers old new name from into piece.Failed = Gave old new 0 × Rose old.faults new.faults
Answers old new name from into piece.NoMemory = Gave old new 0 × (new.faults ≡ old.faults)
