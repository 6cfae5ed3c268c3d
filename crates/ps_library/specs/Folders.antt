-- A folder of files as a library, and its counts (this project's own): it shows these and nothing of its files.
use Rattle.std.specs.Prelude.{ℕ, List, None}
use Rattle.ps_base.specs.Numbers.{more}
use Rattle.ps_library.specs.LibraryStates.{LibraryState}
use Rattle.ps_library.specs.declared.library.LibPiece.{LibPiece}
use Rattle.ps_library.specs.declared.library.LibPiece.TheVariants as piece

pub record Folder : Type 0 where
  -- its path
  pub path : List ℕ
  -- how many bytes were given, up to the last number of 64 bits
  pub given : ℕ
  -- how many calls failed, up to the last number of 64 bits
  pub faults : ℕ

-- what the folder shows of itself as a library
abbrev pub folder_shows : Folder → LibraryState
folder_shows folder = record { key = folder.path; files = None; given = folder.given; faults = folder.faults }

-- the count of bytes after a call that gave this
abbrev pub given_after : ℕ → LibPiece → ℕ
given_after given (piece.Bytes k) = more given k
given_after given p = given

-- the count of faults after a call that gave this
abbrev pub faults_after : ℕ → LibPiece → ℕ
faults_after faults piece.Failed = more faults 1
faults_after faults p = faults
