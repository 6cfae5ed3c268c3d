-- What the answers of the runtime to reading mean for a folder of files (private to the folder).
use Rattle.std.specs.Prelude.{◌≡◌, ℕ, ◌<◌, Result, Ok, Err}
use Rattle.std.specs.IoError.{error_kind}
use Rattle.std.specs.declared.io.Error.{Error}
use Rattle.std.specs.declared.io.ErrorKind.TheVariants as kinds
use Rattle.ps_library.specs.declared.library.LibPiece.{LibPiece}
use Rattle.ps_library.specs.declared.library.LibPiece.TheVariants as piece

-- 0 bytes are the end, and an error gives no bytes: a file that is not found is absent, and memory that runs out is no fault
abbrev pub Means : Result ℕ Error → LibPiece → Type 0
Means (Ok k) (piece.Bytes n) = (0 < k) × (n ≡ k)
Means (Ok k) p = (k ≡ 0) × (p ≡ piece.End)
Means (Err e) (piece.Bytes n) = ⊥
Means (Err e) piece.End = ⊥
Means (Err e) piece.Absent = error_kind e ≡ kinds.NotFound
Means (Err e) piece.NoMemory = error_kind e ≡ kinds.OutOfMemory
Means (Err e) piece.Failed = Unit {0}
