-- What reading does to a source (this project's own).
use Rattle.std.specs.Prelude.{◌≡◌, ℕ, ◌<◌, ◌≤◌, List, [], ◌++◌, length, take, IfSome, Result, Ok, Err, nat_eq, if◌then◌else◌}
use Rattle.std.specs.Option.{option_map}
use Rattle.ps_base.specs.Numbers.{more, Rose}
use Rattle.ps_edge.specs.SourceStates.{SourceState}
use Rattle.ps_edge.specs.declared.source.Piece.{Piece}
use Rattle.ps_edge.specs.declared.source.Piece.TheVariants as piece
use Rattle.ps_edge.specs.declared.source.TextFault.{TextFault}
use Rattle.ps_edge.specs.declared.source.TextFault.TheVariants as fault

-- the bytes were taken from the front of what was left, they were counted, and the count of faults did not fall
pub record Taking (old new : SourceState) (bytes : List ℕ) : Type 0 where
  pub left : old.left ≡ option_map (λ rest. bytes ++ rest) new.left
  pub given : new.given ≡ more old.given (length bytes)
  pub faults : old.faults ≤ new.faults

-- where the source tells what is left, that is nothing
abbrev pub IsSpent : SourceState → Type 0
IsSpent state = IfSome state.left (λ rest. rest ≡ [])

-- so many bytes, or the end
abbrev pub piece_of : ℕ → Piece
piece_of k = if nat_eq k 0 then piece.End else piece.Bytes k

-- what one call of a source does: the bytes that it gives stand at the front of what it wrote into
abbrev pub Gives : SourceState → SourceState → List ℕ → Piece → Type 0
Gives old new into (piece.Bytes k) = (0 < k) × (k ≤ length into) × Taking old new (take k into)
Gives old new into piece.End = IsSpent old × Taking old new []
Gives old new into piece.Failed = Taking old new [] × Rose old.faults new.faults

-- what reading a text to its end does: the text is all that was left, or some bytes were taken before the fault
abbrev pub ReadsText : SourceState → SourceState → ℕ → Result (List ℕ) TextFault → Type 0
ReadsText old new limit (Ok text) = Taking old new text × IsSpent new × (length text ≤ limit)
ReadsText old new limit (Err fault.Failed) = (bytes : List ℕ) × Taking old new bytes × (length bytes ≤ limit) × Rose old.faults new.faults
ReadsText old new limit (Err fault.TooLong) = (bytes : List ℕ) × Taking old new bytes × (limit < length bytes)
ReadsText old new limit (Err fault.NoMemory) = (bytes : List ℕ) × Taking old new bytes × (length bytes ≤ limit)
