-- Readers and writers of std as sources and sinks: as these they show counts and nothing of their content (this project's own).
use Rattle.std.specs.Prelude.{ℕ, List, take, Option, None, Result, Ok, Err, nat_eq, if◌then◌else◌}
use Rattle.std.specs.Io.KnownBytes.{Appends, Consumes, Keeps, IsAtEnd}
use Rattle.ps_base.specs.Numbers.{more}
use Rattle.ps_base.specs.SinkStates.{SinkState}
use Rattle.ps_base.specs.declared.sink.SinkFault.{SinkFault}
use Rattle.ps_base.specs.declared.sink.Taken.{Taken}
use Rattle.ps_base.specs.declared.sink.Taken.TheVariants as taken
use Rattle.ps_edge.specs.SourceStates.{SourceState}
use Rattle.ps_edge.specs.Sources.{piece_of}
use Rattle.ps_edge.specs.declared.source.Piece.{Piece}
use Rattle.ps_edge.specs.declared.source.Piece.TheVariants as piece

-- a reader as a source
pub record Reading (R : Type 0) : Type 0 where
  -- the reader itself
  pub reader : R
  -- how many bytes were given, up to the last number of 64 bits
  pub given : ℕ
  -- how many calls failed, up to the last number of 64 bits
  pub faults : ℕ

-- a writer as a sink
pub record Writing (W : Type 0) : Type 0 where
  -- the writer itself
  pub writer : W
  -- how many calls failed, up to the last number of 64 bits
  pub faults : ℕ

-- what a reader shows of itself as a source
abbrev pub reading_shows : {R : Type 0} → Reading R → SourceState
reading_shows reading = record { left = None; given = reading.given; faults = reading.faults }

-- what a writer shows of itself as a sink
abbrev pub writing_shows : {W : Type 0} → Writing W → SinkState
writing_shows writing = record { bytes = None; number = None; faults = writing.faults; held = 0 }

-- what it means that a reader answers this: 0 bytes are the end
abbrev pub piece_read : {E : Type 0} → Result ℕ E → Piece
piece_read (Ok k) = piece_of k
piece_read (Err e) = piece.Failed

-- what it means that a writer answers this: to take 0 bytes is a fault
abbrev pub bytes_taken : {E : Type 0} → Result ℕ E → Taken
bytes_taken (Ok k) = if nat_eq k 0 then taken.Failed else taken.Bytes k
bytes_taken (Err e) = taken.Failed

-- where a reader tells the bytes that it has left: they begin with those that were given, and at the end there are none
abbrev pub ReadsOn : Option (List ℕ) → Option (List ℕ) → List ℕ → Piece → Type 0
ReadsOn old new into (piece.Bytes k) = Consumes old new (take k into)
ReadsOn old new into piece.End = IsAtEnd old × Keeps old new
ReadsOn old new into piece.Failed = Keeps old new

-- where a writer tells the bytes that it holds: those that were taken are appended
abbrev pub WritesOn : Option (List ℕ) → Option (List ℕ) → List ℕ → Taken → Type 0
WritesOn old new bytes (taken.Bytes k) = Appends old new (take k bytes)
WritesOn old new bytes taken.Failed = Keeps old new

-- the count of bytes after a call that gave this
abbrev pub given_after : ℕ → Piece → ℕ
given_after given (piece.Bytes k) = more given k
given_after given piece.End = given
given_after given piece.Failed = given

-- the count of faults after a call that gave this
abbrev pub read_faults_after : ℕ → Piece → ℕ
read_faults_after faults (piece.Bytes k) = faults
read_faults_after faults piece.End = faults
read_faults_after faults piece.Failed = more faults 1

-- the count of faults after a flush that came to this
abbrev pub flush_faults_after : ℕ → Result (Unit {0}) SinkFault → ℕ
flush_faults_after faults (Ok done) = faults
flush_faults_after faults (Err fault) = more faults 1

-- the count of faults after a call that took this
abbrev pub write_faults_after : ℕ → Taken → ℕ
write_faults_after faults (taken.Bytes k) = faults
write_faults_after faults taken.Failed = more faults 1
