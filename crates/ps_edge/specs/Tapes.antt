-- A source that gives bytes of its own, and each of its calls (this project's own).
use Rattle.std.specs.Prelude.{ℕ, List, length, drop, min, Some, if◌then◌else◌}
use Rattle.ps_base.specs.Logs.{is_listed}
use Rattle.ps_base.specs.Numbers.{more}
use Rattle.ps_edge.specs.SourceStates.{SourceState}
use Rattle.ps_edge.specs.Sources.{piece_of}
use Rattle.ps_edge.specs.declared.source.Piece.{Piece}
use Rattle.ps_edge.specs.declared.source.Piece.TheVariants as piece

pub record Tape : Type 0 where
  -- the bytes that are left
  pub left : List ℕ
  -- the most bytes that a call gives
  pub step : ℕ
  -- the numbers of the calls that fail, counted from 0
  pub failing : List ℕ
  -- how many calls there were, up to the last number of 64 bits
  pub calls : ℕ
  -- how many bytes were given, up to the last number of 64 bits
  pub given : ℕ
  -- how many calls failed, up to the last number of 64 bits
  pub faults : ℕ

-- what the source shows of itself
abbrev pub tape_shows : Tape → SourceState
tape_shows tape = record { left = Some tape.left; given = tape.given; faults = tape.faults }

-- what the next call gives, where it may give up to `size` bytes
abbrev pub next_piece : Tape → ℕ → Piece
next_piece tape size = if is_listed tape.calls tape.failing then piece.Failed else piece_of (min (min tape.step size) (length tape.left))

-- what the source is after a call that gave this
abbrev pub tape_after : Tape → Piece → Tape
tape_after tape (piece.Bytes k) = record tape { left = drop k tape.left; calls = more tape.calls 1; given = more tape.given k }
tape_after tape piece.End = record tape { calls = more tape.calls 1 }
tape_after tape piece.Failed = record tape { calls = more tape.calls 1; faults = more tape.faults 1 }
