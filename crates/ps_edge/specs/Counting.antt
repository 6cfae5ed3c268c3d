-- A sink that only counts the bytes that it takes (this project's own).
use Rattle.std.specs.Prelude.{ℕ, None, Some}
use Rattle.ps_base.specs.SinkStates.{SinkState}

-- what the sink shows of itself: it never fails, and holds nothing back
abbrev pub counting_shows : ℕ → SinkState
counting_shows taken = record { bytes = None; number = Some taken; faults = 0; held = 0 }
