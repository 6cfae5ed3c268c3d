-- A sink that keeps the bytes that it takes, and each of its calls (this project's own).
use Rattle.std.specs.Prelude.{ℕ, ◌-◌, List, ◌++◌, length, take, min, Bool, Some, nat_eq, ◌||◌, if◌then◌else◌}
use Rattle.std.specs.List.{list_any}
use Rattle.ps_base.specs.Numbers.{more}
use Rattle.ps_base.specs.SinkStates.{SinkState}
use Rattle.ps_base.specs.declared.sink.Taken.{Taken}
use Rattle.ps_base.specs.declared.sink.Taken.TheVariants as taken

-- the call with this number is to fail
abbrev pub is_listed : ℕ → List ℕ → Bool
is_listed call failing = list_any (λ n. nat_eq n call) failing

pub record Log : Type 0 where
  -- the bytes that were taken
  pub taken : List ℕ
  -- the most bytes that it takes in all
  pub room : ℕ
  -- the most bytes that a call takes
  pub step : ℕ
  -- the numbers of the calls that fail, counted from 0
  pub failing : List ℕ
  -- how many calls there were, up to the last number of 64 bits
  pub calls : ℕ
  -- how many calls failed, up to the last number of 64 bits
  pub faults : ℕ

-- what the sink shows of itself
abbrev pub log_shows : Log → SinkState
log_shows log = record { bytes = Some log.taken; number = Some (more 0 (length log.taken)); faults = log.faults; held = 0 }

-- how many bytes more it takes
abbrev pub room_left : Log → ℕ
room_left log = log.room - length log.taken

-- what the next call takes of a piece of `size` bytes
abbrev pub next_taken : Log → ℕ → Taken
next_taken log size = if nat_eq (room_left log) 0 || is_listed log.calls log.failing then taken.Failed else taken.Bytes (min (min log.step size) (room_left log))

-- what the sink is after a call with the piece that took this
abbrev pub log_after : Log → List ℕ → Taken → Log
log_after log bytes (taken.Bytes k) = record log { taken = log.taken ++ take k bytes; calls = more log.calls 1 }
log_after log bytes taken.Failed = record log { calls = more log.calls 1; faults = more log.faults 1 }
