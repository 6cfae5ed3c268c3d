-- What writing does to a sink (this project's own).
use Rattle.std.specs.Prelude.{◌≡◌, ℕ, ◌<◌, ◌≤◌, List, [], ◌++◌, length, take, Result, Ok, Err}
use Rattle.std.specs.Option.{option_map}
use Rattle.ps_base.specs.Numbers.{more, Rose}
use Rattle.ps_base.specs.SinkStates.{SinkState}
use Rattle.ps_base.specs.declared.sink.Taken.{Taken}
use Rattle.ps_base.specs.declared.sink.Taken.TheVariants as taken
use Rattle.ps_base.specs.declared.sink.SinkFault.{SinkFault}

-- the text was appended to what the sink has taken, and its count of faults did not fall
pub record Appended (old new : SinkState) (text : List ℕ) : Type 0 where
  pub bytes : new.bytes ≡ option_map (λ bytes. bytes ++ text) old.bytes
  pub number : new.number ≡ option_map (λ n. more n (length text)) old.number
  pub faults : old.faults ≤ new.faults

-- a front of the text was appended, and then a fault came
pub record Cut (old new : SinkState) (text : List ℕ) : Type 0 where
  pub front : List ℕ
  pub rest : List ℕ
  pub parts : text ≡ front ++ rest
  pub appended : Appended old new front
  pub rose : Rose old.faults new.faults

-- what one call of a sink does with a piece
abbrev pub Takes : SinkState → SinkState → List ℕ → Taken → Type 0
Takes old new piece (taken.Bytes k) = (0 < k) × (k ≤ length piece) × Appended old new (take k piece)
Takes old new piece taken.Failed = Appended old new [] × Rose old.faults new.faults

-- all of the text was appended, or a front of it and then a fault came
abbrev pub Writes : SinkState → SinkState → List ℕ → Result (Unit {0}) SinkFault → Type 0
Writes old new text (Ok done) = Appended old new text
Writes old new text (Err fault) = Cut old new text

-- nothing more was taken; nothing is held back any longer, or a fault came
abbrev pub Flushes : SinkState → SinkState → Result (Unit {0}) SinkFault → Type 0
Flushes old new (Ok done) = Appended old new [] × (new.held ≡ 0)
Flushes old new (Err fault) = Appended old new [] × Rose old.faults new.faults

-- Where texts are written one after another and the first fault ends that: from one state and result to the next, the text was added.
pub record Adds (old : SinkState) (before : Result (Unit {0}) SinkFault) (new : SinkState) (after : Result (Unit {0}) SinkFault) (text : List ℕ) : Type 0 where
  pub holds : (start : SinkState) (front : List ℕ) → Writes start old front before → Writes start new (front ++ text) after
