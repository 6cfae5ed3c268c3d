-- A sink that gathers bytes before it hands them on to the sink behind it (this project's own).
use Rattle.std.specs.Prelude.{◌≡◌, ℕ, ◌+◌, List, [], ◌++◌, length, Result, Ok, Err}
use Rattle.std.specs.Option.{option_map}
use Rattle.ps_base.specs.Numbers.{more, Rose}
use Rattle.ps_base.specs.SinkStates.{SinkState}
use Rattle.ps_base.specs.Sinks.{Appended}
use Rattle.ps_base.specs.declared.sink.SinkFault.{SinkFault}

-- how many bytes it holds at most
abbrev pub room : ℕ
room = 65536

pub record Gathering (O : Type 0) : Type 0 where
  -- the sink behind it
  pub sink : O
  -- the bytes that it has taken and not handed on
  pub held : List ℕ
  -- how many more it can take before it has to hand on what it holds
  pub free : ℕ

-- what such a sink shows of itself, where the sink behind it shows s: it has taken what that one has, and then what it holds
abbrev pub with_held : SinkState → List ℕ → SinkState
with_held s held = record {
  bytes = option_map (λ bytes. bytes ++ held) s.bytes;
  number = option_map (λ n. more n (length held)) s.number;
  faults = s.faults;
  held = s.held + length held;
}

abbrev pub gathering_shows : {O : Type 0} → (O → SinkState) → Gathering O → SinkState
gathering_shows shows g = with_held (shows g.sink) g.held

-- a front of what was held was handed on, and the rest is still held
pub record Hands (s t : SinkState) (held rest : List ℕ) : Type 0 where
  pub front : List ℕ
  pub parts : held ≡ front ++ rest
  pub appended : Appended s t front

-- all that was held was handed on, or a fault came before the end
abbrev pub HandsOn : SinkState → SinkState → List ℕ → List ℕ → Result (Unit {0}) SinkFault → Type 0
HandsOn s t held rest (Ok done) = Hands s t held rest × (rest ≡ [])
HandsOn s t held rest (Err fault) = Hands s t held rest × Rose s.faults t.faults
