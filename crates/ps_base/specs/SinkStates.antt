-- What a sink shows of itself (this project's own).
use Rattle.std.specs.Prelude.{◌≡◌, ℕ, List, length, Option, Some, None}
use Rattle.ps_base.specs.Numbers.{more}

pub record SinkState : Type 0 where
  -- the bytes that it has taken, where it tells them
  pub bytes : Option (List ℕ)
  -- how many bytes it has taken, where it tells that, and at most the last number of 64 bits
  pub number : Option ℕ
  -- how many faults there were
  pub faults : ℕ
  -- how many of the bytes that it has taken it holds back
  pub held : ℕ

-- a sink that tells its bytes tells their number
abbrev pub TellsNumber : Option (List ℕ) → Option ℕ → Type 0
TellsNumber None number = Unit {0}
TellsNumber (Some bytes) number = number ≡ Some (more 0 (length bytes))
