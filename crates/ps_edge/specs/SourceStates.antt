-- What a source shows of itself (this project's own).
use Rattle.std.specs.Prelude.{ℕ, List, Option}

pub record SourceState : Type 0 where
  -- the bytes that are left, where it tells them
  pub left : Option (List ℕ)
  -- how many bytes it has given, and at most the last number of 64 bits
  pub given : ℕ
  -- how many faults there were
  pub faults : ℕ
