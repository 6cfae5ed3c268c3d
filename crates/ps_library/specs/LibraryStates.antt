-- What a library shows of itself (this project's own): its files, where it tells them, and two counts.
use Rattle.std.specs.Prelude.{ℕ, List, Option}

-- files by their names: the bytes of each, and none where there is no file
abbrev pub Files : Type 0
Files = List ℕ → Option (List ℕ)

pub record LibraryState : Type 0 where
  -- what it is told from others by, which no call changes
  pub key : List ℕ
  -- its files, where it tells them
  pub files : Option Files
  -- how many bytes it has given, and at most the last number of 64 bits
  pub given : ℕ
  -- how many faults there were
  pub faults : ℕ
