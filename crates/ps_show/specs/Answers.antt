-- What `show` answers of a text (this project's own).
use Rattle.std.specs.Prelude.{◌≡◌, ℕ, ◌<◌, ◌≤◌, List, length, Result, Ok, Err}
use Rattle.ps_show.specs.declared.page.ShowFault.{ShowFault}
use Rattle.ps_show.specs.declared.page.ShowFault.TheVariants as faults
use Rattle.ps_show.specs.Shown.{Shown, Text, Deep}

-- the most bytes that a text has
abbrev pub most_bytes : ℕ
most_bytes = 4194304

-- the text, where it is neither too deep nor too long, the place of the first bracket that is too deep, or else that it is too
-- long; want of memory is free
abbrev pub Answers : Shown → Result (List ℕ) ShowFault → Type 0
Answers (Text t) (Ok bytes) = (bytes ≡ t) × (length t ≤ most_bytes)
Answers (Text t) (Err (faults.Deep p)) = ⊥
Answers (Text t) (Err faults.Long) = most_bytes < length t
Answers (Text t) (Err faults.NoMemory) = Unit {0}
Answers (Deep at) (Ok bytes) = ⊥
Answers (Deep at) (Err (faults.Deep p)) = p ≡ at
Answers (Deep at) (Err faults.Long) = ⊥
Answers (Deep at) (Err faults.NoMemory) = Unit {0}

pub record IsAnswer (t : Shown) (r : Result (List ℕ) ShowFault) : Type 0 where
  pub answers : Answers t r
