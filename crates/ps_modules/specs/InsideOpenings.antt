-- What taking names one after another answers (private to it).
use Rattle.std.specs.Prelude.{◌≡◌, List, Bool, true, false, Option, Some, None, Result, Ok, Err}
use Rattle.ps_base.specs.declared.memory.NoMemory.{NoMemory}
use Rattle.ps_modules.specs.Openings.{Given}

-- `after` is known behind what was taken, or a name had another binding, or memory ran out
abbrev pub Takes : Option (List Given) → List Given → Result Bool NoMemory → Type 0
Takes want after (Ok true) = want ≡ Some after
Takes want after (Ok false) = want ≡ None
Takes want after (Err e) = Unit {0}
