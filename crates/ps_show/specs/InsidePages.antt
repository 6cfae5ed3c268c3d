-- What the functions that write a page promise each other.
use Rattle.std.specs.Prelude.{◌≡◌, ℕ, ◌<◌, ◌≤◌, List, length, Option, Some, None}
use Rattle.ps_base.specs.declared.faults.Place.{Place}
use Rattle.ps_show.specs.declared.page.Page.{Page}
use Rattle.ps_show.specs.declared.page.ShowFault.{ShowFault}
use Rattle.ps_show.specs.declared.page.ShowFault.TheVariants as faults
use Rattle.ps_show.specs.Shown.{Shown, Text, Deep, ◌⋄◌}
use Rattle.ps_show.specs.Answers.{most_bytes}

-- what bytes and a fault hold of a text: all of it, that it is too long, or the place where it is too deep
abbrev pub Holds : Option ShowFault → List ℕ → Shown → Type 0
Holds None bytes (Text t) = (bytes ≡ t) × (length t ≤ most_bytes)
Holds None bytes (Deep at) = ⊥
Holds (Some (faults.Deep p)) bytes (Text t) = ⊥
Holds (Some (faults.Deep p)) bytes (Deep at) = p ≡ at
Holds (Some faults.Long) bytes (Text t) = most_bytes < length t
Holds (Some faults.Long) bytes (Deep at) = ⊥
Holds (Some faults.NoMemory) bytes t = Unit {0}

pub record HoldsText (page : Page) (t : Shown) : Type 0 where
  pub holds : Holds page.fault page.bytes t

-- from one page to the next, the text was added
pub record Adds (old new : Page) (t : Shown) : Type 0 where
  pub adds : (front : Shown) → HoldsText old front → HoldsText new (front ⋄ t)

-- what a fault becomes with a bracket that would be too deep
abbrev pub deeper : ShowFault → Place → ShowFault
deeper (faults.Deep p) at = faults.Deep p
deeper faults.Long at = faults.Deep at
deeper faults.NoMemory at = faults.NoMemory
