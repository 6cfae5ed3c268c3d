-- What it means that data were refused.
use Rattle.std.specs.Prelude.{◌≡◌, Option, Some}
use Rattle.ps_base.specs.declared.faults.Fault.{Fault}
use Rattle.ps_base.specs.declared.faults.Fault.TheVariants as faults
use Rattle.ps_base.specs.declared.faults.Place.{Place}
use Rattle.ps_base.specs.declared.faults.Refusal.{Refusal}
use Rattle.ps_base.specs.declared.faults.Refusal.TheVariants as refusals

-- the refusal is NotBuilt, at the place of the fault
abbrev pub IsNotBuilt : Option Place → Fault → Type 0
IsNotBuilt at (faults.NotBuilt place) = at ≡ Some place
IsNotBuilt at _ = ⊥

-- the refusal is for the fault of the data, or for want of memory
abbrev pub IsRefusalOf : Option Place → Refusal → Type 0
IsRefusalOf at (refusals.Fault fault) = IsNotBuilt at fault
IsRefusalOf at refusals.NoMemory = Unit {0}
