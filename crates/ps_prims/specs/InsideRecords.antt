-- How the code makes records. No public clause cites this file.
use Rattle.std.specs.Prelude.{ℕ, pos, List, [], ◌∷◌, slice_set}
use Rattle.byte_store.specs.declared.event.Event.{Event}
use Rattle.byte_store.specs.declared.event.Event.TheVariants as events
use Rattle.byte_store.specs.declared.pointer.Base.{Base}
use Rattle.byte_store.specs.declared.pointer.Pointer.TheVariants.{At}
use Rattle.ps_prims.specs.Sorts.{Values}
use Rattle.ps_prims.specs.Records.{puts_seen}

-- values at these places of a list
abbrev pub scattered : {A : Type 0} → List ℕ → List A → List A → List A
scattered [] vs cells = cells
scattered (f ∷ fs) [] cells = cells
scattered (f ∷ fs) (v ∷ vs) cells = scattered fs vs (slice_set cells f v)

-- what is seen of a record that is made at the start of a block, and filled
abbrev pub record_seen : {V : Type 0} → Values V → Base → ℕ → List ℕ → List V → List Event
record_seen values base n fs vs = events.Tuple (pos n) (At base (pos 0)) ∷ puts_seen values (At base (pos 0)) fs vs
