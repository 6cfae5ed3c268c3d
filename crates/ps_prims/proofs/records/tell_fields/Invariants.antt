-- Telling the rest ends as telling all, and what stood there before stays.
use Rattle.std.proofs.Common.{◌≡◌, pos, List, ◌++◌, drop}
use Rattle.byte_store.specs.declared.event.Event.{Event}
use Rattle.byte_store.specs.declared.pointer.Pointer.TheVariants.{At}
use Rattle.ps_prims.specs.Records.{puts_seen}
use Rattle.ps_prims.specs.Sorts.{first_order}
use Rattle.ps_prims.specs.InsideRecords.{record_seen}
use Rattle.ps_prims.proofs.records.tell_fields.Given as goal

abbrev pub invariant-loop-i : goal.invariant-loop-i
invariant-loop-i l = record {
  before : (more : List Event) × (l.events ≡ l.fn.events ++ more);
  rest : l.events ++ puts_seen first_order (At l.base (pos 0)) (drop l.i l.order) (drop l.i l.args) ≡ l.fn.events ++ record_seen first_order l.base l.count l.order l.args;
}
