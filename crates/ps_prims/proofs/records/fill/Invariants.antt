-- Putting the rest ends as putting all.
use Rattle.std.proofs.Common.{◌≡◌, drop}
use Rattle.ps_prims.specs.Records.{put_fields}
use Rattle.ps_prims.proofs.records.fill.Given as goal

abbrev pub invariant-loop-i : goal.invariant-loop-i
invariant-loop-i g l = put_fields l.fn.store l.p l.order l.args ≡ put_fields l.store l.p (drop l.i l.order) (drop l.i l.args)
