-- All fit where the rest fits.
use Rattle.std.proofs.Common.{◌≡◌, drop, map}
use Rattle.ps_prims.specs.Records.{fields, sort_of_field}
use Rattle.ps_prims.specs.Sorts.{first_order, fits}
use Rattle.ps_prims.proofs.records.fit_maker.Given as goal

abbrev pub invariant-loop-i : goal.invariant-loop-i
invariant-loop-i l = fits first_order (map (sort_of_field (fields l.kinds l.k)) l.order) l.args ≡ fits first_order (map (sort_of_field (fields l.kinds l.k)) (drop l.i l.order)) (drop l.i l.args)
