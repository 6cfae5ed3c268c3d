use Rattle.std.proofs.Common.{◌≡◌, map, drop}
use Rattle.std.specs.List.{list_any}
use Rattle.ps_plain.specs.Faults.{is_main}
use Rattle.ps_resolve.specs.InsideHeads.{head_at}
use Rattle.ps_resolve.proofs.faults.has_main.Given as goal

-- the search of what is left gives the same
abbrev pub invariant-loop-form : goal.invariant-loop-form
invariant-loop-form l = list_any is_main (map (head_at l.names) (drop l.form-index l.forms)) ≡ list_any is_main (map (head_at l.names) l.forms)
