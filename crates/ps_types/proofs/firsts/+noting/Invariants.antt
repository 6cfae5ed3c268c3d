use Rattle.std.proofs.Common.{◌≡◌, drop, map}
use Rattle.std.specs.List.{concat, fold}
use Rattle.ps_types.specs.Writing.{variables}
use Rattle.ps_types.specs.InsideFirsts.{noted}
use Rattle.ps_types.proofs.firsts.+noting.Given as goal

-- noting the rest ends as noting all
abbrev pub invariant-note_types-loop-t : goal.invariant-note_types-loop-t
invariant-note_types-loop-t l = fold noted l.firsts.items (concat (map variables (drop l.t-index l.types))) ≡ fold noted l.fn.firsts.items (concat (map variables l.types))
