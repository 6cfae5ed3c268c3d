use Rattle.std.proofs.Common.{◌≡◌, drop, map}
use Rattle.std.specs.List.{concat, fold}
use Rattle.ps_types.specs.Writing.{variables}
use Rattle.ps_types.specs.InsideSearch.{seen}
use Rattle.ps_types.proofs.numbering.+searching.Given as goal

-- the search over the rest ends as that over all
abbrev pub invariant-search_types-loop-t : goal.invariant-search_types-loop-t
invariant-search_types-loop-t l = fold seen l.search (concat (map variables (drop l.t-index l.types))) ≡ fold seen l.fn.search (concat (map variables l.types))
