use Rattle.std.proofs.Common.{sym, ◌∙◌, drop, map}
use Rattle.std.specs.List.{concat}
use Rattle.ps_types.specs.Writing.{variables}
use Rattle.ps_types.proofs.SearchesFindTheLeast.{met_stays}
use Rattle.ps_types.proofs.numbering.+searching.Goals as goal

pub search_types-returns-then-search : goal.search_types-returns-then-search
search_types-returns-then-search t c = sym (met_stays c.loop-t.search (concat (map variables (drop c.loop-t.t-index c.args.types.now))) c.if-search.true) ∙ c.loop-t.invariant
