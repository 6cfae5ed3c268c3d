use Rattle.std.proofs.Common.{◌≡◌, ◌++◌, map, take}
use Rattle.ps_pattern.specs.Surveys.{deep_in, all_deep}
use Rattle.ps_pattern.proofs.surveys.+gathering.Given as goal

abbrev pub invariant-gather_all-loop-part : goal.invariant-gather_all-loop-part
invariant-gather_all-loop-part l = l.out ≡ l.fn.out ++ all_deep (map (deep_in l.depths) (take l.part-index l.parts))
