use Rattle.std.proofs.Common.{◌≡◌, map, take, Some}
use Rattle.ps_pattern.specs.Matching.{all, collect, matched, literal_of}
use Rattle.ps_pattern.proofs.matching.+matching.Given as goal

abbrev pub invariant-match_all-loop-i : goal.invariant-match_all-loop-i
invariant-match_all-loop-i g l = all (take l.i (map (matched (literal_of (g.S.Scope.rules_of l.scope) (g.S.Scope.use_of l.scope))) l.ps)) l.fs ≡ Some l.binds

abbrev pub invariant-match_rows-loop-f : goal.invariant-match_rows-loop-f
invariant-match_rows-loop-f g l = collect (map (matched (literal_of (g.S.Scope.rules_of l.scope) (g.S.Scope.use_of l.scope)) l.p) (take l.f-index l.fs)) ≡ Some l.rows.items
