use Rattle.std.proofs.Common.{◌≡◌, ℕ, ◌≤◌, List, [], map, length, take, drop, Some}
use Rattle.ps_plain.specs.Faults.{flaws, parameters_names}
use Rattle.ps_resolve.specs.InsideHeads.{words_of}
use Rattle.ps_resolve.proofs.faults.parameters_fault.Given as goal

-- the search of what is left gives the same, and the table has the parameters so far
abbrev pub invariant-loop-count : goal.invariant-loop-count
invariant-loop-count l = record {
  fault : parameters_names l.count l.before (map (flaws l.names) (drop l.count l.parameters)) ≡ parameters_names 0 [] (map (flaws l.names) l.parameters);
  added : (ws : List (List ℕ)) → words_of l.names (take l.count l.parameters) ≡ Some ws → l.before ≡ ws;
  few : length l.before ≤ l.count;
  low : l.count ≤ 127;
}
