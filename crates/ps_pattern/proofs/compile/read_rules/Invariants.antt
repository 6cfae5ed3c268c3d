use Rattle.std.proofs.Common.{◌≡◌, map, take, Some}
use Rattle.ps_pattern.specs.Matching.{collect}
use Rattle.ps_pattern.specs.Compiling.{rule_of}
use Rattle.ps_pattern.proofs.compile.read_rules.Given as goal

abbrev pub invariant-loop-form : goal.invariant-loop-form
invariant-loop-form l = collect (map (rule_of l.dots l.literals) (take l.form-index l.forms)) ≡ Some l.rules
