use Rattle.std.proofs.Common.{◌≡◌, drop}
use Rattle.ps_pattern.specs.Matching.{literal_of}
use Rattle.ps_pattern.specs.Transcribing.{chosen}
use Rattle.ps_pattern.proofs.transcription.first_match.Given as goal

abbrev pub invariant-loop-rule : goal.invariant-loop-rule
invariant-loop-rule g l = chosen (literal_of (g.S.Scope.rules_of l.scope) (g.S.Scope.use_of l.scope)) l.stamp l.form l.rules ≡ chosen (literal_of (g.S.Scope.rules_of l.scope) (g.S.Scope.use_of l.scope)) l.stamp l.form (drop l.rule-index l.rules)
