use Rattle.ps_pattern.proofs.RulesFit.{compiled_rules_fit}
use Rattle.ps_pattern.proofs.laws.rules_fit.Goals as goal

pub returns : goal.returns
returns c = record { law = compiled_rules_fit }
