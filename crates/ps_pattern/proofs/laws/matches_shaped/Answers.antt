use Rattle.ps_pattern.proofs.Shapes.{matches_are_shaped}
use Rattle.ps_pattern.proofs.laws.matches_shaped.Goals as goal

pub returns : goal.returns
returns c = record { law = matches_are_shaped }
