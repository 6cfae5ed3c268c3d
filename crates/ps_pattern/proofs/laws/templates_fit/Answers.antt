use Rattle.ps_pattern.proofs.Fits.{read_templates_fit}
use Rattle.ps_pattern.proofs.laws.templates_fit.Goals as goal

pub returns : goal.returns
returns c = record { law = read_templates_fit }
