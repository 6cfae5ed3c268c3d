use Rattle.ps_types.proofs.SubstitutionsCompose.{all_compose, own_variables_decide}
use Rattle.ps_types.proofs.laws.substitutions_compose.Goals as goal

pub returns-clause-compose : goal.returns-clause-compose
returns-clause-compose c = all_compose

pub returns-clause-decide : goal.returns-clause-decide
returns-clause-decide c = own_variables_decide
