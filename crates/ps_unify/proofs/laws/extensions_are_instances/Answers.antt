use Rattle.ps_unify.proofs.BindingsAreMostGeneral.{all_general, all_extend}
use Rattle.ps_unify.proofs.laws.extensions_are_instances.Goals as goal

pub returns-clause-instances : goal.returns-clause-instances
returns-clause-instances c = all_general

pub returns-clause-extend : goal.returns-clause-extend
returns-clause-extend c = all_extend
