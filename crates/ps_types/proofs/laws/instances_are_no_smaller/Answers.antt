use Rattle.ps_types.proofs.InstancesAreNoSmaller.{instances_no_smaller, instances_compose}
use Rattle.ps_types.proofs.laws.instances_are_no_smaller.Goals as goal

pub returns-clause-smaller : goal.returns-clause-smaller
returns-clause-smaller c = instances_no_smaller

pub returns-clause-compose : goal.returns-clause-compose
returns-clause-compose c = instances_compose
