use Rattle.byte_store.proofs.OperationsAreNatural.{natural}
use Rattle.byte_store.proofs.mapping.operations_are_natural.Goals as goal

pub returns : goal.returns
returns g c = λ f. natural f
