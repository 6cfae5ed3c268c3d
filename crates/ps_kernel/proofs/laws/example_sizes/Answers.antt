use Rattle.ps_kernel.proofs.ExampleByHand.{depth, count}
use Rattle.ps_kernel.proofs.laws.example_sizes.Goals as goal

pub returns : goal.returns
returns c = record { depth = depth; count = count }
