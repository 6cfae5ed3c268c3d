use Rattle.ps_kernel.proofs.ExampleByHand.{of_f, of_g, of_inner}
use Rattle.ps_kernel.proofs.laws.example_keeps.Goals as goal

pub returns : goal.returns
returns c = record { of_f = of_f; of_g = of_g; of_inner = of_inner }
