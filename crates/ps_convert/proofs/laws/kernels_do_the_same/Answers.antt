use Rattle.ps_convert.proofs.Runs.{kernels_do_the_same}
use Rattle.ps_convert.proofs.laws.kernels_do_the_same.Goals as goal

pub returns : goal.returns
returns c = kernels_do_the_same
