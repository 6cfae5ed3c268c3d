use Rattle.ps_kernel.proofs.BodiesNameWhatTheyMay.{has_place}
use Rattle.ps_kernel.proofs.laws.lambdas_have_places.Goals as goal

pub returns : goal.returns
returns c = has_place
