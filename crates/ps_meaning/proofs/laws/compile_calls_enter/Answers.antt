use Rattle.ps_meaning.proofs.LargerBoundsKeep.{unrolled_at_compile}
use Rattle.ps_meaning.proofs.laws.compile_calls_enter.Goals as goal

pub returns : goal.returns
returns c = unrolled_at_compile
