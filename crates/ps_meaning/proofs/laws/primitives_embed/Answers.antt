use Rattle.ps_meaning.proofs.PrimitivesKeepTheirRows.{primitives_run}
use Rattle.ps_meaning.proofs.laws.primitives_embed.Goals as goal

pub returns : goal.returns
returns c = primitives_run
