use Rattle.ps_plain.proofs.Bounds.{sound}
use Rattle.ps_plain.proofs.laws.program_is_sound.Goals as goal

pub returns : goal.returns
returns c = sound
