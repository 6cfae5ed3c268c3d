use Rattle.ps_plain.proofs.FaultsFound.{faults_tell}
use Rattle.ps_plain.proofs.laws.faults_tell_programs.Goals as goal

pub returns : goal.returns
returns c = faults_tell
