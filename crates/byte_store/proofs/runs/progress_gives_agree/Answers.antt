use Rattle.byte_store.proofs.ProgressAgrees.{progress}
use Rattle.byte_store.proofs.runs.progress_gives_agree.Goals as goal

pub returns : goal.returns
returns c = progress
