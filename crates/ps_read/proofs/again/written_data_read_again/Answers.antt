use Rattle.ps_read.proofs.DataReadAgain.{written_again}
use Rattle.ps_read.proofs.again.written_data_read_again.Goals as goal

pub returns : goal.returns
returns c = written_again
