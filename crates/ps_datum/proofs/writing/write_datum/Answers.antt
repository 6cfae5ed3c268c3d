use Rattle.ps_datum.proofs.TextsComeByParts.{all_written, cut_short}
use Rattle.ps_datum.proofs.writing.write_datum.Goals as goal

pub returns-clause-written : goal.returns-clause-written
returns-clause-written c = all_written _ _ _ _ c.put_datum.ensures

pub returns-clause-cut : goal.returns-clause-cut
returns-clause-cut c = cut_short _ _ _ _ c.put_datum.ensures
