use Rattle.ps_groups.proofs.StartsAreCut.{on_ok, left_part}
use Rattle.ps_groups.proofs.search.leave_part.Goals as goal

pub returns : goal.returns
returns c = on_ok c.close.result (left_part c.args.place c.args.search.now c.close.new.search c.pop.result c.pop.new.self c.requires.start c.pop.ensures) c.close.ensures
