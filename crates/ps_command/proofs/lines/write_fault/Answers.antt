use Rattle.ps_base.proofs.Writing.{adds_then, adds_from_start, appended_nothing}
use Rattle.ps_command.specs.Lines.{answer_line}
use Rattle.ps_command.proofs.lines.write_fault.Goals as goal

pub returns-in-Done : goal.returns-in-Done
unfolding answer_line
returns-in-Done g c = rw c.in-Done.is (appended_nothing _)

pub returns-in-Refused : goal.returns-in-Refused
unfolding answer_line
returns-in-Refused g c = rw c.in-Refused.is (adds_from_start _ _ _ _ tt (search adds_then depth 12))

pub returns-in-NoMemory : goal.returns-in-NoMemory
unfolding answer_line
returns-in-NoMemory g c = rw c.in-NoMemory.is (adds_from_start _ _ _ _ tt c.put-in-NoMemory.ensures)
