-- The variants that the tactics leave open; they prove the others.
use Rattle.ps_command.specs.Lines.{fault_text}
use Rattle.ps_command.proofs.lines.put_fault.Goals as goal

pub returns-in-CoreSpent : goal.returns-in-CoreSpent
unfolding fault_text
returns-in-CoreSpent g c = rw c.in-CoreSpent.is c.put_with_number-in-CoreSpent.ensures

pub returns-in-StaticWrong : goal.returns-in-StaticWrong
unfolding fault_text
returns-in-StaticWrong g c = rw c.in-StaticWrong.is c.put_at_place.ensures

pub returns-in-StaticUndefined : goal.returns-in-StaticUndefined
unfolding fault_text
returns-in-StaticUndefined g c = rw c.in-StaticUndefined.is (rw c.op_word_of.ensures at c.put_of_kind-in-StaticUndefined.ensures)

pub returns-in-StaticRunOnly : goal.returns-in-StaticRunOnly
unfolding fault_text
returns-in-StaticRunOnly g c = rw c.in-StaticRunOnly.is c.put_at_place-in-StaticRunOnly.ensures

pub returns-in-CellsSpent : goal.returns-in-CellsSpent
unfolding fault_text
returns-in-CellsSpent g c = rw c.in-CellsSpent.is c.put_with_number-in-CellsSpent.ensures

pub returns-in-Survives : goal.returns-in-Survives
unfolding fault_text
returns-in-Survives g c = rw c.in-Survives.is (rw c.survive_word_of.ensures at c.put_of_kind-in-Survives.ensures)

pub returns-in-Unresolved : goal.returns-in-Unresolved
unfolding fault_text
returns-in-Unresolved g c = rw c.in-Unresolved.is (rw c.position_word_of.ensures at c.put_of_kind-in-Unresolved.ensures)

pub returns-in-NotBuilt : goal.returns-in-NotBuilt
unfolding fault_text
returns-in-NotBuilt g c = rw c.in-NotBuilt.is c.put_at_place-in-NotBuilt.ensures

pub returns-in-ShowLong : goal.returns-in-ShowLong
unfolding fault_text
returns-in-ShowLong g c = rw c.in-ShowLong.is c.put_with_number-in-ShowLong.ensures
