use Rattle.ps_prims.proofs.OthersAskForNone.{others_ask_none}
use Rattle.ps_prims.proofs.cells.asked.Goals as goal

pub returns-in-MakeVector : goal.returns-in-MakeVector
returns-in-MakeVector g c = rw c.in-MakeVector.is (c.asked_for_vector.ensures c.args.kinds.now c.args.store.now)

pub returns-in-AllocateMemory : goal.returns-in-AllocateMemory
returns-in-AllocateMemory g c = rw c.in-AllocateMemory.is (c.asked_for_memory.ensures c.args.kinds.now c.args.store.now)

pub returns-in-StringAppend : goal.returns-in-StringAppend
returns-in-StringAppend g c = rw c.in-StringAppend.is (c.asked_for_string.ensures c.args.kinds.now)

pub returns-in-Maker : goal.returns-in-Maker
returns-in-Maker g c = rw c.in-Maker.is (c.asked_for_record.ensures c.args.store.now)

pub returns-in_default : goal.returns-in_default
returns-in_default g c = others_ask_none c.args.kinds.now c.args.args.now c.args.store.now c.args.p c.in_default.not-MakeVector c.in_default.not-AllocateMemory c.in_default.not-StringAppend c.in_default.not-Maker
