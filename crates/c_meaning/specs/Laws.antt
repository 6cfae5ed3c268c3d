-- The law of the machine.
use Rattle.byte_store.specs.Agree.{KeepsWhatItHas}
use Rattle.byte_store.specs.Worlds.{Surroundings}
use Rattle.c_ast.specs.declared.unit.CUnit.{CUnit}
use Rattle.c_meaning.specs.Machine.{CRun}

abbrev pub LargerBoundKeeps : Type 0
LargerBoundKeeps = (u : CUnit) (w : Surroundings) → KeepsWhatItHas (CRun u w)
