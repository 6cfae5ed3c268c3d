-- The law is a lemma of the units.
use Rattle.c_ast.proofs.OneUnit.{one_unit}
use Rattle.c_ast.proofs.laws.text_has_one_unit.Goals as goal

pub returns : goal.returns
returns c = one_unit
