use Rattle.std.proofs.Common.{Some, refl}
use Rattle.ps_prims.specs.Sorts.{Integer, Boolean, Char, Unit', Address, Text, Vector, Record, Any, as_unit}
use Rattle.ps_prims.proofs.ValuesAreCollected.{is_of_sort}
use Rattle.ps_prims.proofs.operands.is_of.Goals as goal

pub returns-in-Integer : goal.returns-in-Integer
returns-in-Integer c = is_of_sort c.args.sort Integer c.is_some.result c.integer.result c.args.v c.in-Integer.is c.is_some.ensures c.integer.ensures

pub returns-in-Boolean : goal.returns-in-Boolean
returns-in-Boolean c = is_of_sort c.args.sort Boolean c.is_some-in-Boolean.result c.boolean.result c.args.v c.in-Boolean.is c.is_some-in-Boolean.ensures c.boolean.ensures

pub returns-in-Char : goal.returns-in-Char
returns-in-Char c = is_of_sort c.args.sort Char c.is_some-in-Char.result c.character.result c.args.v c.in-Char.is c.is_some-in-Char.ensures c.character.ensures

pub returns-in-Address : goal.returns-in-Address
returns-in-Address c = is_of_sort c.args.sort Address c.is_some-in-Address.result c.address.result c.args.v c.in-Address.is c.is_some-in-Address.ensures c.address.ensures

pub returns-in-Text : goal.returns-in-Text
returns-in-Text c = is_of_sort c.args.sort Text c.is_some-in-Text.result c.text.result c.args.v c.in-Text.is c.is_some-in-Text.ensures c.text.ensures

pub returns-in-Vector : goal.returns-in-Vector
returns-in-Vector c = is_of_sort c.args.sort Vector c.is_some-in-Vector.result c.vector.result c.args.v c.in-Vector.is c.is_some-in-Vector.ensures c.vector.ensures

pub returns-in-Unit : goal.returns-in-Unit
returns-in-Unit c = is_of_sort c.args.sort Unit' c.is_unit.result (as_unit c.args.v) c.args.v c.in-Unit.is c.is_unit.ensures refl

pub returns-in-Record : goal.returns-in-Record
returns-in-Record c = is_of_sort c.args.sort (Record c.in-Record.k) c.is_some-in-Record.result c.record.result c.args.v c.in-Record.is c.is_some-in-Record.ensures c.record.ensures

pub returns-in-Any : goal.returns-in-Any
returns-in-Any c = is_of_sort c.args.sort Any _ (Some c.args.v) c.args.v c.in-Any.is refl refl
