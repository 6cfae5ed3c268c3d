-- Primitives at run time, on values of first order.
--
-- Read `PrimitivesEmbed` as: where each operand is plain, and no cell of the memory holds a procedure, a primitive does at
-- run time what it does on the values of first order themselves. It answers the same value, leaves the same memory and world
-- and is seen the same from outside; or it is undefined by the same cause; or both are wrong. It asks for as many cells.
use Rattle.ps_prims.specs.Sorts.{first_order}
use Rattle.ps_prims.specs.Mapping.{RowsAreNatural}
use Rattle.ps_meaning.specs.Values.{Plain, run_values}

abbrev pub PrimitivesEmbed : Type 0
PrimitivesEmbed = RowsAreNatural Plain first_order run_values
