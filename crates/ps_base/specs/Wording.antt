-- The texts of places and of the causes of undefined operations, as printed lines have them (this project's own).
use Rattle.std.specs.Prelude.{ℕ, List, codes, decimal}
use Rattle.ps_base.specs.Texts.{◌&◌}
use Rattle.ps_base.specs.declared.faults.Op.{Op}
use Rattle.ps_base.specs.declared.faults.Op.TheVariants as ops
use Rattle.ps_base.specs.declared.faults.Place.{Place}

-- the cause's word in small letters
unfoldable pub op_word : Op → List ℕ
op_word ops.Overflow = codes "overflow"
op_word ops.Division = codes "division"
op_word ops.Shift = codes "shift"
op_word ops.Char = codes "char"
op_word ops.Byte = codes "byte"
op_word ops.Size = codes "size"
op_word ops.Bounds = codes "bounds"
op_word ops.Unset = codes "unset"
op_word ops.Freed = codes "freed"
op_word ops.Blocks = codes "blocks"

-- file, line and column
unfoldable pub place_text : Place → List ℕ
place_text p = decimal p.file & codes ":" & decimal p.line & codes ":" & decimal p.column
