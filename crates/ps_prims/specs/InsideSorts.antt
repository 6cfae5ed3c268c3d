-- The sorts of primitives that have nothing to do with records, and lengths. No public clause cites this file.
use Rattle.std.specs.Prelude.{ℕ, List, [], ◌∷◌, length, Option, Some, None, Result, Ok, Err}
use Rattle.ps_base.specs.declared.faults.Op.{Op}
use Rattle.ps_base.specs.declared.language.PrimName.{PrimName}
use Rattle.ps_base.specs.declared.language.PrimName.TheVariants as prims
use Rattle.ps_prims.specs.Sorts.{Sort, first_order}
use Rattle.ps_prims.specs.Rows.{row}

abbrev pub named_operands : PrimName → List Sort
named_operands (prims.Maker k) = []
named_operands (prims.Predicate k) = []
named_operands (prims.Accessor k f) = []
named_operands (prims.Modifier k f) = []
named_operands p = (row first_order [] p).operands

-- one or none
abbrev pub items_of : {A : Type 0} → Option A → List A
items_of None = []
items_of (Some a) = a ∷ []

-- the length of a string that is there
abbrev pub length_of : Result (List ℕ) Op → Option ℕ
length_of (Ok bytes) = Some (length bytes)
length_of (Err op) = None
