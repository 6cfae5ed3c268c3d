-- The law of the grammar.
use Rattle.std.specs.Prelude.{◌≡◌, ℕ, List}
use Rattle.c_ast.specs.declared.unit.CUnit.{CUnit}
use Rattle.c_ast.specs.Text.{CText}

-- two units of one text are the same
abbrev pub TextHasOneUnit : Type 0
TextHasOneUnit = (bytes : List ℕ) (u v : CUnit) → CText bytes u → CText bytes v → u ≡ v
