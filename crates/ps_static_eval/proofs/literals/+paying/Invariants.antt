use Rattle.std.proofs.Common.{◌≡◌, ℕ, map, drop}
use Rattle.ps_prims.specs.Cells.{cells_in}
use Rattle.ps_meaning.specs.Literals.{laid, lay_parts}
use Rattle.ps_static_eval.specs.InsideLaying.{left_after}
use Rattle.ps_static_eval.proofs.literals.+paying.Given as goal

abbrev pub invariant-pay_each-loop-part : goal.invariant-pay_each-loop-part
invariant-pay_each-loop-part l = (n : ℕ) → (m : ℕ) × (left_after (cells_in (lay_parts (map laid (drop l.part-index l.parts)) m).blocks) l.left ≡ left_after (cells_in (lay_parts (map laid l.parts) n).blocks) l.cells)
