-- The parts of a text, of which the functions that write it speak.
use Rattle.std.specs.Prelude.{ℕ, zero, suc, Bool, List, [], codes, slice_get}
use Rattle.ps_kernel.specs.declared.expr.Constant.{Constant}
use Rattle.ps_base.specs.declared.faults.Place.{Place}
use Rattle.ps_kernel.specs.declared.expr.ExprKind.{ExprKind, out-ExprKind}
use Rattle.ps_show.specs.declared.nodes.Showing.{Showing}
use Rattle.ps_types.specs.declared.types.Ty.{Ty}
use Rattle.ps_show.specs.Shown.{Shown, Text, Deep, ◌⋄◌}
use Rattle.ps_show.specs.Bindings.{binds}
use Rattle.ps_show.specs.Bindings as t2
use Rattle.ps_kernel.specs.declared.kernel.Kernel.{Kernel}
use Rattle.ps_datum.specs.declared.datum.DatumKind.{DatumKind, fold-DatumKind}
use Rattle.ps_show.specs.ShowText as t
use Rattle.ps_show.specs.ShowText.{Part, beginning, fits_node, type_text}

-- the space before the member at a place: none before the first
abbrev pub space_before : ℕ → Shown
space_before zero = Text []
space_before (suc i) = Text (codes " ")

module _ (s : Showing) where
  -- a part, where so many levels may be opened
  abbrev pub part : ℕ → Part → Shown
  part n p = t.shown s.kernel.now s.names.now s.locals.now n p

  -- what stands in the brackets of an expression of a kind at a place, and may open so many levels more
  unfoldable pub node : ℕ → Place → ExprKind → Shown
  node n at kind = t.node_text s.kernel.now s.names.now s.locals.now (part n) at (out-ExprKind kind)

  abbrev pub procedure : ℕ → Place → ℕ → Shown
  procedure n at l = t.procedure_text (part n) at (slice_get s.kernel.now.lambdas l)

  abbrev pub bare : ExprKind → Shown
  bare kind = t.bare_text s.kernel.now s.names.now s.locals.now (out-ExprKind kind)

  abbrev pub bare_constant : Constant → Shown
  bare_constant c = t.bare_constant s.kernel.now s.names.now s.locals.now c

-- the locals that an expression of a kind binds, read to so many levels below it
unfoldable pub kind_bound : Kernel → ℕ → ExprKind → List ℕ
kind_bound k n kind = t2.kind_binds k (binds k n) (out-ExprKind kind)

-- the type of vectors of items, where so many levels may be opened
abbrev pub vector_text : ℕ → Ty → Shown
vector_text zero t = Deep beginning
vector_text (suc n) t = Text (codes "(vector ") ⋄ (type_text n t ⋄ Text (codes ")"))

-- whether the brackets of what a datum is fit into so many levels
abbrev pub kind_fits : DatumKind → ℕ → Bool
kind_fits = fold-DatumKind (ℕ → Bool) (ℕ → Bool) fits_node (λ d. d.kind)
