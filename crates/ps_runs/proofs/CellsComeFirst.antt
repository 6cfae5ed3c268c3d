-- A primitive that asks for more cells than are left stops the run before it takes effect.
-- For: `cells_come_first`
use Rattle.std.proofs.Common.{◌≡◌, ℕ, ◌-◌, ◌<◌, ◌≤◌, Option, Some, refl, sym, ap, ◌∙◌, arith}
use Rattle.std.specs.Prelude.{Bool, true, false, nat_le, if◌then◌else◌}
use Rattle.std.proofs.lemmas.Bool.{leb-true, false_from_ne_true}
use Rattle.ps_base.specs.declared.faults.Place.{Place}
use Rattle.byte_store.specs.Outcome.{StoppedAtCells}
use Rattle.ps_prims.specs.Rows.{Scene, Performed}
use Rattle.ps_runs.specs.Runs.{State, Step, Goes, Stops, Run, Ends, and_then, stop, stopped}
use Rattle.ps_runs.specs.Effects.{pay, take_cells, came, performing}
use Rattle.ps_runs.specs.Laws.{CellsComeFirst}

too_many : (n left : ℕ) → left < n → nat_le n left ≡ false
too_many n left few = false_from_ne_true (nat_le n left) (λ le. let small : n ≤ left = leb-true n left le in absurd (omega arith))

module _ {V : Type 0} where
  not_paid : (n left : ℕ) (cells : Option ℕ) (s : State V) → cells ≡ Some left → left < n → pay n cells s ≡ Stops (Ends StoppedAtCells) (stopped s)
  not_paid n left cells s is few =
      ap (λ c. pay n c s) is ∙ ap (λ (b : Bool). (if b then (λ (t : State V). Goes tt (record t { cells = Some (left - n) })) else stop {A = Unit {0}} (Ends StoppedAtCells)) s) (too_many n left few)

  pub come_first : CellsComeFirst V
  come_first at asks act s left is few =
      ap (λ r. and_then r (λ u. came at (act (record { memory = s.memory; world = s.world })))) (not_paid (asks (record { memory = s.memory; world = s.world })) left s.cells s is few)
