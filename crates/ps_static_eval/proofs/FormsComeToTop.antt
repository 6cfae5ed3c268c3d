-- The forms of a kernel, run from the start by calls that say nothing of depths, come to what the kernel's forms come to.
-- For: `evaluate`
use Rattle.std.proofs.Common.{List, ◌≡◌, ℕ, ◌-◌, ◌≤◌, Bool, [], length, replicate, Option, Some, None, refl, sym, ap, ◌∙◌, subst, arith}
use Rattle.std.specs.Prelude.{nat_le, if◌then◌else◌}
use Rattle.ps_base.specs.declared.faults.Fault.{Fault}
use Rattle.ps_base.specs.declared.faults.Fault.TheVariants.{CellsSpent}
use Rattle.ps_base.specs.declared.limits.Limits.{Limits}
use Rattle.byte_store.specs.declared.event.Event.{Event}
use Rattle.byte_store.specs.declared.pointer.Value.{Value}
use Rattle.byte_store.specs.Blocks.{Memory}
use Rattle.byte_store.specs.Worlds.{Surroundings}
use Rattle.byte_store.specs.Outcome.{StoppedAtCells}
use Rattle.ps_prims.specs.Cells.{cells_in}
use Rattle.ps_kernel.specs.declared.kernel.Kernel.{Kernel}
use Rattle.ps_runs.specs.Runs.{Step, Goes, Stops, Ends}
use Rattle.ps_meaning.specs.Eval.{compile_enters}
use Rattle.ps_meaning.specs.Literals.{lay_all}
use Rattle.ps_meaning.specs.Source.{TopEnd, Finished, Halted, Top, all_forms, first_memory, top_end, top_start, top_within}
use Rattle.ps_static_eval.specs.declared.machine.Halt.{Halt}
use Rattle.ps_static_eval.specs.Ends.{Refuses, fault_of}
use Rattle.ps_static_eval.specs.InsideLaying.{left_after}
use Rattle.ps_static_eval.specs.InsideMachine.{FormsEnd, Left, at, enters, halt_of}
use Rattle.ps_static_eval.proofs.DepthsAreUnseen.{forgets, forms_unseen}
use Rattle.ps_static_eval.proofs.LiteralsArePaid.{none_is, some_is}

-- what the machine begins with
abbrev pub start : Kernel → ℕ → ℕ → Left
start k budget left = record {
  calls = budget;
  cells = left;
  store = first_memory k;
  globals = replicate (length k.definitions) None;
  world = record { input = []; grants = [] };
  events = [];
}

pub begun : (k : Kernel) (budget cells : ℕ) (m : Memory Value) (gs : List (Option Value)) (w : Surroundings) (es : List Event)
    → m ≡ first_memory k → gs ≡ replicate (length k.definitions) None → w ≡ record { input = []; grants = [] } → es ≡ []
    → record { calls = budget; cells = cells; store = m; globals = gs; world = w; events = es } ≡ start k budget cells
begun k budget cells m gs w es memory none alone quiet = λ i. record { calls = budget; cells = cells; store = memory i; globals = none i; world = alone i; events = quiet i }

top_forgets : (r : Step Value (Unit {0})) → top_end (forgets r) ≡ top_end r
top_forgets (Goes u s) = refl
top_forgets (Stops h s) = refl

comes_within : (k : Kernel) (budget left : ℕ) (r : Step Value (Unit {0})) → all_forms k (enters k budget) k.forms (at (start k budget left) []) ≡ r → top_within k budget left ≡ top_end r
comes_within k budget left r is =
    sym (top_forgets (all_forms k (compile_enters k budget) k.forms (top_start k budget left))) ∙ ap top_end (sym (forms_unseen k budget k.forms (top_start k budget left)) ∙ is)

abbrev need : Kernel → ℕ
need k = cells_in (lay_all k.literals).blocks

abbrev top_if : Kernel → ℕ → ℕ → Bool → TopEnd
top_if k budget cells t = if t then top_within k budget (cells - need k) else Halted (Ends StoppedAtCells)

top_paid : (k : Kernel) (budget cells left : ℕ) → Some left ≡ left_after (need k) cells → Top k budget cells ≡ top_within k budget left
top_paid k budget cells left paid =
    let both = some_is (nat_le (need k) cells) left (cells - need k) paid in
    ap (top_if k budget cells) both.0 ∙ ap (top_within k budget) (sym both.1)

module _ (k : Kernel) (limits : Limits) where
  pub spends : (o : Option ℕ) → o ≡ left_after (need k) limits.cells → o ≡ None → Refuses limits (CellsSpent limits.cells) (Top k limits.budget limits.cells)
  spends o is none = record {
    halt = Ends StoppedAtCells;
    stops = ap (top_if k limits.budget limits.cells) (none_is (nat_le (need k) limits.cells) (limits.cells - need k) (sym none ∙ is));
    fault = refl;
  }

  ends_so : (left : ℕ) (s : Left) (r : Step Value (Unit {0})) → Some left ≡ left_after (need k) limits.cells → s ≡ start k limits.budget left
      → all_forms k (enters k limits.budget) k.forms (at s []) ≡ r → Top k limits.budget limits.cells ≡ top_end r
  ends_so left s r paid begins is =
      top_paid k limits.budget limits.cells left paid
      ∙ comes_within k limits.budget left r (ap (λ z. all_forms k (enters k limits.budget) k.forms (at z [])) (sym begins) ∙ is)

  few : (left : ℕ) (s : Left) → s ≡ start k limits.budget left → s.calls ≤ limits.budget
  few left s begins = let same : s.calls ≡ limits.budget = ap (λ (z : Left). z.calls) begins in omega (arith, same)

  pub finishes : (left : ℕ) (s m : Left) (o : Option Halt) → Some left ≡ left_after (need k) limits.cells → s ≡ start k limits.budget left → FormsEnd k k.forms s o m → o ≡ None
      → Top k limits.budget limits.cells ≡ Finished m.globals m.store
  finishes left s m o paid begins ends is = ends_so left s _ paid begins (subst (λ z. FormsEnd k k.forms s z m) is ends limits.budget (few left s begins))

  pub refuses : (left : ℕ) (s m : Left) (o : Option Halt) (h : Halt) (f : Fault) → Some left ≡ left_after (need k) limits.cells → s ≡ start k limits.budget left → FormsEnd k k.forms s o m → o ≡ Some h
      → fault_of limits (halt_of h) ≡ Some f → Refuses limits f (Top k limits.budget limits.cells)
  refuses left s m o h f paid begins ends is fault = record {
    halt = halt_of h;
    stops = ends_so left s _ paid begins (subst (λ z. FormsEnd k k.forms s z m) is ends limits.budget (few left s begins));
    fault = fault;
  }
