-- How the cells of a stack are linked.
--
-- Read `laid cs` as: how many cells there are, where the frame on top begins, and where the topmost slot of each local lies, in
-- scope or not. A place is told by the number of cells up to it, and 0 says that there is none.
use Rattle.std.specs.Prelude.{◌≡◌, ℕ, suc, nat_eq, Bool, true, false, List, [], ◌∷◌, get_or, Option, Some, None, slice_set, if◌then◌else◌}
use Rattle.byte_store.specs.declared.pointer.Value.{Value}
use Rattle.ps_slots.specs.declared.cell.Cell.{Cell}
use Rattle.ps_slots.specs.declared.cell.Cell.TheVariants.{Entered, Local, Waits}
use Rattle.ps_slots.specs.declared.stack.Kept.{Kept}
use Rattle.ps_slots.specs.declared.stack.Kept.TheVariants as kept

pub record Lay : Type 0 where
  pub size : ℕ
  pub base : ℕ
  pub top : ℕ → ℕ

abbrev pub start : Lay
start = record { size = 0; base = 0; top = λ x. 0 }

module _ {J : Type 0} where
  -- a cell without its link
  abbrev pub plain : Kept J → Cell J
  plain (kept.Entered below) = Entered
  plain (kept.Local x v below) = Local x v
  plain (kept.Waits j) = Waits j

  abbrev pub lays : Lay → Kept J → Lay
  lays l (kept.Entered below) = record { size = suc l.size; base = suc l.size; top = l.top }
  lays l (kept.Local x v below) = record { size = suc l.size; base = l.base; top = λ y. if nat_eq y x then suc l.size else l.top y }
  lays l (kept.Waits j) = record { size = suc l.size; base = l.base; top = l.top }

  abbrev pub laid_on : Lay → List (Kept J) → Lay
  laid_on l [] = l
  laid_on l (c ∷ cs) = laid_on (lays l c) cs

  abbrev pub laid : List (Kept J) → Lay
  laid cs = laid_on start cs

  -- a cell leads to the frame, or to the slot of its local, below it
  abbrev pub Links : Lay → Kept J → Type 0
  Links l (kept.Entered below) = below ≡ l.base
  Links l (kept.Local x v below) = below ≡ l.top x
  Links l (kept.Waits j) = Unit {0}

  abbrev pub LinkedOn : Lay → List (Kept J) → Type 0
  LinkedOn l [] = Unit {0}
  LinkedOn l (c ∷ cs) = Links l c × LinkedOn (lays l c) cs

  pub record IsLinked (cs : List (Kept J)) (b : ℕ) (ts : List ℕ) : Type 0 where
    pub cells : LinkedOn start cs
    pub base : b ≡ (laid cs).base
    pub tops : (x : ℕ) → get_or ts x 0 ≡ (laid cs).top x

  abbrev pub local_at : Option (Kept J) → Option Value
  local_at None = None
  local_at (Some (kept.Entered below)) = None
  local_at (Some (kept.Local x v below)) = Some v
  local_at (Some (kept.Waits j)) = None

  abbrev pub is_local : Option (Kept J) → Bool
  is_local None = false
  is_local (Some (kept.Entered below)) = false
  is_local (Some (kept.Local x v below)) = true
  is_local (Some (kept.Waits j)) = false

  -- the cells where this slot, at its place, has another value
  abbrev pub put_slot : ℕ → Value → Option (Kept J) → List (Kept J) → List (Kept J)
  put_slot i v None cs = cs
  put_slot i v (Some (kept.Entered below)) cs = cs
  put_slot i v (Some (kept.Local x u below)) cs = slice_set cs i (kept.Local x v below)
  put_slot i v (Some (kept.Waits j)) cs = cs
