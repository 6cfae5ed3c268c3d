-- How large a kernel is (this project's own): how many expressions its text has, each body of a lambda counted where the
-- lambda stands, and how many levels hold it. A case counts as what it unfolds to (`Unfold`).
use Rattle.std.specs.Prelude.{◌≡◌, ℕ, ◌<◌, Bool, true, false}
use Rattle.std.specs.List.{list_all}
use Rattle.ps_kernel.specs.declared.kernel.Kernel.{Kernel}
use Rattle.ps_kernel.specs.Rules.{has_level, nodes}
use Rattle.ps_kernel.specs.Texts.{form_marks}

-- nothing in the text of a kernel lies below so many levels
abbrev pub is_within : ℕ → Kernel → Bool
is_within n k = list_all has_level (form_marks k n k.forms)

-- the depth of a kernel: the fewest levels that hold its text
pub record HasDepth (k : Kernel) (d : ℕ) : Type 0 where
  pub within : is_within d k ≡ true
  pub least : (n : ℕ) → n < d → is_within n k ≡ false

-- the number of expressions of a kernel, at levels that hold its text
pub record HasNodes (k : Kernel) (m : ℕ) : Type 0 where
  pub levels : ℕ
  pub within : is_within levels k ≡ true
  pub count : nodes (form_marks k levels k.forms) ≡ m
