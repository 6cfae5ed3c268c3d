-- What is right of a mark of a text, and what the marks of a text say together (this project's own where no section of R5RS is
-- named).
--
-- Read `IsRightText` last: a line for each rule. What a mark must keep by itself stands above it, a function for each rule.
use Rattle.std.specs.Prelude.{◌≡◌, ℕ, suc, ◌≤◌, nat_lt, nat_le, ℤ, pos, negsuc, Bool, true, false, not, ◌&&◌, ◌||◌, ◌==◌, List, [], ◌∷◌}
use Rattle.std.specs.Prelude.{length, Some, slice_get}
use Rattle.std.specs.List.{flat_map, list_all}
use Rattle.std.specs.Ordering.{int_eq}
use Rattle.ps_prims.specs.Sorts.{first_order}
use Rattle.ps_prims.specs.Rows.{row}
use Rattle.ps_prims.specs.Kinds.{is_there}
use Rattle.ps_kernel.specs.declared.expr.CaseKind.{CaseKind}
use Rattle.ps_kernel.specs.declared.expr.CaseKind.TheVariants as cases
use Rattle.ps_kernel.specs.declared.expr.Labelled.{Labelled}
use Rattle.ps_kernel.specs.declared.kernel.Kernel.{Kernel}
use Rattle.ps_kernel.specs.declared.kernel.Form.{Form}
use Rattle.ps_kernel.specs.declared.kernel.Form.TheVariants.{Define, Do}
use Rattle.ps_kernel.specs.declared.kernel.Lambda.{Lambda}
use Rattle.ps_kernel.specs.Most.{most_nodes, most_labels}
use Rattle.ps_prims.specs.Once.{AtMostOnce, EachOnce}
use Rattle.ps_kernel.specs.Lists.{stands_in}
use Rattle.ps_kernel.specs.Texts.{standing, bound, assigned, entries, text}
use Rattle.ps_kernel.specs.Marks.{Mark, Node, TooDeep, Mentions, Sets, Reads, Assigns, Quotes, Sequence, Replaces, Performs, Chooses}
use Rattle.ps_kernel.specs.Marks.{labels_of}

-- ---- cases

-- the labels of all branches, in order
abbrev pub labels_in : List Labelled → List ℤ
labels_in bs = flat_map labels_of bs

-- a label of characters is the code of one
abbrev pub is_label : CaseKind → ℤ → Bool
is_label cases.Integer l = true
is_label cases.Char (pos n) = nat_lt n 256
is_label cases.Char (negsuc n) = false

abbrev pub is_branch : CaseKind → Labelled → Bool
is_branch kind b = nat_lt 0 (length (labels_of b)) && list_all (is_label kind) (labels_of b)

abbrev pub is_among : ℤ → List ℤ → Bool
is_among l [] = false
is_among l (m ∷ ls) = int_eq l m || is_among l ls

-- no label stands at two places
abbrev pub differ : List ℤ → Bool
differ [] = true
differ (l ∷ ls) = not (is_among l ls) && differ ls

-- there is a branch, each has labels of the kind, and all labels differ and are not too many
abbrev pub are_branches : CaseKind → List Labelled → Bool
are_branches kind bs =
    nat_lt 0 (length bs)
    && (list_all (is_branch kind) bs && (nat_le (length (labels_in bs)) most_labels && differ (labels_in bs)))

-- ---- a mark alone

module _ (k : Kernel) where
  -- what it names by a number is there
  abbrev pub has_number : Mark → Bool
  has_number (Reads at g) = nat_lt g (length k.definitions)
  has_number (Assigns at g) = nat_lt g (length k.definitions)
  has_number (Quotes at q) = nat_lt q (length k.literals)
  has_number (Performs at p n) = is_there k.kinds p
  has_number m = true

  abbrev pub has_operands : Mark → Bool
  has_operands (Performs at p n) = n == length (row first_order k.kinds p).operands
  has_operands m = true

abbrev pub has_parts : Mark → Bool
has_parts (Sequence n) = nat_lt 0 n
has_parts m = true

abbrev pub has_labels : Mark → Bool
has_labels (Chooses kind bs) = are_branches kind bs
has_labels m = true

abbrev pub has_tail : Mark → Bool
has_tail (Replaces tail) = tail
has_tail m = true

abbrev pub has_level : Mark → Bool
has_level TooDeep = false
has_level m = true

-- a local that is mentioned or assigned is in scope (R5RS 3.1)
abbrev pub is_in_scope : Mark → Bool
is_in_scope (Mentions x scope) = stands_in x scope
is_in_scope (Sets x scope) = stands_in x scope
is_in_scope m = true

-- ---- marks together

-- how many expressions there are
abbrev pub nodes : List Mark → ℕ
nodes [] = 0
nodes (Node at ∷ ms) = suc (nodes ms)
nodes (m ∷ ms) = nodes ms

-- no local of the one list stands in the other
pub record Apart (xs ys : List ℕ) : Type 0 where
  pub apart : (x : ℕ) → stands_in x xs ≡ true → stands_in x ys ≡ false

-- the rules of the text of a kernel, by its marks
pub record IsRightText (k : Kernel) (ms : List Mark) : Type 0 where
  -- a definition, a literal, a kind or a field that is named by its number is there
  pub numbers : list_all (has_number k) ms ≡ true
  -- a primitive has its row's number of operands
  pub operands : list_all (has_operands k) ms ≡ true
  -- a sequence has at least one part (R5RS 4.2.3)
  pub parts : list_all has_parts ms ≡ true
  -- a case has from 1 to 1,023 labels, all different, and one or more in each branch
  pub labels : list_all has_labels ms ≡ true
  -- a proper call stands in tail position of a lambda (R5RS 3.5)
  pub tails : list_all has_tail ms ≡ true
  -- each lambda stands at one place, and is reached from the forms
  pub lambdas : EachOnce (length k.lambdas) (standing ms)
  -- each local is bound at one place at most
  pub bound_once : AtMostOnce (bound ms)
  -- each local that is mentioned or assigned is in scope there (R5RS 3.1)
  pub in_scope : list_all is_in_scope ms ≡ true
  -- none is assigned that a letrec binds
  pub entries_stay : Apart (assigned ms) (entries ms)
  pub size : nodes ms ≤ most_nodes
  pub depth : list_all has_level ms ≡ true

-- the definitions that have forms
abbrev pub defined : List Form → List ℕ
defined [] = []
defined (Define g e ∷ fs) = g ∷ defined fs
defined (Do e ∷ fs) = defined fs

-- no local is assigned that the procedure of a lambda keeps
abbrev pub CapturedStay : Kernel → Type 0
CapturedStay k = (l : ℕ) (m : Lambda) → slice_get k.lambdas l ≡ Some m → Apart (assigned (text k)) m.captured
