-- What is told of texts: of their marks, those that name a local and those where a lambda stands.
--
-- Read `Tells k n e old new` as: new is old with what is told of the expression e behind it, where e is read to n levels, in
-- tail position or not, and whatever is in scope.
use Rattle.std.specs.Prelude.{◌≡◌, ℕ, ◌==◌, Bool, List, [], ◌∷◌, ◌++◌, slice_get, if◌then◌else◌}
use Rattle.ps_base.specs.declared.faults.Place.{Place}
use Rattle.ps_kernel.specs.declared.expr.Expr.{Expr}
use Rattle.ps_kernel.specs.declared.expr.GroupEntry.{GroupEntry}
use Rattle.ps_kernel.specs.declared.expr.Labelled.{Labelled}
use Rattle.ps_kernel.specs.declared.kernel.Kernel.{Kernel}
use Rattle.ps_kernel.specs.Marks.{Mark, Stands, Mentions, Sets, Whole, choice_of, marks, lambda_marks, group_marks}
use Rattle.ps_evaluator.specs.declared.texts.Told.{Told}
use Rattle.ps_evaluator.specs.declared.texts.Told.TheVariants as tale

-- what is told of marks
abbrev pub told : List Mark → List Told
told [] = []
told (Stands l g ∷ ms) = tale.Stands l g ∷ told ms
told (Mentions x scope ∷ ms) = tale.Names x ∷ told ms
told (Sets x scope ∷ ms) = tale.Names x ∷ told ms
told (m ∷ ms) = told ms

-- the locals that are named
abbrev pub names : List Told → List ℕ
names [] = []
names (tale.Names x ∷ ts) = x ∷ names ts
names (tale.Stands l g ∷ ts) = names ts

-- the group in which a lambda stands, or no entries
abbrev pub group_at : ℕ → List Told → List GroupEntry
group_at l [] = []
group_at l (tale.Names x ∷ ts) = group_at l ts
group_at l (tale.Stands n g ∷ ts) = if l == n then g else group_at l ts

-- what is told of these marks is added
abbrev pub Adds : List Mark → List Told → List Told → Type 0
Adds ms old new = new ≡ old ++ told ms

abbrev pub Tells : Kernel → ℕ → Expr → List Told → List Told → Type 0
Tells k n e old new = (tail : Bool) (scope : List ℕ) → Adds (marks k n tail scope (Whole e)) old new

-- the same of expressions in order
abbrev pub TellsEach : Kernel → ℕ → List Expr → List Told → List Told → Type 0
TellsEach k n [] old new = new ≡ old
TellsEach k n (e ∷ es) old new = (ts : List Told) × Tells k n e old ts × TellsEach k n es ts new

-- the same of the branches of a case and its last expression
abbrev pub TellsBranches : Kernel → ℕ → List Labelled → Expr → List Told → List Told → Type 0
TellsBranches k n bs e old new = (at : Place) (tail : Bool) (scope : List ℕ) → Adds (marks k n tail scope (choice_of at bs e)) old new

-- the same of a lambda that stands in a group, and of some lambdas of a group
abbrev pub TellsLambda : Kernel → ℕ → List GroupEntry → ℕ → List Told → List Told → Type 0
TellsLambda k n g l old new = (scope : List ℕ) → Adds (lambda_marks k (marks k n) scope g l) old new

abbrev pub TellsGroup : Kernel → ℕ → List GroupEntry → List GroupEntry → List Told → List Told → Type 0
TellsGroup k n g es old new = (scope : List ℕ) → Adds (group_marks k (marks k n) scope g es) old new
