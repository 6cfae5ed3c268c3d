-- The entries of the letrecs of texts, read off their marks. No public clause cites this file.
--
-- Read `Tells k n e old new` as: new is old with the entries of the expression e behind it, where e is read to n levels, in
-- tail position or not, and whatever is in scope.
use Rattle.std.specs.Prelude.{◌≡◌, ℕ, ◌==◌, Bool, List, [], ◌∷◌, ◌++◌, Option, Some, None, if◌then◌else◌}
use Rattle.ps_base.specs.declared.faults.Place.{Place}
use Rattle.ps_kernel.specs.declared.expr.Expr.{Expr}
use Rattle.ps_kernel.specs.declared.expr.GroupEntry.{GroupEntry}
use Rattle.ps_kernel.specs.declared.expr.Labelled.{Labelled}
use Rattle.ps_kernel.specs.declared.kernel.Kernel.{Kernel}
use Rattle.ps_kernel.specs.Marks.{Mark, BindsEntry, Whole, choice_of, marks, lambda_marks, group_marks}

-- the entries among marks
abbrev pub told : List Mark → List GroupEntry
told [] = []
told (BindsEntry e ∷ ms) = e ∷ told ms
told (m ∷ ms) = told ms

-- the first entry of a local
abbrev pub entry_among : ℕ → List GroupEntry → Option GroupEntry
entry_among x [] = None
entry_among x (e ∷ es) = if x == e.local then Some e else entry_among x es

-- what is told of these marks is added
abbrev pub Adds : List Mark → List GroupEntry → List GroupEntry → Type 0
Adds ms old new = new ≡ old ++ told ms

abbrev pub Tells : Kernel → ℕ → Expr → List GroupEntry → List GroupEntry → Type 0
Tells k n e old new = (tail : Bool) (scope : List ℕ) → Adds (marks k n tail scope (Whole e)) old new

-- the same of expressions in order
abbrev pub TellsEach : Kernel → ℕ → List Expr → List GroupEntry → List GroupEntry → Type 0
TellsEach k n [] old new = new ≡ old
TellsEach k n (e ∷ es) old new = (ts : List GroupEntry) × Tells k n e old ts × TellsEach k n es ts new

-- the same of the branches of a case and its last expression
abbrev pub TellsBranches : Kernel → ℕ → List Labelled → Expr → List GroupEntry → List GroupEntry → Type 0
TellsBranches k n bs e old new = (at : Place) (tail : Bool) (scope : List ℕ) → Adds (marks k n tail scope (choice_of at bs e)) old new

-- the same of a lambda that stands in a group, and of some lambdas of a group
abbrev pub TellsLambda : Kernel → ℕ → List GroupEntry → ℕ → List GroupEntry → List GroupEntry → Type 0
TellsLambda k n g l old new = (scope : List ℕ) → Adds (lambda_marks k (marks k n) scope g l) old new

abbrev pub TellsGroup : Kernel → ℕ → List GroupEntry → List GroupEntry → List GroupEntry → List GroupEntry → Type 0
TellsGroup k n g es old new = (scope : List ℕ) → Adds (group_marks k (marks k n) scope g es) old new
