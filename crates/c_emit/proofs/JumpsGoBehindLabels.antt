-- Labels that stand before a place, and where a jump goes on.
-- For: build
use Rattle.std.proofs.Common.{◌≡◌, ℕ, ◌<◌, ◌≤◌, true, false, List, [], ◌∷◌, ◌++◌, Some, refl, ap, ◌∙◌, arith}
use Rattle.std.specs.Prelude.{if◌then◌else◌}
use Rattle.std.specs.List.{AllByRecursion}
use Rattle.c_ast.specs.declared.unit.Statement.{Statement}
use Rattle.c_ast.specs.declared.unit.Statement.TheVariants as statements
use Rattle.c_meaning.specs.Machine.{is_label, after_label}

pub all-append : (P : Statement → Type 0) (xs ys : List Statement) → AllByRecursion P xs → AllByRecursion P ys → AllByRecursion P (xs ++ ys)
all-append P [] ys h k = k
all-append P (x ∷ xs) ys h k = (h.0, all-append P xs ys h.1 k)

pub all-weaker : (P Q : Statement → Type 0) → ((s : Statement) → P s → Q s) → (xs : List Statement) → AllByRecursion P xs → AllByRecursion Q xs
all-weaker P Q f [] h = tt
all-weaker P Q f (x ∷ xs) h = (f x h.0, all-weaker P Q f xs h.1)

-- the statement is no label from l on
abbrev pub LabelBelow : ℕ → Statement → Type 0
LabelBelow l (statements.Label n) = n < l
LabelBelow l (statements.Move k a) = Unit {0}
LabelBelow l (statements.Operation k a o b) = Unit {0}
LabelBelow l (statements.Read k) = Unit {0}
LabelBelow l (statements.Write k a) = Unit {0}
LabelBelow l (statements.Call k f vs) = Unit {0}
LabelBelow l (statements.IfGoto a n) = Unit {0}
LabelBelow l (statements.Goto n) = Unit {0}
LabelBelow l (statements.Return a) = Unit {0}

-- no label from l on stands there
abbrev pub LabelsBelow : ℕ → List Statement → Type 0
LabelsBelow l ss = AllByRecursion (LabelBelow l) ss

label-more : (l m : ℕ) → l ≤ m → (s : Statement) → LabelBelow l s → LabelBelow m s
label-more l m le (statements.Label n) h = omega arith
label-more l m le (statements.Move k a) h = tt
label-more l m le (statements.Operation k a o b) h = tt
label-more l m le (statements.Read k) h = tt
label-more l m le (statements.Write k a) h = tt
label-more l m le (statements.Call k f vs) h = tt
label-more l m le (statements.IfGoto a n) h = tt
label-more l m le (statements.Goto n) h = tt
label-more l m le (statements.Return a) h = tt

pub labels-more : (l m : ℕ) (ss : List Statement) → l ≤ m → LabelsBelow l ss → LabelsBelow m ss
labels-more l m ss le h = all-weaker (LabelBelow l) (LabelBelow m) (label-more l m le) ss h

other-label : (n : ℕ) (s : Statement) → LabelBelow n s → is_label n s ≡ false
other-label n (statements.Label m) h = grind (arith, h)
other-label n (statements.Move k a) h = refl
other-label n (statements.Operation k a o b) h = refl
other-label n (statements.Read k) h = refl
other-label n (statements.Write k a) h = refl
other-label n (statements.Call k f vs) h = refl
other-label n (statements.IfGoto a m) h = refl
other-label n (statements.Goto m) h = refl
other-label n (statements.Return a) h = refl

this-label : (n : ℕ) → is_label n (statements.Label n) ≡ true
this-label n = grind arith

-- a jump to the first label of its number goes on behind it
pub jumps-behind : (n : ℕ) (pre post : List Statement) → LabelsBelow n pre → after_label n (pre ++ statements.Label n ∷ post) ≡ Some post
jumps-behind n [] post h = ap (λ b. if b then Some post else after_label n post) (this-label n)
jumps-behind n (s ∷ pre) post h = ap (λ b. if b then Some (pre ++ statements.Label n ∷ post) else after_label n (pre ++ statements.Label n ∷ post)) (other-label n s h.0) ∙ jumps-behind n pre post h.1
