-- In a turn of an ellipsis, variables stand for what is one ellipsis less deep.
-- For: turns_shaped
use Rattle.std.proofs.Common.{◌≡◌, ℕ, zero, suc, ◌<◌, List, [], ◌∷◌, length, refl, arith}
use Rattle.std.specs.List.{AllByRecursion}
use Rattle.ps_pattern.specs.declared.bound.Bound.{Bound, out-Bound}
use Rattle.ps_pattern.specs.declared.bound.Bound.TheOpen as b
use Rattle.ps_pattern.specs.Meaning.{nth_bound}
use Rattle.ps_pattern.specs.Filling.{items_in, turned_in}
use Rattle.ps_pattern.specs.Shapes.{Shaped, IsOne, IsMany, TurnsAreShaped, FormsStay, VariablesHaveForms}
use Rattle.ps_pattern.proofs.Shapes.{nth_shaped}

nth_all : (P : Bound → Type 0) (xs : List Bound) (i : ℕ) → AllByRecursion P xs → i < length xs → P (nth_bound i xs)
nth_all P [] i a lt = absurd (omega arith)
nth_all P (x ∷ xs) zero a lt = a.0
nth_all P (x ∷ xs) (suc i) a lt = nth_all P xs i a.1 (omega arith)

turn : (P : Bound → Type 0) (x : Bound) (y : b.Bound-F Bound) (i : ℕ) → IsMany P y → i < length (items_in y) → P (turned_in i x y)
turn P x (b.One f) i a lt = absurd a
turn P x (b.Many xs) i a lt = nth_all P xs i a lt

pub turns_are_shaped : TurnsAreShaped
turns_are_shaped d i x a lt = turn (Shaped d) x (out-Bound x) i a lt

stays : (x : Bound) (y : b.Bound-F Bound) (i : ℕ) → IsOne y → turned_in i x y ≡ x
stays x (b.One f) i a = refl
stays x (b.Many xs) i a = absurd a

pub forms_stay : FormsStay
forms_stay i x a = stays x (out-Bound x) i a

pub variables_have_forms : VariablesHaveForms
variables_have_forms ds binds v a e = nth_shaped ds binds v 0 a e
