-- What a pattern's variables stand for is as deep as they are.
use Rattle.std.specs.Prelude.{◌≡◌, ◌<◌, ⊤, ℕ, zero, suc, true, slice_get, length, List, [], ◌∷◌, Some}
use Rattle.std.specs.List.{AllByRecursion}
use Rattle.ps_pattern.specs.declared.bound.Bound.{Bound, out-Bound}
use Rattle.ps_pattern.specs.declared.bound.Bound.TheOpen as b
use Rattle.ps_pattern.specs.declared.syntax.Syntax.{Syntax}
use Rattle.ps_pattern.specs.declared.rules.Pattern.{Pattern}
use Rattle.ps_pattern.specs.Matching.{Binds, Literals, matched}
use Rattle.ps_pattern.specs.Meaning.{nth_bound}
use Rattle.ps_pattern.specs.Filling.{items_of, turned}
use Rattle.ps_pattern.specs.Fitting.{extent}

abbrev pub IsOne : b.Bound-F Bound → Type 0
IsOne (b.One f) = ⊤
IsOne (b.Many xs) = ⊥

abbrev pub IsMany : (Bound → Type 0) → b.Bound-F Bound → Type 0
IsMany P (b.One f) = ⊥
IsMany P (b.Many xs) = AllByRecursion P xs

-- a form, or under so many ellipses such lists of forms
abbrev pub Shaped : ℕ → Bound → Type 0
Shaped zero x = IsOne (out-Bound x)
Shaped (suc d) x = IsMany (Shaped d) (out-Bound x)

abbrev pub AllShaped : List ℕ → Binds → Type 0
AllShaped [] [] = ⊤
AllShaped [] (x ∷ xs) = ⊥
AllShaped (d ∷ ds) [] = ⊥
AllShaped (d ∷ ds) (x ∷ xs) = Shaped d x × AllShaped ds xs

-- what a pattern's variables stand for has their depths
abbrev pub MatchesAreShaped : Type 0
MatchesAreShaped = (same : Literals) (p : Pattern) (g : Syntax) (binds : Binds)
    → (extent p).told ≡ true → matched same p g ≡ Some binds → AllShaped (extent p).depths binds

-- in a turn of an ellipsis, what stood for a list stands for one of its items, and is one ellipsis less deep
abbrev pub TurnsAreShaped : Type 0
TurnsAreShaped = (d i : ℕ) (x : Bound) → Shaped (suc d) x → i < length (items_of x) → Shaped d (turned i x)

-- and what stood for a form stands for it in each turn
abbrev pub FormsStay : Type 0
FormsStay = (i : ℕ) (x : Bound) → Shaped 0 x → turned i x ≡ x

abbrev pub VariablesHaveForms : Type 0
VariablesHaveForms = (ds : List ℕ) (binds : Binds) (v : ℕ)
    → AllShaped ds binds → slice_get ds v ≡ Some 0 → IsOne (out-Bound (nth_bound v binds))
