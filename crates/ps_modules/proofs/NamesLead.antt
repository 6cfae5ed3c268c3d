-- A name of an interface leads to a list, or to a name that is not defined or was seen.
-- For: exports_of, followed
use Rattle.std.proofs.Common.{◌≡◌, ℕ, zero, suc, ◌+◌, ◌-◌, ◌<◌, ◌≤◌, List, [], ◌∷◌, ◌++◌, length, Bool, true, Some, None, Result, Ok, Err, sym, ap, subst, ◌∙◌, arith, if◌then◌else◌, MatchResult}
use Rattle.std.specs.Prelude.{is_some}
use Rattle.ps_base.specs.declared.faults.Place.{Place}
use Rattle.ps_base.specs.declared.names.Name.{Name}
use Rattle.ps_modules.specs.declared.shapes.Broken.{Broken}
use Rattle.ps_modules.specs.declared.shapes.Broken.TheVariants as broken
use Rattle.ps_modules.specs.declared.shapes.Definition.{Definition}
use Rattle.ps_modules.specs.declared.shapes.Interface.{Interface}
use Rattle.ps_modules.specs.declared.shapes.Interface.TheVariants as interfaces
use Rattle.ps_modules.specs.declared.types.Export.{Export}
use Rattle.ps_modules.specs.InsideShapes.{Says}
use Rattle.ps_modules.specs.Shapes.{Shaped}
use Rattle.ps_modules.specs.Texts.{place_in, interface_of, looked_up, resolved}
use Rattle.ps_modules.proofs.Gathering.{okay}

module _ (definitions : List Definition) (seen : List ℕ) (name : Name) (place : Place) where
  abbrev goes : ℕ → Interface → Shaped (List Export)
  goes n = λ i. resolved definitions n (seen ++ name.0 ∷ []) i

  abbrev by_seen : ℕ → Bool → Shaped (List Export)
  by_seen n b = if b then Err place else looked_up place (interface_of definitions name) (goes n)

  -- the name was seen
  pub was_seen : (b : Bool) → b ≡ is_some (place_in seen name.0) → b ≡ true → (n : ℕ) → Says (resolved definitions (suc n) seen (interfaces.Named name place)) (Err (broken.At place))
  was_seen b is holds n = ap (by_seen n) (sym is ∙ holds)

  module _ (new : place_in seen name.0 ≡ None) where
    not_seen : (n : ℕ) → resolved definitions (suc n) seen (interfaces.Named name place) ≡ looked_up place (interface_of definitions name) (goes n)
    not_seen n = ap (λ p. by_seen n (is_some p)) new

    -- it is not defined
    pub not_defined : interface_of definitions name ≡ None → (n : ℕ) → Says (resolved definitions (suc n) seen (interfaces.Named name place)) (Err (broken.At place))
    not_defined none n = not_seen n ∙ ap (λ i. looked_up place i (goes n)) none

    -- it is
    pub goes_on_to : (i : Interface) (later : List ℕ) → interface_of definitions name ≡ Some i → later ≡ seen ++ name.0 ∷ []
        → (n : ℕ) → resolved definitions (suc n) seen (interfaces.Named name place) ≡ resolved definitions n later i
    goes_on_to i later is more n = not_seen n ∙ ap (λ o. looked_up place o (goes n)) is ∙ ap (λ ss. resolved definitions n ss i) (sym more)

-- ---- the steps on the way

-- after i steps the way has come to this interface
pub record LeadsSo (definitions : List Definition) (first : Interface) (seen : List ℕ) (at : Interface) (i : ℕ) : Type 0 where
  pub is : resolved definitions (length definitions) [] first ≡ resolved definitions (length definitions - i) seen at

pub leads_from : (definitions : List Definition) (first : Interface) (seen : List ℕ) → seen ≡ [] → LeadsSo definitions first seen first 0
leads_from definitions first seen e = let all : length definitions ≡ length definitions - 0 = omega arith in
    record { is = ap (λ ss. resolved definitions (length definitions) ss first) (sym e) ∙ ap (λ (n : ℕ). resolved definitions n seen first) all }

module _ (definitions : List Definition) (first : Interface) (seen : List ℕ) (at : Interface) (i : ℕ) (so : LeadsSo definitions first seen at i) where
  listed_by : (n : ℕ) (exports : List Export) → at ≡ interfaces.Listed exports → resolved definitions n seen at ≡ Ok exports
  listed_by zero exports e = ap (resolved definitions zero seen) e
  listed_by (suc n) exports e = ap (resolved definitions (suc n) seen) e

  -- it is a list
  pub leads_to_list : (exports : List Export) → at ≡ interfaces.Listed exports → (copied : Result (List Export) Broken) → Says (Ok exports) copied → Says (resolved definitions (length definitions) [] first) copied
  leads_to_list exports e copied h = subst (λ r. Says r copied) (sym (so.is ∙ listed_by (length definitions - i) exports e)) h

  module _ (name : Name) (place : Place) (e : at ≡ interfaces.Named name place) where
    module _ (lt : i < length definitions) where
      one_more : length definitions - i ≡ suc (length definitions - (i + 1))
      one_more = omega arith

      now : resolved definitions (length definitions) [] first ≡ resolved definitions (suc (length definitions - (i + 1))) seen (interfaces.Named name place)
      now = so.is ∙ ap (resolved definitions (length definitions - i) seen) e ∙ ap (λ n. resolved definitions n seen (interfaces.Named name place)) one_more

      pub leads_on : (later : List ℕ) (next : Interface) → ((n : ℕ) → resolved definitions (suc n) seen (interfaces.Named name place) ≡ resolved definitions n later next) → LeadsSo definitions first later next (i + 1)
      leads_on later next h = record { is = now ∙ h (length definitions - (i + 1)) }

      pub leads_nowhere : (b : Broken) → ((n : ℕ) → Says (resolved definitions (suc n) seen (interfaces.Named name place)) (Err b)) → Says (resolved definitions (length definitions) [] first) (Err b)
      leads_nowhere b h = subst (λ r. Says r (Err b)) (sym now) (h (length definitions - (i + 1)))

    -- as many names as there are were followed
    pub leads_too_far : length definitions ≤ i → resolved definitions (length definitions) [] first ≡ Err place
    leads_too_far past = let none_more : length definitions - i ≡ zero = omega arith in
        so.is ∙ ap (resolved definitions (length definitions - i) seen) e ∙ ap (λ n. resolved definitions n seen (interfaces.Named name place)) none_more

-- ---- a copy of a list

pub listed_says : (exports : List Export) (r : Result (List Export) Broken) → MatchResult r (λ copy. copy ≡ exports) (λ e. e ≡ broken.NoMemory) → Says (Ok exports) r
listed_says exports (Ok copy) h = ap (λ (xs : List Export). okay xs) (sym h)
listed_says exports (Err e) h = subst (λ b. Says (okay exports) (Err b)) (sym h) tt
