-- The variables of depth 1 or more in each kind of template, one behind another.
-- For: gather
use Rattle.std.proofs.Common.{◌≡◌, ℕ, zero, suc, ◌+◌, List, [], ◌∷◌, ◌++◌, map, take, ap, sym, ◌∙◌, append_assoc, append-nil, arith, Some, subst}
use Rattle.std.specs.Prelude.{slice_get, Result, OnOk}
use Rattle.std.proofs.lemmas.Simd.{map-map}
use Rattle.ps_pattern.specs.declared.template.Part.{Part}
use Rattle.ps_pattern.specs.declared.template.Template.{Template}
use Rattle.ps_pattern.specs.declared.template.Template.TheVariants as t
use Rattle.ps_pattern.specs.Surveys.{survey_part, deep, deep_in, all_deep}
use Rattle.ps_pattern.proofs.SurveyRows.{survey_list, survey_vector, survey_dotted}
use Rattle.ps_pattern.proofs.Rests.{some_is}

module _ (depths : List ℕ) where
  pub deep_list : (ps : List Part) → deep depths (t.List ps) ≡ all_deep (map (deep_in depths) ps)
  unfolding deep deep_in
  deep_list ps = ap (λ s. s.deep) (survey_list depths ps) ∙ ap all_deep (map-map (λ p. p.deep) (survey_part depths) ps)

  pub deep_vector : (ps : List Part) → deep depths (t.Vector ps) ≡ all_deep (map (deep_in depths) ps)
  unfolding deep deep_in
  deep_vector ps = ap (λ s. s.deep) (survey_vector depths ps) ∙ ap all_deep (map-map (λ p. p.deep) (survey_part depths) ps)

  pub deep_dotted : (ps : List Part) (last : Template) → deep depths (t.Dotted ps last) ≡ all_deep (map (deep_in depths) ps) ++ deep depths last
  unfolding deep deep_in
  deep_dotted ps last = ap (λ s. s.deep) (survey_dotted depths ps last) ∙ ap (λ z. all_deep z ++ deep depths last) (map-map (λ p. p.deep) (survey_part depths) ps)

-- one list more
next : (g : Part → List ℕ) (ps : List Part) (i : ℕ) (p : Part) → slice_get ps i ≡ Some p → all_deep (map g (take (suc i) ps)) ≡ all_deep (map g (take i ps)) ++ g p
next g [] i p e = absurd cc
next g (q ∷ ps) zero p e = append-nil (g q) ∙ ap g (some_is e)
next g (q ∷ ps) (suc i) p e = ap (λ z. g q ++ z) (next g ps i p e) ∙ sym (append_assoc (g q) (all_deep (map g (take i ps))) (g p))

pub one_more : (g : Part → List ℕ) (ps : List Part) (i : ℕ) (p : Part) (start out new : List ℕ) → slice_get ps i ≡ Some p → out ≡ start ++ all_deep (map g (take i ps)) → new ≡ out ++ g p → new ≡ start ++ all_deep (map g (take (i + 1) ps))
one_more g ps i p start out new e inv is =
    let one : i + 1 ≡ suc i = omega arith in
    is ∙ ap (λ z. z ++ g p) inv ∙ append_assoc start (all_deep (map g (take i ps))) (g p) ∙ ap (λ z. start ++ z) (sym (next g ps i p e)) ∙ ap (λ k. start ++ all_deep (map g (take k ps))) (sym one)

pub appended_is : {E : Type 0} (r : Result (Unit {0}) E) (new old a b : List ℕ) → a ≡ b → OnOk r (new ≡ old ++ a) → OnOk r (new ≡ old ++ b)
appended_is r new old a b e h = subst (λ z. OnOk r (new ≡ old ++ z)) e h

pub appended_then : {E : Type 0} (r : Result (Unit {0}) E) (new middle old a b whole : List ℕ) → middle ≡ old ++ a → whole ≡ a ++ b → OnOk r (new ≡ middle ++ b) → OnOk r (new ≡ old ++ whole)
appended_then r new middle old a b whole first is h = subst (λ z. OnOk r (new ≡ z)) (ap (λ z. z ++ b) first ∙ append_assoc old a b ∙ ap (λ z. old ++ z) (sym is)) h
