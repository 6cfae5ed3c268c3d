-- The table of procedures tells the lambda of each definition, where it has one.
-- For: procedures, image_of
use Rattle.std.proofs.Common.{◌≡◌, ℕ, suc, ◌+◌, ◌<◌, ◌≤◌, Bool, true, false, List, [], ◌∷◌, length, drop, get_or, Option, None, refl, sym, ap, ◌∙◌, subst, ⊎_elim, arith}
use Rattle.std.specs.Prelude.{◌⊎◌, ◌==◌, slice_index_or, slice_set, if◌then◌else◌}
use Rattle.std.proofs.lemmas.Bool.{eqb-true, eq-eqb}
use Rattle.std.proofs.lemmas.List.{get_or-set_same, get_or-set_other, get_or_past, length-set}
use Rattle.ps_prims.specs.Once.{times}
use Rattle.ps_kernel.specs.declared.kernel.Form.{Form}
use Rattle.ps_kernel.specs.declared.kernel.Form.TheVariants.{Define, Do}
use Rattle.ps_kernel.specs.declared.kernel.Kernel.{Kernel}
use Rattle.ps_kernel.specs.Rules.{defined}
use Rattle.ps_kernel.specs.Texts.{lambda_in, defined_by, procedure_of}
use Rattle.ps_kernel.specs.Valid.{IsValid}
use Rattle.ps_reify.specs.InsideWork.{Noted, IsTable}
use Rattle.ps_reify.proofs.ListsGoOn.{drop_at}

noted : (n : ℕ) (form : Form) (rest : List Form) (old new : List (Option ℕ)) → IsTable n rest old → Noted form old new → IsTable n (form ∷ rest) new
noted n (Define d e) rest old new t is = record {
  long = ap length is ∙ length-set old d (lambda_in e) ∙ t.long;
  tells = λ g lt. ap (λ xs. slice_index_or xs g None) is ∙ one g lt (g == d) refl;
}
  where
    one : (g : ℕ) → g < n → (c : Bool) → (g == d) ≡ c → slice_index_or (slice_set old d (lambda_in e)) g None ≡ (if c then lambda_in e else defined_by g rest)
    one g lt true i = let same : g ≡ d = eqb-true g d i in ap (λ k. slice_index_or (slice_set old d (lambda_in e)) k None) same ∙ get_or-set_same old d (lambda_in e) None (omega (arith, same, lt, t.long))
    one g lt false i = get_or-set_other old d g (lambda_in e) None (λ same. (let clash : true ≡ false = sym (eq-eqb g d same) ∙ i in cc)) ∙ t.tells g lt
noted n (Do e) rest old new t is = record { long = ap length is ∙ t.long; tells = λ g lt. ap (λ xs. slice_index_or xs g None) is ∙ t.tells g lt }

pub noted_table : (n : ℕ) (fs : List Form) (i j : ℕ) (form : Form) (old new : List (Option ℕ)) → i ≡ j + 1 → j < length fs → form ≡ get_or fs j form → IsTable n (drop i fs) old → Noted form old new → IsTable n (drop j fs) new
noted_table n fs i j form old new next lt is t h =
    let here : form ∷ drop i fs ≡ drop j fs = ap (λ k. form ∷ drop k fs) next ∙ ap (λ f. f ∷ drop (j + 1) fs) is ∙ sym (drop_at fs j form lt) in
    subst (λ gs. IsTable n gs new) here (noted n form (drop i fs) old new t h)

-- no form defines it
none_defined : (g : ℕ) (fs : List Form) → times g (defined fs) ≡ 0 → defined_by g fs ≡ None
none_defined g [] h = refl
none_defined g (Define d e ∷ fs) h = one (g == d) (λ k. none_defined g fs k) h
  where
    one : (c : Bool) → (times g (defined fs) ≡ 0 → defined_by g fs ≡ None) → (if c then suc (times g (defined fs)) else times g (defined fs)) ≡ 0 → (if c then lambda_in e else defined_by g fs) ≡ None
    one true later k = absurd (omega (arith, k))
    one false later k = later k
none_defined g (Do e ∷ fs) h = none_defined g fs h

pub image_table : (k : Kernel) → IsValid k → (n : ℕ) (fs : List Form) (t : List (Option ℕ)) → n ≡ length k.definitions → fs ≡ k.forms → IsTable n fs t → (g : ℕ) → slice_index_or t g None ≡ procedure_of k g
image_table k valid n fs t long is h g =
    ⊎_elim
    (λ (lt : g < n). h.tells g lt ∙ ap (defined_by g) is)
    (λ (le : n ≤ g). get_or_past t g None (omega (arith, le, h.long)) ∙ sym (none_defined g k.forms (valid.definitions.others g (omega (arith, le, long)))))
    (let r : ◌⊎◌ (g < n) (n ≤ g) = grind arith in r)
