-- What the set of `first_fixed_set` tells: which locals are fixed.
-- For: `first_fixed_set`
use Rattle.std.proofs.Common.{◌≡◌, ℕ, Bool, true, false, List, [], ◌∷◌, None, refl, sym, ap, ◌∙◌}
use Rattle.std.specs.Prelude.{◌||◌, ◌&&◌, not}
use Rattle.std.specs.List.{fold, list_any}
use Rattle.ps_base.specs.declared.faults.Place.{Place}
use Rattle.ps_kernel.specs.declared.expr.Expr.{Expr, out-Expr}
use Rattle.ps_kernel.specs.declared.kernel.Lambda.{Lambda}
use Rattle.ps_kernel.specs.Lists.{stands_in}
use Rattle.ps_kernel.specs.Marks.{Mark}
use Rattle.ps_kernel.specs.Texts.{named, bound, standing, lambda_text}
use Rattle.ps_captured.specs.FixedSets.{of_lambdas, text_of, is_free, is_fixed, first_set, fixed_set}
use Rattle.ps_captured.specs.InsideReading.{Sight, Stood, Bound, Entered, Mentioned, Assigned, seen_in, stood_there, is_assigned, sights_of, sights_of_form}
use Rattle.ps_captured.specs.InsideTables.{with_bound, with_entered, with_all_free, with_kept, first_among}
use Rattle.ps_captured.proofs.MarksAreSeen.{bounds, enters, names, stands, firsts, holds_bound, holds_entered, holds_free, none_assigned}
use Rattle.ps_captured.proofs.ReadingsSeeMarks.{sees_lambda, sees_form}

-- what is put in a set of a text's free locals
pub holds_all_free : (y : ℕ) (xs : List ℕ) (here : Place) (ms : List Mark) → stands_in y (with_all_free xs (seen_in here ms)) ≡ (stands_in y xs || (stands_in y (named ms) && not (stands_in y (bound ms))))
holds_all_free y xs here ms =
    holds_free y (fold with_bound [] (seen_in here ms)) xs (seen_in here ms)
    ∙ ap (λ (zs : List ℕ). stands_in y xs || (stands_in y zs && not (stands_in y (fold with_bound [] (seen_in here ms))))) (names here ms)
    ∙ ap (λ (b : Bool). stands_in y xs || (stands_in y (named ms) && not b)) (holds_bound y [] (seen_in here ms) ∙ ap (stands_in y) (bounds here ms))

-- the free locals of a lambda
pub holds_lambda : (y : ℕ) (xs : List ℕ) (here : Place) (ms : List Lambda) (l : ℕ) → stands_in y (with_all_free xs (sights_of ms l)) ≡ (stands_in y xs || is_free ms y l)
holds_lambda y xs here ms l = ap (λ (ss : List Sight). stands_in y (with_all_free xs ss)) (sees_lambda (of_lambdas ms) here l) ∙ holds_all_free y xs here (lambda_text (of_lambdas ms) l)

or_none : (b : Bool) → b ≡ (b || false)
or_none true = refl
or_none false = refl

or_three : (a b c : Bool) → ((a || b) || c) ≡ (a || (b || c))
or_three true b c = refl
or_three false b c = refl

-- those of the lambdas that stand in a text
holds_kept : (y : ℕ) (here : Place) (ms : List Lambda) (xs : List ℕ) (ss : List Sight) → stands_in y (fold (with_kept ms) xs ss) ≡ (stands_in y xs || list_any (is_free ms y) (stood_there ss))
holds_kept y here ms xs [] = or_none (stands_in y xs)
holds_kept y here ms xs (Stood l g ∷ ss) =
    holds_kept y here ms (with_all_free xs (sights_of ms l)) ss ∙ ap (λ (b : Bool). b || list_any (is_free ms y) (stood_there ss)) (holds_lambda y xs here ms l) ∙ or_three (stands_in y xs) (is_free ms y l) (list_any (is_free ms y) (stood_there ss))
holds_kept y here ms xs (Bound x ∷ ss) = holds_kept y here ms xs ss
holds_kept y here ms xs (Entered x ∷ ss) = holds_kept y here ms xs ss
holds_kept y here ms xs (Mentioned x ∷ ss) = holds_kept y here ms xs ss
holds_kept y here ms xs (Assigned at x ∷ ss) = holds_kept y here ms xs ss

-- the fixed locals of a text
abbrev pub fixed_in : List Lambda → List Sight → List ℕ
fixed_in ms ss = fold (with_kept ms) (fold with_entered [] ss) ss

holds_fixed : (y : ℕ) (here : Place) (ms : List Lambda) (text : List Mark) → stands_in y (fixed_in ms (seen_in here text)) ≡ is_fixed ms text y
holds_fixed y here ms text =
    holds_kept y here ms (fold with_entered [] (seen_in here text)) (seen_in here text)
    ∙ ap (λ (ls : List ℕ). stands_in y (fold with_entered [] (seen_in here text)) || list_any (is_free ms y) ls) (stands here text)
    ∙ ap (λ (b : Bool). b || list_any (is_free ms y) (standing text)) (holds_entered y [] (seen_in here text) ∙ ap (stands_in y) (enters here text))

-- the first assignment of a fixed local is the answer
pub tells : (ms : List Lambda) (e : Expr) → first_among (fixed_in ms (sights_of_form ms e)) (sights_of_form ms e) ≡ fixed_set ms e
tells ms e =
    let here = (out-Expr e).place in
    let text = text_of ms e in
    ap (λ (ss : List Sight). first_among (fixed_in ms ss) ss) (sees_form ms e here)
    ∙ firsts (fixed_in ms (seen_in here text)) here text
    ∙ ap (λ (holds : ℕ → Bool). first_set holds here text) (λ i y. holds_fixed y here ms text i)

pub tells_none : (ms : List Lambda) (e : Expr) → list_any is_assigned (sights_of_form ms e) ≡ false → None ≡ fixed_set ms e
tells_none ms e h = sym (none_assigned (fixed_in ms (sights_of_form ms e)) (sights_of_form ms e) h) ∙ tells ms e
