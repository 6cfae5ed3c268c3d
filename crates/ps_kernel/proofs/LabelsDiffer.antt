-- Where labels stand again, told branch by branch.
-- For: `all_differ`, and by it `valid`
use Rattle.std.proofs.Common.{◌≡◌, ℕ, ℤ, suc, ◌+◌, ◌<◌, Bool, true, false, List, [], ◌∷◌, ◌++◌, length, get_or, drop, drop-cons, refl, sym, ap, ◌∙◌, arith}
use Rattle.std.specs.Prelude.{◌&&◌, ◌||◌, not}
use Rattle.std.specs.Ordering.{int_eq}
use Rattle.ps_kernel.specs.declared.expr.Labelled.{Labelled}
use Rattle.ps_kernel.specs.Marks.{labels_of}
use Rattle.ps_kernel.specs.Rules.{is_among, differ, labels_in}
use Rattle.ps_kernel.specs.InsideWalks.{differ_before}

or_assoc : (a b c : Bool) → ((a || b) || c) ≡ (a || (b || c))
or_assoc true b c = refl
or_assoc false b c = refl

and_assoc : (a b c : Bool) → (a && (b && c)) ≡ ((a && b) && c)
and_assoc true b c = refl
and_assoc false b c = refl

among_append : (l : ℤ) (a b : List ℤ) → is_among l (a ++ b) ≡ (is_among l a || is_among l b)
among_append l [] b = refl
among_append l (m ∷ a) b = ap (λ (x : Bool). int_eq l m || x) (among_append l a b) ∙ sym (or_assoc (int_eq l m) (is_among l a) (is_among l b))

differ_append : (a b : List ℤ) → differ (a ++ b) ≡ (differ_before a b && differ b)
differ_append [] b = refl
differ_append (l ∷ a) b =
    ap (λ (x : Bool). not (is_among l (a ++ b)) && x) (differ_append a b)
    ∙ and_assoc (not (is_among l (a ++ b))) (differ_before a b) (differ b)

-- ---- one label behind another

pub label_again : (l : ℤ) (ls all : List ℤ) (more : List ℤ) (rest : List ℤ) (found : Bool) → rest ≡ l ∷ ls → found ≡ is_among l ls → found ≡ true
    → differ_before rest more ≡ differ_before all more → false ≡ differ_before all more
label_again l ls all more rest found is f t h =
    ap (λ (x : Bool). not (x || is_among l more) && differ_before ls more) (sym t ∙ f)
    ∙ ap (λ (x : Bool). not x && differ_before ls more) (sym (among_append l ls more))
    ∙ sym (ap (λ (xs : List ℤ). differ_before xs more) is) ∙ h

pub label_behind : (l : ℤ) (ls all : List ℤ) (more : List ℤ) (rest : List ℤ) (found behind : Bool) → rest ≡ l ∷ ls → found ≡ is_among l ls → found ≡ false
    → behind ≡ is_among l more → behind ≡ true → differ_before rest more ≡ differ_before all more → false ≡ differ_before all more
label_behind l ls all more rest found behind is f t g u h =
    ap (λ (x : Bool). not x && differ_before ls more) (sym u ∙ g)
    ∙ ap (λ (x : Bool). not (x || is_among l more) && differ_before ls more) (sym t ∙ f)
    ∙ ap (λ (x : Bool). not x && differ_before ls more) (sym (among_append l ls more))
    ∙ sym (ap (λ (xs : List ℤ). differ_before xs more) is) ∙ h

pub label_alone : (l : ℤ) (ls all : List ℤ) (more : List ℤ) (rest : List ℤ) (found behind : Bool) → rest ≡ l ∷ ls → found ≡ is_among l ls → found ≡ false
    → behind ≡ is_among l more → behind ≡ false → differ_before rest more ≡ differ_before all more → differ_before ls more ≡ differ_before all more
label_alone l ls all more rest found behind is f t g u h =
    ap (λ (x : Bool). not x && differ_before ls more) (sym u ∙ g)
    ∙ ap (λ (x : Bool). not (x || is_among l more) && differ_before ls more) (sym t ∙ f)
    ∙ ap (λ (x : Bool). not x && differ_before ls more) (sym (among_append l ls more))
    ∙ sym (ap (λ (xs : List ℤ). differ_before xs more) is) ∙ h

-- ---- one branch behind another

pub branch_again : (b : Labelled) (bs all rest : List Labelled) (right : Bool) → rest ≡ b ∷ bs → right ≡ differ_before (labels_of b) (labels_in bs) → right ≡ false
    → differ (labels_in rest) ≡ differ (labels_in all) → false ≡ differ (labels_in all)
branch_again b bs all rest right is r f h =
    ap (λ (x : Bool). x && differ (labels_in bs)) (sym f ∙ r) ∙ sym (differ_append (labels_of b) (labels_in bs)) ∙ sym (ap (λ (xs : List Labelled). differ (labels_in xs)) is) ∙ h

pub branch_alone : (b : Labelled) (bs all rest : List Labelled) (right : Bool) → rest ≡ b ∷ bs → right ≡ differ_before (labels_of b) (labels_in bs) → right ≡ true
    → differ (labels_in rest) ≡ differ (labels_in all) → differ (labels_in bs) ≡ differ (labels_in all)
branch_alone b bs all rest right is r t h =
    ap (λ (x : Bool). x && differ (labels_in bs)) (sym t ∙ r) ∙ sym (differ_append (labels_of b) (labels_in bs)) ∙ sym (ap (λ (xs : List Labelled). differ (labels_in xs)) is) ∙ h

-- ---- the branches from one on

from_branch : (bs : List Labelled) (i : ℕ) (b : Labelled) → i < length bs → b ≡ get_or bs i b → labels_in (drop i bs) ≡ labels_of b ++ labels_in (drop (i + 1) bs)
from_branch bs i b lt is =
    ap labels_in (drop-cons bs i b lt)
    ∙ ap (λ (d : Labelled). labels_of d ++ labels_in (drop (suc i) bs)) (sym is)
    ∙ ap (λ (j : ℕ). labels_of b ++ labels_in (drop j bs)) (let e : suc i ≡ i + 1 = omega arith in e)

pub stands_there : (l : ℤ) (bs : List Labelled) (i : ℕ) (b : Labelled) (found : Bool) → i < length bs → b ≡ get_or bs i b → found ≡ is_among l (labels_of b) → found ≡ true
    → is_among l (labels_in (drop i bs)) ≡ is_among l (labels_in bs) → true ≡ is_among l (labels_in bs)
stands_there l bs i b found lt is f t h =
    ap (λ (x : Bool). x || is_among l (labels_in (drop (i + 1) bs))) (sym t ∙ f)
    ∙ sym (among_append l (labels_of b) (labels_in (drop (i + 1) bs))) ∙ sym (ap (is_among l) (from_branch bs i b lt is)) ∙ h

pub stands_behind : (l : ℤ) (bs : List Labelled) (i : ℕ) (b : Labelled) (found : Bool) → i < length bs → b ≡ get_or bs i b → found ≡ is_among l (labels_of b) → found ≡ false
    → is_among l (labels_in (drop i bs)) ≡ is_among l (labels_in bs) → is_among l (labels_in (drop (i + 1) bs)) ≡ is_among l (labels_in bs)
stands_behind l bs i b found lt is f t h =
    ap (λ (x : Bool). x || is_among l (labels_in (drop (i + 1) bs))) (sym t ∙ f)
    ∙ sym (among_append l (labels_of b) (labels_in (drop (i + 1) bs))) ∙ sym (ap (is_among l) (from_branch bs i b lt is)) ∙ h
