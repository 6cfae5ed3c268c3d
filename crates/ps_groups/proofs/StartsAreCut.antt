-- The places where parts begin, as the last ones are taken off.
-- For: `contract` and `leave_part`
use Rattle.std.proofs.Common.{◌≡◌, ℕ, ◌<◌, ◌≤◌, List, [], ◌∷◌, ◌++◌, Option, Some, None, sym, ap, ◌∙◌, subst, ⊎_elim, arith}
use Rattle.std.specs.Prelude.{MatchOption, OnOk, Result, Ok, Err}
use Rattle.ps_kernel.specs.Lists.{Among}
use Rattle.ps_groups.specs.declared.search.Search.{Search}
use Rattle.ps_groups.specs.InsideSearch.{Climbs, last_of, Contracting, Contracted, Closes, LeavesPart}
use Rattle.ps_groups.proofs.ListsByPlace.{among_left, among_pushed, climbs_front, climbs_last, none_last, front_of, last_pushed}

pub on_ok : {E : Type 0} {P Q : Type 0} (r : Result (Unit {0}) E) → (P → Q) → OnOk r P → OnOk r Q
on_ok (Ok x) f h = f h
on_ok (Err e) f h = h

module _ (place : ℕ) (old now : Search) (h : Contracting place old now) where
  starts_are : now.starts ≡ h.starts
  starts_are = ap (λ (s : Search). s.starts) h.is

  below_last : (x : ℕ) → Some x ≡ last_of now.starts → (y : ℕ) → Among y now.starts → y ≤ x
  below_last x is y on =
      let f = front_of now.starts x (sym is) in
      let c : Climbs 0 (f.0 ++ x ∷ []) = subst (Climbs 0) (sym starts_are ∙ f.1) h.climbs in
      ⊎_elim
      (λ (a : Among y f.0). (let lt = climbs_last 0 f.0 x c y a in omega arith))
      (λ (a : y ≡ x). omega arith)
      (among_pushed f.0 x y (subst (Among y) f.1 on))

  pub contracted : (x : ℕ) → Some x ≡ last_of now.starts → x ≤ place → Contracted place old now
  contracted x is le = record {
    starts = h.starts;
    is = h.is;
    climbs = h.climbs;
    kept = λ y on. (h.kept y on, (let low = below_last x is y (subst (Among y) (sym starts_are) on) in omega arith));
    keeps = h.keeps;
  }

  pub contracted_all : None ≡ last_of now.starts → Contracted place old now
  contracted_all is =
      let none : h.starts ≡ [] = sym starts_are ∙ none_last now.starts (sym is) in
      record {
        starts = h.starts;
        is = h.is;
        climbs = h.climbs;
        kept = λ y on. (let gone : Among y [] = subst (Among y) none on in absurd gone);
        keeps = h.keeps;
      }

  one_less : (rest : List ℕ) (y : ℕ) → now.starts ≡ rest ++ y ∷ [] → place < y → Contracting place old (record now { starts = rest })
  one_less rest y is over =
      let whole : h.starts ≡ rest ++ y ∷ [] = sym starts_are ∙ is in
      record {
        starts = rest;
        is = ap (λ (s : Search). record s { starts = rest }) h.is;
        climbs = climbs_front 0 rest y (subst (Climbs 0) whole h.climbs);
        kept = λ x on. h.kept x (subst (Among x) (sym whole) (among_left rest (y ∷ []) x on));
        keeps = λ x on le. ⊎_elim
            (λ (a : Among x rest). a)
            (λ (a : x ≡ y). absurd (omega arith))
            (among_pushed rest y x (subst (Among x) whole (h.keeps x on le)));
      }

  pub contracting : (x : ℕ) → Some x ≡ last_of now.starts → place < x → (o : Option ℕ) (rest : List ℕ)
      → MatchOption o ((now.starts ≡ []) × (rest ≡ [])) (λ y. now.starts ≡ rest ++ y ∷ []) → Contracting place old (record now { starts = rest })
  contracting x is over None rest m = let clash : Some x ≡ None = is ∙ ap last_of m.0 in absurd cc
  contracting x is over (Some y) rest m =
      let e : Some x ≡ Some y = is ∙ ap last_of m ∙ last_pushed rest y in
      let same : x ≡ y = cc in one_less rest y m (omega arith)

pub left_part : (place : ℕ) (old new : Search) (o : Option ℕ) (rest : List ℕ) → last_of old.starts ≡ Some place
    → MatchOption o ((old.starts ≡ []) × (rest ≡ [])) (λ y. old.starts ≡ rest ++ y ∷ [])
    → Closes place (record old { starts = rest }) new → LeavesPart place old new
left_part place old new None rest is m h = let clash : Some place ≡ None = sym is ∙ ap last_of m.0 in absurd cc
left_part place old new (Some y) rest is m h =
    let e : Some place ≡ Some y = sym is ∙ ap last_of m ∙ last_pushed rest y in
    let same : place ≡ y = cc in
    record { front = rest; is = m ∙ ap (λ z. rest ++ z ∷ []) (sym same); closes = h }
