-- A part that is taken off the stack is a group, and what holds of a search holds then.
-- For: `turn`
use Rattle.std.proofs.Common.{◌≡◌, ℕ, zero, suc, ◌+◌, ◌<◌, ◌≤◌, Bool, true, false, List, [], ◌∷◌, ◌++◌, length, Option, Some, None, slice_get, refl, sym, ap, ◌∙◌, subst, inl, inr, ⊎_elim, arith, set, length-append}
use Rattle.std.specs.Prelude.{◌⊎◌, ◌==◌, ◌||◌}
use Rattle.std.proofs.lemmas.Option.{slice_get_within}
use Rattle.std.proofs.lemmas.List.{length-set}
use Rattle.ps_kernel.specs.Lists.{stands_in, Among}
use Rattle.ps_kernel.proofs.NumbersStandInLists.{or_cases, or_left}
use Rattle.std.proofs.lemmas.Bool.{eqb-true, eq-eqb}
use Rattle.ps_typing.specs.Order.{Mentions, Reaches}
use Rattle.ps_groups.specs.Groups.{row}
use Rattle.ps_groups.specs.declared.search.Mark.{Mark}
use Rattle.ps_groups.specs.declared.search.Mark.TheVariants.{New, Held, Done}
use Rattle.ps_groups.specs.declared.search.Frame.{Frame}
use Rattle.ps_groups.specs.declared.search.Search.{Search}
use Rattle.ps_groups.specs.InsideSearch.{mark_at, Climbs, places, pushed, frame_at, OnePart, Pending, is_seen, Lower, IsSearch, all_done, LeavesPart, Grows}
use Rattle.ps_groups.proofs.ListsByPlace.{get_left, get_front, among_left, among_last, among_pushed, climbs_front, climbs_last}
use Rattle.ps_groups.proofs.SearchesGoOn.{among_places, mark_set, mark_other, same_or, marked_within, held_not_new, at_stands, stands_at, places_of, g}
use Rattle.ps_groups.proofs.SearchesTurn.{lower_or, top, on_stack, others_below}

-- ---- the marks of what is taken off

module _ (c : ℕ) (marks : List Mark) where
  pub all_long : (ds : List ℕ) → length (all_done c ds marks) ≡ length marks
  all_long [] = refl
  all_long (d ∷ ds) = length-set (all_done c ds marks) d (Done c) ∙ all_long ds

  pub done_inside : (ds : List ℕ) (e : ℕ) → e < length marks → stands_in e ds ≡ true → mark_at (all_done c ds marks) e ≡ Done c
  done_inside [] e lt on = absurd cc
  done_inside (d ∷ ds) e lt on = ⊎_elim
      (λ (a : e ≡ d). ap (mark_at (set (all_done c ds marks) d (Done c))) a ∙ mark_set (all_done c ds marks) d (Done c) (omega (arith, all_long ds)))
      (λ (a : e ≡ d → ⊥). mark_other (all_done c ds marks) d e (Done c) a ∙ done_inside ds e lt (later a))
      (same_or d e)
    where
      later : (e ≡ d → ⊥) → stands_in e ds ≡ true
      later ne = ⊎_elim (λ (a : (e == d) ≡ true). absurd (ne (eqb-true e d a))) (λ (a : stands_in e ds ≡ true). a) (or_cases (e == d) (stands_in e ds) on)

  pub same_outside : (ds : List ℕ) (e : ℕ) → stands_in e ds ≡ false → mark_at (all_done c ds marks) e ≡ mark_at marks e
  same_outside [] e off = refl
  same_outside (d ∷ ds) e off = mark_other (all_done c ds marks) d e (Done c) (λ is. (let clash = sym (or_left (e == d) (stands_in e ds) (eq-eqb e d is)) ∙ off in cc))
      ∙ same_outside ds e (rest (e == d) off)
    where
      rest : (b : Bool) → (b || stands_in e ds) ≡ false → stands_in e ds ≡ false
      rest true h = absurd cc
      rest false h = h

get_behind : {A : Type 0} (xs ys : List A) (r : ℕ) (x : A) → slice_get ys r ≡ Some x → slice_get (xs ++ ys) (length xs + r) ≡ Some x
get_behind [] ys r x h = subst (λ z. slice_get ys z ≡ Some x) (omega arith) h
get_behind {A} (z ∷ xs) ys r x h = subst (λ n. slice_get (z ∷ (xs ++ ys)) n ≡ Some x) (shift) (get_behind xs ys r x h)
  where
    shift : suc (length xs + r) ≡ suc (length xs) + r
    shift = omega arith

-- behind the front of a list
get_rest : {A : Type 0} (xs ys : List A) (q : ℕ) (x : A) → length xs ≤ q → slice_get (xs ++ ys) q ≡ Some x → (r : ℕ) × (slice_get ys r ≡ Some x)
get_rest [] ys q x le h = (q, h)
get_rest (z ∷ xs) ys zero x le h = absurd (omega arith)
get_rest (z ∷ xs) ys (suc q) x le h = get_rest xs ys q x (omega arith) h

module _ (rows : List (List ℕ)) (s : Search) (p : ℕ) (h : IsSearch rows None (pushed (frame_at p 0) s)) (t : Search) (l : LeavesPart p s t) where
  abbrev f : Frame
  f = frame_at p 0

  abbrev c : ℕ
  c = length s.order

  abbrev removed : List ℕ
  removed = l.closes.closed.removed

  stack_is : s.stack ≡ t.stack ++ removed
  stack_is = l.closes.closed.stack

  short : length t.stack ≡ p
  short = l.closes.left

  marks_are : (e : ℕ) → mark_at t.marks e ≡ mark_at (all_done c removed s.marks) e
  marks_are e = ap (λ ms. mark_at ms e) l.closes.closed.marks

  in_stack : (q e : ℕ) → slice_get t.stack q ≡ Some e → slice_get s.stack q ≡ Some e
  in_stack q e at = ap (λ z. slice_get z q) stack_is ∙ get_left t.stack removed q e at

  below_p : (q e : ℕ) → slice_get t.stack q ≡ Some e → q < p
  below_p q e at = let lt = slice_get_within t.stack q e at in omega (arith, short)

  -- what is taken off stood in the stack from the place on
  pub record WasHeld (e : ℕ) : Type 0 where
    pub place : ℕ
    pub was : mark_at s.marks e ≡ Held place
    pub from : p ≤ place

  was_held : (e : ℕ) → stands_in e removed ≡ true → WasHeld e
  was_held e on =
      let r = at_stands removed e on in
      let at = ap (λ z. slice_get z (length t.stack + r.at)) stack_is ∙ get_behind t.stack removed r.at e r.there in
      record { place = length t.stack + r.at; was = h.stacked (length t.stack + r.at) e at; from = omega (arith, short) }

  taken : (q e : ℕ) → slice_get s.stack q ≡ Some e → p ≤ q → stands_in e removed ≡ true
  taken q e at le =
      let r = get_rest t.stack removed q e (omega (arith, short)) (ap (λ z. slice_get z q) (sym stack_is) ∙ at) in
      stands_at removed r.0 e r.1

  held_place : (e q r : ℕ) → mark_at s.marks e ≡ Held q → mark_at s.marks e ≡ Held r → q ≡ r
  held_place e q r a b = let same : Held q ≡ Held r = sym a ∙ b in cc

  off_held : (e q : ℕ) → mark_at s.marks e ≡ Held q → q < p → stands_in e removed ≡ false
  off_held e q is lt = go (stands_in e removed) refl
    where
      go : (b : Bool) → stands_in e removed ≡ b → stands_in e removed ≡ false
      go true on = let w = was_held e on in let same = held_place e q w.place is w.was in let from = w.from in absurd (omega arith)
      go false off = off

  off_other : (e : ℕ) → ((q : ℕ) → mark_at s.marks e ≡ Held q → ⊥) → stands_in e removed ≡ false
  off_other e free = go (stands_in e removed) refl
    where
      go : (b : Bool) → stands_in e removed ≡ b → stands_in e removed ≡ false
      go true on = let w = was_held e on in absurd (free w.place w.was)
      go false off = off

  -- ---- old marks and new ones

  new_stays : (e : ℕ) → mark_at s.marks e ≡ New → mark_at t.marks e ≡ New
  new_stays e is = marks_are e ∙ same_outside c s.marks removed e (off_other e (λ q m. (let clash = sym is ∙ m in cc))) ∙ is

  done_stays : (e d : ℕ) → mark_at s.marks e ≡ Done d → mark_at t.marks e ≡ Done d
  done_stays e d is = marks_are e ∙ same_outside c s.marks removed e (off_other e (λ q m. (let clash = sym is ∙ m in cc))) ∙ is

  held_stays : (e q : ℕ) → mark_at s.marks e ≡ Held q → q < p → mark_at t.marks e ≡ Held q
  held_stays e q is lt = marks_are e ∙ same_outside c s.marks removed e (off_held e q is lt) ∙ is

  held_done : (e q : ℕ) → mark_at s.marks e ≡ Held q → p ≤ q → mark_at t.marks e ≡ Done c
  held_done e q is le = marks_are e ∙ done_inside c s.marks removed e (marked_within s.marks e (held_not_new s.marks e q is)) (taken q e (h.held q e is) le)

  -- what a new mark tells of the old one
  abbrev told : ℕ → Mark → Mark → Type 0
  told e m New = m ≡ New
  told e m (Held q) = (m ≡ Held q) × (q < p)
  told e m (Done d) = (m ≡ Done d) ⊎ ((d ≡ c) × ((q : ℕ) × (m ≡ Held q) × (p ≤ q)))

  tells : (e : ℕ) (m : Mark) → mark_at s.marks e ≡ m → told e m (mark_at t.marks e)
  tells e New is = subst (told e New) (sym (new_stays e is)) refl
  tells e (Done d) is = subst (told e (Done d)) (sym (done_stays e d is)) (inl refl)
  tells e (Held q) is = ⊎_elim
      (λ (a : q < p). subst (told e (Held q)) (sym (held_stays e q is a)) (refl, a))
      (λ (a : p ≤ q). subst (told e (Held q)) (sym (held_done e q is a)) (inr (refl, (q, refl, a))))
      (lower_or q p)

  was : (e : ℕ) (m : Mark) → mark_at t.marks e ≡ m → told e (mark_at s.marks e) m
  was e m is = subst (told e (mark_at s.marks e)) is (tells e (mark_at s.marks e) refl)

  -- ---- parts

  front_within : (x : ℕ) → Among x l.front → Among x s.starts
  front_within x on = subst (Among x) (sym l.is) (among_left l.front (p ∷ []) x on)

  front_below : (x : ℕ) → Among x l.front → x < p
  front_below x on = climbs_last 0 l.front p (subst (Climbs 0) l.is h.climbs) x on

  starts_p : Among p s.starts
  starts_p = subst (Among p) (sym l.is) (among_last l.front p)

  front_or : (x : ℕ) → Among x s.starts → Among x l.front ⊎ (x ≡ p)
  front_or x on = among_pushed l.front p x (subst (Among x) l.is on)

  same_starts : t.starts ≡ l.front
  same_starts = l.closes.closed.starts

  same_frames : t.frames ≡ s.frames
  same_frames = l.closes.closed.frames

  one_before : (x y : ℕ) → y < p → OnePart t.starts x y → OnePart s.starts x y
  one_before x y lt one = record {
    none = λ z on lo hi. ⊎_elim
        (λ (a : Among z l.front). one.none z (subst (Among z) (sym same_starts) a) lo hi)
        (λ (a : z ≡ p). omega arith)
        (front_or z on);
  }

  path_front : Climbs 0 (places s.frames)
  path_front = climbs_front 0 (places s.frames) p (subst (Climbs 0) (places_of s.frames f) h.path)

  -- ---- edges

  pending_less : (q i : ℕ) → Pending (s.frames ++ f ∷ []) q i → Pending s.frames q i
  pending_less q i w = ⊎_elim
      (λ (u : Among w.frame s.frames). record { frame = w.frame; there = u; at = w.at; left = w.left })
      (λ (u : w.frame ≡ f). (let left : w.frame.left ≡ 0 = ap (λ (z : Frame). z.left) u in let more = w.left in absurd (omega arith)))
      (among_pushed s.frames f w.frame w.there)

  -- nothing is pending from the place on
  none_pending : (q i : ℕ) → p ≤ q → Pending (s.frames ++ f ∷ []) q i → ⊥
  none_pending q i le w =
      let u = pending_less q i w in
      let lt = others_below rows None s f h u.frame.place (among_places s.frames u.frame u.there) in
      let at = u.at in
      omega arith

  seen_still : (q e : ℕ) (m : Mark) → mark_at s.marks e ≡ m → q < p → is_seen s.starts q m → is_seen t.starts q (mark_at t.marks e)
  seen_still q e New is lt v = absurd v
  seen_still q e (Done d) is lt v = subst (is_seen t.starts q) (sym (done_stays e d is)) tt
  seen_still q e (Held r) is lt v = ⊎_elim
      (λ (a : r < p). subst (is_seen t.starts q) (sym (held_stays e r is a)) (record { none = λ z on lo hi. v.none z (front_within z (subst (Among z) same_starts on)) lo hi }))
      (λ (a : p ≤ r). subst (is_seen t.starts q) (sym (held_done e r is a)) tt)
      (lower_or r p)

  -- what a node of the part mentions has a group now
  group_of_seen : (q e : ℕ) (m : Mark) → mark_at s.marks e ≡ m → p ≤ q → is_seen s.starts q m → Lower t.marks c e
  group_of_seen q e New is le v = absurd v
  group_of_seen q e (Done d) is le v = record { group' = d; is = done_stays e d is; low = (let lt = h.below e d is in omega arith) }
  group_of_seen q e (Held r) is le v = ⊎_elim
      (λ (a : r < p). absurd (v.none p starts_p a le))
      (λ (a : p ≤ r). record { group' = c; is = held_done e r is a; low = omega arith })
      (lower_or r p)

  lower_new : (d q e : ℕ) → mark_at s.marks d ≡ Held q → p ≤ q → Mentions (g rows) d e → Lower t.marks c e
  lower_new d q e is le names =
      let i = at_stands (row rows d) e names.names in
      ⊎_elim
      (λ (u : Pending (s.frames ++ f ∷ []) q i.at). absurd (none_pending q i.at le u))
      (λ (u : is_seen s.starts q (mark_at s.marks e) ⊎ (◌≡◌ {A = Option ℕ} None (Some e))). ⊎_elim
      (λ (v : is_seen s.starts q (mark_at s.marks e)). group_of_seen q e (mark_at s.marks e) refl le v)
      (λ (v : ◌≡◌ {A = Option ℕ} None (Some e)). (let clash = v in absurd cc))
      u)
      (h.edges q d i.at e (h.held q d is) i.there)

  -- two nodes of the part reach each other
  part_reaches : (d q e r : ℕ) → mark_at s.marks d ≡ Held q → p ≤ q → mark_at s.marks e ≡ Held r → p ≤ r → Reaches (g rows) d e
  part_reaches d q e r a le b ke = ⊎_elim
      (λ (u : r < q). h.back r q e d (omega arith) (record { none = λ z on lo hi. (let low = top rows None s f h z on in omega arith) }) (h.held r e b) (h.held q d a))
      (λ (u : q ≤ r). h.forward q r d e u (h.held q d a) (h.held r e b))
      (lower_or r q)

  some_removed : 0 < length removed
  some_removed =
      let long : length s.stack ≡ length t.stack + length removed = ap length stack_is ∙ length-append t.stack removed in
      let on = on_stack rows None s f h in
      omega (arith, short)

  more_order : c < length t.order
  more_order = let is = l.closes.closed.order in omega (arith, some_removed)

  group_old : (e d : ℕ) → mark_at s.marks e ≡ Done d → (d ≡ c) → ⊥
  group_old e d is same = let lt = h.below e d is in omega arith

  pub closed_search : IsSearch rows None t
  closed_search = record {
    long = ap length l.closes.closed.marks ∙ all_long c s.marks removed ∙ h.long;
    stacked = λ q e at. held_stays e q (h.stacked q e (in_stack q e at)) (below_p q e at);
    held = λ q e m. (let w = was e (Held q) m in get_front t.stack removed q e (omega (arith, short, w.1)) (ap (λ z. slice_get z q) (sym stack_is) ∙ h.held q e w.0));
    forward = λ x y a b le u v. h.forward x y a b le (in_stack x a u) (in_stack y b v);
    back = λ x y a b le one u v. h.back x y a b le (one_before x y (below_p y b v) one) (in_stack x a u) (in_stack y b v);
    climbs = subst (Climbs 0) (sym same_starts) (climbs_front 0 l.front p (subst (Climbs 0) l.is h.climbs));
    path = subst (λ fs. Climbs 0 (places fs)) (sym same_frames) path_front;
    framed = λ x on. (let in_front = subst (Among x) same_starts on in
        subst (λ fs. Among x (places fs)) (sym same_frames) (⊎_elim
        (λ (a : Among x (places s.frames)). a)
        (λ (a : x ≡ p). (let lt = front_below x in_front in absurd (omega arith)))
        (among_pushed (places s.frames) p x (subst (Among x) (places_of s.frames f) (h.framed x (front_within x in_front))))));
    inside = λ x on. (let lt = others_below rows None s f h x (subst (λ fs. Among x (places fs)) same_frames on) in omega (arith, short));
    fits = λ e d on at. h.fits e d (among_left s.frames (f ∷ []) e (subst (Among e) same_frames on)) (in_stack e.place d at);
    based = λ lt. (let on = on_stack rows None s f h in subst (Among 0) (sym same_starts) (⊎_elim
        (λ (a : Among 0 l.front). a)
        (λ (a : 0 ≡ p). absurd (omega (arith, short)))
        (front_or 0 (h.based (omega arith)))));
    edges = λ q d i e at names. ⊎_elim
        (λ (u : Pending (s.frames ++ f ∷ []) q i). inl (subst (λ fs. Pending fs q i) (sym same_frames) (pending_less q i u)))
        (λ (u : is_seen s.starts q (mark_at s.marks e) ⊎ (◌≡◌ {A = Option ℕ} None (Some e))). ⊎_elim
        (λ (v : is_seen s.starts q (mark_at s.marks e)). inr (inl (seen_still q e (mark_at s.marks e) refl (below_p q d at) v)))
        (λ (v : ◌≡◌ {A = Option ℕ} None (Some e)). inr (inr v))
        u)
        (h.edges q d i e (in_stack q d at) names);
    lower = λ d b e m names. ⊎_elim
        (λ (u : mark_at s.marks d ≡ Done b). (let r = h.lower d b e u names in record { group' = r.group'; is = done_stays e r.group' r.is; low = r.low }))
        (λ (u : (b ≡ c) × ((q : ℕ) × (mark_at s.marks d ≡ Held q) × (p ≤ q))). subst (λ z. Lower t.marks z e) (sym u.0) (lower_new d u.1.0 e u.1.1 u.1.2 names))
        (was d (Done b) m);
    connected = λ d e b x y. ⊎_elim
        (λ (u : mark_at s.marks d ≡ Done b). ⊎_elim
        (λ (v : mark_at s.marks e ≡ Done b). h.connected d e b u v)
        (λ (v : (b ≡ c) × ((q : ℕ) × (mark_at s.marks e ≡ Held q) × (p ≤ q))). absurd (group_old d b u v.0))
        (was e (Done b) y))
        (λ (u : (b ≡ c) × ((q : ℕ) × (mark_at s.marks d ≡ Held q) × (p ≤ q))). ⊎_elim
        (λ (v : mark_at s.marks e ≡ Done b). absurd (group_old e b v u.0))
        (λ (v : (b ≡ c) × ((q : ℕ) × (mark_at s.marks e ≡ Held q) × (p ≤ q))). part_reaches d u.1.0 e v.1.0 u.1.1 u.1.2 v.1.1 v.1.2)
        (was e (Done b) y))
        (was d (Done b) x);
    below = λ d b m. ⊎_elim
        (λ (u : mark_at s.marks d ≡ Done b). (let lt = h.below d b u in let more = more_order in omega arith))
        (λ (u : (b ≡ c) × ((q : ℕ) × (mark_at s.marks d ≡ Held q) × (p ≤ q))). (let more = more_order in omega (arith, u.0)))
        (was d (Done b) m);
  }

  pub closed_grows : Grows s.marks t.marks
  closed_grows = record { met = λ e f m. f (was e New m) }
