-- What holds of a search holds behind each step of it.
-- For: `turn`, `enter` and `search_from`
use Rattle.std.proofs.Common.{◌≡◌, ℕ, zero, suc, ◌<◌, ◌≤◌, true, false, List, [], ◌∷◌, ◌++◌, length, Option, Some, None, slice_get, refl, sym, ap, ◌∙◌, subst, inl, inr, ⊎_elim, arith, set, get_or-set_same, get_or-set_other, length-append}
use Rattle.std.specs.Prelude.{◌⊎◌, ◌==◌}
use Rattle.std.proofs.lemmas.Option.{slice_get_within}
use Rattle.std.proofs.lemmas.Bool.{eqb-true, eq-eqb}
use Rattle.std.proofs.lemmas.List.{length-set}
use Rattle.ps_kernel.specs.Lists.{stands_in, Among}
use Rattle.ps_kernel.proofs.NumbersStandInLists.{or_cases, or_left, or_right, either}
use Rattle.ps_typing.specs.Order.{Graph, Reaches, itself, through, graph_of_table}
use Rattle.ps_groups.specs.Groups.{row}
use Rattle.ps_groups.specs.declared.search.Mark.{Mark}
use Rattle.ps_groups.specs.declared.search.Mark.TheVariants.{New, Held, Done}
use Rattle.ps_groups.specs.declared.search.Frame.{Frame}
use Rattle.ps_groups.specs.declared.search.Search.{Search}
use Rattle.ps_groups.specs.InsideSearch.{mark_at, Climbs, places, frame_at, opened, OnePart, Pending, is_seen, IsSearch, Grows}
use Rattle.ps_groups.proofs.ListsByPlace.{get_left, get_last, get_pushed, get_front, among_left, among_last, among_pushed, climbs_pushed}

-- ---- marks

pub mark_set : (marks : List Mark) (d : ℕ) (m : Mark) → d < length marks → mark_at (set marks d m) d ≡ m
mark_set marks d m lt = get_or-set_same marks d m New lt

pub mark_other : (marks : List Mark) (d e : ℕ) (m : Mark) → (e ≡ d → ⊥) → mark_at (set marks d m) e ≡ mark_at marks e
mark_other marks d e m ne = get_or-set_other marks d e m New ne

-- a node is the one that is set, or another
pub same_or : (d e : ℕ) → (e ≡ d) ⊎ (e ≡ d → ⊥)
same_or d e = ⊎_elim (λ (a : (e == d) ≡ true). inl (eqb-true e d a)) (λ (a : (e == d) ≡ false). inr (λ is. (let clash = sym (eq-eqb e d is) ∙ a in absurd cc))) (either (e == d))

-- a mark that is not new is that of a node of the table
pub marked_within : (marks : List Mark) (d : ℕ) → (mark_at marks d ≡ New → ⊥) → d < length marks
marked_within [] d h = absurd (h refl)
marked_within (m ∷ ms) zero h = omega arith
marked_within (m ∷ ms) (suc d) h = let lt = marked_within ms d h in omega arith

pub held_not_new : (marks : List Mark) (d p : ℕ) → mark_at marks d ≡ Held p → mark_at marks d ≡ New → ⊥
held_not_new marks d p h n = let clash = sym h ∙ n in cc

pub done_not_new : (marks : List Mark) (d g : ℕ) → mark_at marks d ≡ Done g → mark_at marks d ≡ New → ⊥
done_not_new marks d g h n = let clash = sym h ∙ n in cc

-- ---- rows

pub stands_at : (r : List ℕ) (i e : ℕ) → slice_get r i ≡ Some e → stands_in e r ≡ true
stands_at [] i e h = let clash : None ≡ Some e = h in absurd cc
stands_at (x ∷ r) zero e h = let is : Some x ≡ Some e = h in or_left (e == x) (stands_in e r) (eq-eqb e x cc)
stands_at (x ∷ r) (suc i) e h = or_right (e == x) (stands_in e r) (stands_at r i e h)

pub record Stands (r : List ℕ) (e : ℕ) : Type 0 where
  pub at : ℕ
  pub there : slice_get r at ≡ Some e

pub at_stands : (r : List ℕ) (e : ℕ) → stands_in e r ≡ true → Stands r e
at_stands [] e h = absurd cc
at_stands (x ∷ r) e h = ⊎_elim
    (λ (a : (e == x) ≡ true). record { at = 0; there = ap Some (sym (eqb-true e x a)) })
    (λ (a : stands_in e r ≡ true). (let q = at_stands r e a in record { at = suc q.at; there = q.there }))
    (or_cases (e == x) (stands_in e r) h)

-- ---- parts

pub part_from : (old new : List ℕ) (p q : ℕ) → ((x : ℕ) → Among x old → Among x new) → OnePart new p q → OnePart old p q
part_from old new p q f h = record { none = λ x on. h.none x (f x on) }

-- ---- frames

pub places_of : (fs : List Frame) (f : Frame) → places (fs ++ f ∷ []) ≡ places fs ++ f.place ∷ []
places_of [] f = refl
places_of (e ∷ fs) f = ap (λ xs. e.place ∷ xs) (places_of fs f)

pub among_places : (fs : List Frame) (f : Frame) → Among f fs → Among f.place (places fs)
among_places [] f on = on
among_places (e ∷ fs) f on = ⊎_elim (λ (a : f ≡ e). inl (ap (λ (z : Frame). z.place) a)) (λ (a : Among f fs). inr (among_places fs f a)) on

pub pending_more : (fs : List Frame) (f : Frame) (p i : ℕ) → Pending fs p i → Pending (fs ++ f ∷ []) p i
pending_more fs f p i a = record { frame = a.frame; there = among_left fs (f ∷ []) a.frame a.there; at = a.at; left = a.left }

module _ (rows : List (List ℕ)) where
  abbrev pub g : Graph
  g = graph_of_table rows

  pub edge_reaches : (d i e : ℕ) → slice_get (row rows d) i ≡ Some e → Reaches g d e
  edge_reaches d i e h = through d e itself (record { names = stands_at (row rows d) i e h })

  pub joins : (d e f : ℕ) → Reaches g d e → Reaches g e f → Reaches g d f
  joins d e f a itself = a
  joins d e f a (through m w s n) = through m w (joins d e m a s) n

  -- ---- the search comes to a new node

  module _ (late : Option ℕ) (s : Search) (h : IsSearch rows late s) (d : ℕ) (node : d < length rows) (new : mark_at s.marks d ≡ New)
      (comes : (p e : ℕ) → slice_get s.stack p ≡ Some e → Reaches g e d) (only : (e : ℕ) → late ≡ Some e → e ≡ d) where
    abbrev n : ℕ
    n = length s.stack

    abbrev o : Search
    o = opened rows d s

    within : d < length s.marks
    within = omega (arith, h.long)

    here : mark_at o.marks d ≡ Held n
    here = mark_set s.marks d (Held n) within

    elsewhere : (e : ℕ) → (e ≡ d → ⊥) → mark_at o.marks e ≡ mark_at s.marks e
    elsewhere e ne = mark_other s.marks d e (Held n) ne

    -- a node that was met before is another
    other_held : (e p : ℕ) → mark_at s.marks e ≡ Held p → e ≡ d → ⊥
    other_held e p m is = let clash = sym m ∙ ap (mark_at s.marks) is ∙ new in cc

    other_done : (e c : ℕ) → mark_at s.marks e ≡ Done c → e ≡ d → ⊥
    other_done e c m is = let clash = sym m ∙ ap (mark_at s.marks) is ∙ new in cc

    stacked : (p e : ℕ) → slice_get o.stack p ≡ Some e → mark_at o.marks e ≡ Held p
    stacked p e at = ⊎_elim
        (λ (a : slice_get s.stack p ≡ Some e). elsewhere e (other_held e p (h.stacked p e a)) ∙ h.stacked p e a)
        (λ (a : (p ≡ n) × (e ≡ d)). ap (mark_at o.marks) a.1 ∙ here ∙ ap Held (sym a.0))
        (get_pushed s.stack d p e at)

    held : (p e : ℕ) → mark_at o.marks e ≡ Held p → slice_get o.stack p ≡ Some e
    held p e m = ⊎_elim
        (λ (a : e ≡ d). (let is : Held n ≡ Held p = sym here ∙ ap (mark_at o.marks) (sym a) ∙ m in let q : n ≡ p = cc in
        subst (λ z. slice_get o.stack z ≡ Some e) q (get_last s.stack d ∙ ap Some (sym a))))
        (λ (a : e ≡ d → ⊥). get_left s.stack (d ∷ []) p e (h.held p e (sym (elsewhere e a) ∙ m)))
        (same_or d e)

    forward : (p q a b : ℕ) → p ≤ q → slice_get o.stack p ≡ Some a → slice_get o.stack q ≡ Some b → Reaches g a b
    forward p q a b le x y = ⊎_elim
        (λ (u : slice_get s.stack q ≡ Some b). (let lt = slice_get_within s.stack q b u in h.forward p q a b le (get_front s.stack (d ∷ []) p a (omega arith) x) u))
        (λ (u : (q ≡ n) × (b ≡ d)). ⊎_elim
        (λ (w : slice_get s.stack p ≡ Some a). subst (Reaches g a) (sym u.1) (comes p a w))
        (λ (w : (p ≡ n) × (a ≡ d)). subst (Reaches g a) (w.1 ∙ sym u.1) itself)
        (get_pushed s.stack d p a x))
        (get_pushed s.stack d q b y)

    back : (p q a b : ℕ) → p ≤ q → OnePart o.starts p q → slice_get o.stack p ≡ Some a → slice_get o.stack q ≡ Some b → Reaches g b a
    back p q a b le one x y = ⊎_elim
        (λ (u : slice_get s.stack q ≡ Some b).
        (let lt = slice_get_within s.stack q b u in
        h.back p q a b le (part_from s.starts o.starts p q (λ z on. among_left s.starts (n ∷ []) z on) one) (get_front s.stack (d ∷ []) p a (omega arith) x) u))
        (λ (u : (q ≡ n) × (b ≡ d)). ⊎_elim
        (λ (w : slice_get s.stack p ≡ Some a). (let lt = slice_get_within s.stack p a w in absurd (one.none n (among_last s.starts n) lt (omega (arith, u.0)))))
        (λ (w : (p ≡ n) × (a ≡ d)). subst (Reaches g b) (u.1 ∙ sym w.1) itself)
        (get_pushed s.stack d p a x))
        (get_pushed s.stack d q b y)

    start_below : (x : ℕ) → Among x s.starts → x < n
    start_below x on = h.inside x (h.framed x on)

    abbrev frame : Frame
    frame = frame_at n (length (row rows d))

    seen_still : (p e : ℕ) (m : Mark) → mark_at s.marks e ≡ m → p < n → is_seen s.starts p m → is_seen o.starts p (mark_at o.marks e)
    seen_still p e New is lt v = absurd v
    seen_still p e (Held q) is lt v = subst (is_seen o.starts p) (sym (elsewhere e (other_held e q is) ∙ is))
        (record { none = λ x on a b. ⊎_elim (λ (u : Among x s.starts). v.none x u a b) (λ (u : x ≡ n). omega arith) (among_pushed s.starts n x on) })
    seen_still p e (Done c) is lt v = subst (is_seen o.starts p) (sym (elsewhere e (other_done e c is) ∙ is)) tt

    -- the late one is seen now
    seen_now : (p : ℕ) → p ≤ n → is_seen o.starts p (mark_at o.marks d)
    seen_now p le = subst (is_seen o.starts p) (sym here) (record { none = λ x on a b. omega arith })

    edges : (p a i e : ℕ) → slice_get o.stack p ≡ Some a → slice_get (row rows a) i ≡ Some e → Pending o.frames p i ⊎ (is_seen o.starts p (mark_at o.marks e) ⊎ (◌≡◌ {A = Option ℕ} None (Some e)))
    edges p a i e at edge = ⊎_elim
        (λ (u : slice_get s.stack p ≡ Some a).
        (let lt = slice_get_within s.stack p a u in
        ⊎_elim
        (λ (v : Pending s.frames p i). inl (pending_more s.frames frame p i v))
        (λ (v : is_seen s.starts p (mark_at s.marks e) ⊎ (late ≡ Some e)). inr (inl (⊎_elim
        (λ (w : is_seen s.starts p (mark_at s.marks e)). seen_still p e (mark_at s.marks e) refl lt w)
        (λ (w : late ≡ Some e). subst (λ z. is_seen o.starts p (mark_at o.marks z)) (sym (only e w)) (seen_now p (omega arith)))
        v)))
        (h.edges p a i e u edge)))
        (λ (u : (p ≡ n) × (a ≡ d)). inl (record {
          frame = frame;
          there = among_last s.frames frame;
          at = sym u.0;
          left = subst (λ z. i < length (row rows z)) u.1 (slice_get_within (row rows a) i e edge);
        }))
        (get_pushed s.stack d p a at)

    was_done : (e c : ℕ) → mark_at o.marks e ≡ Done c → mark_at s.marks e ≡ Done c
    was_done e c m = ⊎_elim
        (λ (a : e ≡ d). (let clash = sym here ∙ ap (mark_at o.marks) (sym a) ∙ m in absurd cc))
        (λ (a : e ≡ d → ⊥). sym (elsewhere e a) ∙ m)
        (same_or d e)

    is_done : (e c : ℕ) → mark_at s.marks e ≡ Done c → mark_at o.marks e ≡ Done c
    is_done e c m = elsewhere e (other_done e c m) ∙ m

    pub opened_search : IsSearch rows None o
    opened_search = record {
      long = length-set s.marks d (Held n) ∙ h.long;
      stacked = stacked;
      held = held;
      forward = forward;
      back = back;
      climbs = climbs_pushed 0 s.starts n (omega arith) h.climbs start_below;
      path = subst (Climbs 0) (sym (places_of s.frames frame)) (climbs_pushed 0 (places s.frames) n (omega arith) h.path h.inside);
      framed = λ x on. subst (Among x) (sym (places_of s.frames frame)) (⊎_elim
          (λ (a : Among x s.starts). among_left (places s.frames) (n ∷ []) x (h.framed x a))
          (λ (a : x ≡ n). subst (λ z. Among z (places s.frames ++ n ∷ [])) (sym a) (among_last (places s.frames) n))
          (among_pushed s.starts n x on));
      inside = λ x on. ⊎_elim
          (λ (a : Among x (places s.frames)). (let lt = h.inside x a in omega (arith, length-append s.stack (d ∷ []))))
          (λ (a : x ≡ n). omega (arith, length-append s.stack (d ∷ [])))
          (among_pushed (places s.frames) n x (subst (Among x) (places_of s.frames frame) on));
      fits = λ f e on at. ⊎_elim
          (λ (a : Among f s.frames). (let low = h.inside f.place (among_places s.frames f a) in h.fits f e a (get_front s.stack (d ∷ []) f.place e low at)))
          (λ (a : f ≡ frame). fits_new f e a at)
          (among_pushed s.frames frame f on);
      based = λ lt. based_now (s.stack) refl;
      edges = edges;
      lower = λ e c f m names. (let r = h.lower e c f (was_done e c m) names in record { group' = r.group'; is = is_done f r.group' r.is; low = r.low });
      connected = λ e f c a b. h.connected e f c (was_done e c a) (was_done f c b);
      below = λ e c m. h.below e c (was_done e c m);
    }
      where
        fits_new : (f : Frame) (e : ℕ) → f ≡ frame → slice_get o.stack f.place ≡ Some e → f.left ≤ length (row rows e)
        fits_new f e is at =
            let place : f.place ≡ n = ap (λ (z : Frame). z.place) is in
            let left : f.left ≡ length (row rows d) = ap (λ (z : Frame). z.left) is in
            let same : Some d ≡ Some e = sym (get_last s.stack d) ∙ ap (slice_get o.stack) (sym place) ∙ at in
            let node : d ≡ e = cc in
            let long : length (row rows d) ≡ length (row rows e) = ap (λ z. length (row rows z)) node in
            omega arith

        based_now : (xs : List ℕ) → s.stack ≡ xs → Among 0 o.starts
        based_now [] is = let zero_long : length s.stack ≡ 0 = ap length is in subst (λ z. Among z o.starts) zero_long (among_last s.starts n)
        based_now (x ∷ xs) is = let long : length s.stack ≡ suc (length xs) = ap length is in among_left s.starts (n ∷ []) 0 (h.based (omega arith))

    pub opened_grows : Grows s.marks o.marks
    opened_grows = record {
      met = λ e f m. ⊎_elim
          (λ (a : e ≡ d). (let clash = sym here ∙ ap (mark_at o.marks) (sym a) ∙ m in absurd cc))
          (λ (a : e ≡ d → ⊥). f (sym (elsewhere e a) ∙ m))
          (same_or d e);
    }
