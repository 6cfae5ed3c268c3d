-- What holds of a search holds behind each turn, and less is left to do.
-- For: `turn` and `search_from`
use Rattle.std.proofs.Common.{◌≡◌, ℕ, zero, suc, ◌<◌, ◌≤◌, List, [], ◌∷◌, ◌++◌, length, Option, Some, None, slice_get, refl, sym, ap, ◌∙◌, subst, inl, inr, ⊎_elim, arith}
use Rattle.std.specs.Prelude.{◌⊎◌}
use Rattle.ps_kernel.specs.Lists.{Among}
use Rattle.ps_typing.specs.Order.{Reaches}
use Rattle.ps_groups.specs.Groups.{row}
use Rattle.ps_groups.specs.declared.search.Mark.{Mark}
use Rattle.ps_groups.specs.declared.search.Mark.TheVariants.{New, Held, Done}
use Rattle.ps_groups.specs.declared.search.Frame.{Frame}
use Rattle.ps_groups.specs.declared.search.Search.{Search}
use Rattle.ps_groups.specs.InsideSearch.{mark_at, Climbs, last_of, places, pushed, frame_at, Contracted, OnePart, Pending, is_seen, IsSearch}
use Rattle.ps_groups.proofs.ListsByPlace.{none_last, among_left, among_last, among_pushed, climbs_front, climbs_last, front_of}
use Rattle.ps_groups.proofs.SearchesGoOn.{part_from, places_of, among_places, g, joins}

-- one number is lower, or not
pub lower_or : (a b : ℕ) → (a < b) ⊎ (b ≤ a)
lower_or zero zero = inr (omega arith)
lower_or zero (suc b) = inl (omega arith)
lower_or (suc a) zero = inr (omega arith)
lower_or (suc a) (suc b) = ⊎_elim (λ (x : a < b). inl (omega arith)) (λ (x : b ≤ a). inr (omega arith)) (lower_or a b)

module _ (rows : List (List ℕ)) where
  -- ---- the top frame

  module _ (late : Option ℕ) (s : Search) (f : Frame) (h : IsSearch rows late (pushed f s)) where
    -- each part begins at its place or before
    pub top : (x : ℕ) → Among x s.starts → x ≤ f.place
    top x on = ⊎_elim
        (λ (a : Among x (places s.frames)). (let lt = climbs_last 0 (places s.frames) f.place (subst (Climbs 0) (places_of s.frames f) h.path) x a in omega arith))
        (λ (a : x ≡ f.place). omega arith)
        (among_pushed (places s.frames) f.place x (subst (Among x) (places_of s.frames f) (h.framed x on)))

    pub on_stack : f.place < length s.stack
    on_stack = h.inside f.place (among_places (s.frames ++ f ∷ []) f (among_last s.frames f))

    -- the others stand below it
    pub others_below : (x : ℕ) → Among x (places s.frames) → x < f.place
    others_below x on = climbs_last 0 (places s.frames) f.place (subst (Climbs 0) (places_of s.frames f) h.path) x on

  -- ---- an entry is looked at

  module _ (s : Search) (p l : ℕ) (h : IsSearch rows None (pushed (frame_at p (suc l)) s)) (d e : ℕ) (at : slice_get s.stack p ≡ Some d) (edge : slice_get (row rows d) l ≡ Some e) where
    abbrev before : Frame
    before = frame_at p (suc l)

    abbrev after : Frame
    after = frame_at p l

    same_places : places (s.frames ++ before ∷ []) ≡ places (s.frames ++ after ∷ [])
    same_places = places_of s.frames before ∙ sym (places_of s.frames after)

    looked : (q a i b : ℕ) → slice_get s.stack q ≡ Some a → slice_get (row rows a) i ≡ Some b → Pending (s.frames ++ before ∷ []) q i → Pending (s.frames ++ after ∷ []) q i ⊎ (Some e ≡ Some b)
    looked q a i b there names w = ⊎_elim
        (λ (u : Among w.frame s.frames). inl (record { frame = w.frame; there = among_left s.frames (after ∷ []) w.frame u; at = w.at; left = w.left }))
        (λ (u : w.frame ≡ before).
        (let place : p ≡ q = ap (λ (z : Frame). z.place) (sym u) ∙ w.at in
        let left : w.frame.left ≡ suc l = ap (λ (z : Frame). z.left) u in
        ⊎_elim
        (λ (v : i < l). inl (record { frame = after; there = among_last s.frames after; at = place; left = v }))
        (λ (v : l ≤ i).
        (let i_is : l ≡ i = (let m = w.left in omega arith) in
        let nodes : Some d ≡ Some a = sym at ∙ ap (slice_get s.stack) place ∙ there in
        let node : d ≡ a = cc in
        inr (sym edge ∙ ap (λ z. slice_get (row rows z) l) node ∙ ap (slice_get (row rows a)) i_is ∙ names)))
        (lower_or i l)))
        (among_pushed s.frames before w.frame w.there)

    pub advanced : IsSearch rows (Some e) (pushed after s)
    advanced = record {
      long = h.long;
      stacked = h.stacked;
      held = h.held;
      forward = h.forward;
      back = h.back;
      climbs = h.climbs;
      path = subst (Climbs 0) same_places h.path;
      framed = λ x on. subst (Among x) same_places (h.framed x on);
      inside = λ x on. h.inside x (subst (Among x) (sym same_places) on);
      fits = λ f b on there. ⊎_elim
          (λ (a : Among f s.frames). h.fits f b (among_left s.frames (before ∷ []) f a) there)
          (λ (a : f ≡ after).
          (let place : f.place ≡ p = ap (λ (z : Frame). z.place) a in
          let left : f.left ≡ l = ap (λ (z : Frame). z.left) a in
          let more = h.fits before b (among_last s.frames before) (ap (slice_get s.stack) (sym place) ∙ there) in
          omega arith))
          (among_pushed s.frames after f on);
      based = h.based;
      edges = λ q a i b there names. ⊎_elim
          (λ (u : Pending (s.frames ++ before ∷ []) q i). ⊎_elim
          (λ (v : Pending (s.frames ++ after ∷ []) q i). inl v)
          (λ (v : Some e ≡ Some b). inr (inr v))
          (looked q a i b there names u))
          (λ (u : is_seen s.starts q (mark_at s.marks b) ⊎ (◌≡◌ {A = Option ℕ} None (Some b))). ⊎_elim
          (λ (v : is_seen s.starts q (mark_at s.marks b)). inr (inl v))
          (λ (v : ◌≡◌ {A = Option ℕ} None (Some b)). (let clash = v in absurd cc))
          u)
          (h.edges q a i b there names);
      lower = h.lower;
      connected = h.connected;
      below = h.below;
    }

  -- ---- it has a group

  pub seen_done : (s : Search) (e c : ℕ) → IsSearch rows (Some e) s → mark_at s.marks e ≡ Done c → IsSearch rows None s
  seen_done s e c h is = record {
    long = h.long;
    stacked = h.stacked;
    held = h.held;
    forward = h.forward;
    back = h.back;
    climbs = h.climbs;
    path = h.path;
    framed = h.framed;
    inside = h.inside;
    fits = h.fits;
    based = h.based;
    edges = λ q a i b there names. ⊎_elim
        (λ (u : Pending s.frames q i). inl u)
        (λ (u : is_seen s.starts q (mark_at s.marks b) ⊎ (Some e ≡ Some b)). ⊎_elim
        (λ (v : is_seen s.starts q (mark_at s.marks b)). inr (inl v))
        (λ (v : Some e ≡ Some b). (let same : e ≡ b = cc in inr (inl (subst (is_seen s.starts q) (sym is ∙ ap (mark_at s.marks) same) tt))))
        u)
        (h.edges q a i b there names);
    lower = h.lower;
    connected = h.connected;
    below = h.below;
  }

  -- ---- it stands in the stack

  module _ (s : Search) (e : ℕ) (h : IsSearch rows (Some e) s) (p d : ℕ) (at : slice_get s.stack p ≡ Some d) (over : (x : ℕ) → Among x s.starts → x ≤ p) (edge : Reaches (g rows) d e)
      (q : ℕ) (is : mark_at s.marks e ≡ Held q) (t : Search) (c : Contracted q s t) where
    there_e : slice_get s.stack q ≡ Some e
    there_e = h.held q e is

    -- whatever stands in the stack reaches the top, and so e
    comes_to : (y b : ℕ) → slice_get s.stack y ≡ Some b → Reaches (g rows) b e
    comes_to y b u = joins rows b d e (⊎_elim
        (λ (a : p < y). h.back p y d b (omega arith) (record { none = λ x on lo hi. (let m = over x on in omega arith) }) at u)
        (λ (a : y ≤ p). h.forward y p b d a u at)
        (lower_or p y)) edge

    back_to : (x y a b : ℕ) → x ≤ y → OnePart c.starts x y → slice_get s.stack x ≡ Some a → slice_get s.stack y ≡ Some b → Reaches (g rows) b a
    back_to x y a b le one u v = ⊎_elim
        (λ (k : x < q). ⊎_elim
        (λ (m : q < y). joins rows b e a (comes_to y b v)
        (h.back x q a e (omega arith) (record { none = λ z on lo hi. one.none z (c.keeps z on hi) lo (omega arith) }) u there_e))
        (λ (m : y ≤ q). h.back x y a b le (record { none = λ z on lo hi. one.none z (c.keeps z on (omega arith)) lo hi }) u v)
        (lower_or q y))
        (λ (k : q ≤ x). joins rows b e a (comes_to y b v) (h.forward q x e a k there_e u))
        (lower_or x q)

    still_seen : (y : ℕ) (m : Mark) → is_seen s.starts y m → is_seen c.starts y m
    still_seen y New v = v
    still_seen y (Held z) v = part_from c.starts s.starts z y (λ x on. (c.kept x on).0) v
    still_seen y (Done z) v = v

    contracted_search : IsSearch rows None (record s { starts = c.starts })
    contracted_search = record {
      long = h.long;
      stacked = h.stacked;
      held = h.held;
      forward = h.forward;
      back = back_to;
      climbs = c.climbs;
      path = h.path;
      framed = λ x on. h.framed x (c.kept x on).0;
      inside = h.inside;
      fits = h.fits;
      based = λ lt. c.keeps 0 (h.based lt) (omega arith);
      edges = λ y a i b there names. ⊎_elim
          (λ (u : Pending s.frames y i). inl u)
          (λ (u : is_seen s.starts y (mark_at s.marks b) ⊎ (Some e ≡ Some b)). ⊎_elim
          (λ (v : is_seen s.starts y (mark_at s.marks b)). inr (inl (still_seen y (mark_at s.marks b) v)))
          (λ (v : Some e ≡ Some b).
          (let same : e ≡ b = cc in
          inr (inl (subst (is_seen c.starts y) (sym is ∙ ap (mark_at s.marks) same) (record { none = λ x on lo hi. (let m = (c.kept x on).1 in omega arith) })))))
          u)
          (h.edges y a i b there names);
      lower = h.lower;
      connected = h.connected;
      below = h.below;
    }

    pub contracted_is : IsSearch rows None t
    contracted_is = subst (IsSearch rows None) (sym c.is) contracted_search

  -- ---- the top is left

  module _ (s : Search) (p : ℕ) (h : IsSearch rows None (pushed (frame_at p 0) s)) where
    abbrev f : Frame
    f = frame_at p 0

    not_pending : (y i : ℕ) → Pending (s.frames ++ f ∷ []) y i → Pending s.frames y i
    not_pending y i w = ⊎_elim
        (λ (u : Among w.frame s.frames). record { frame = w.frame; there = u; at = w.at; left = w.left })
        (λ (u : w.frame ≡ f). (let left : w.frame.left ≡ 0 = ap (λ (z : Frame). z.left) u in let more = w.left in absurd (omega arith)))
        (among_pushed s.frames f w.frame w.there)

    -- where no part begins there
    pub kept_search : (Among p s.starts → ⊥) → IsSearch rows None s
    kept_search other = record {
      long = h.long;
      stacked = h.stacked;
      held = h.held;
      forward = h.forward;
      back = h.back;
      climbs = h.climbs;
      path = climbs_front 0 (places s.frames) p (subst (Climbs 0) (places_of s.frames f) h.path);
      framed = λ x on. ⊎_elim
          (λ (a : Among x (places s.frames)). a)
          (λ (a : x ≡ p). absurd (other (subst (λ z. Among z s.starts) a on)))
          (among_pushed (places s.frames) p x (subst (Among x) (places_of s.frames f) (h.framed x on)));
      inside = λ x on. h.inside x (subst (Among x) (sym (places_of s.frames f)) (among_left (places s.frames) (p ∷ []) x on));
      fits = λ e d on there. h.fits e d (among_left s.frames (f ∷ []) e on) there;
      based = h.based;
      edges = λ y a i b there names. ⊎_elim
          (λ (u : Pending (s.frames ++ f ∷ []) y i). inl (not_pending y i u))
          (λ (u : is_seen s.starts y (mark_at s.marks b) ⊎ (◌≡◌ {A = Option ℕ} None (Some b))). inr u)
          (h.edges y a i b there names);
      lower = h.lower;
      connected = h.connected;
      below = h.below;
    }

    -- a part begins there only where the last one does
    pub begins_last : Among p s.starts → last_of s.starts ≡ Some p
    begins_last on = go (last_of s.starts) refl
      where
        go : (o : Option ℕ) → last_of s.starts ≡ o → last_of s.starts ≡ Some p
        go None is = let none = none_last s.starts is in absurd (subst (Among p) none on)
        go (Some z) is =
            let w = front_of s.starts z is in
            ⊎_elim
            (λ (a : Among p w.0).
            (let lt = climbs_last 0 w.0 z (subst (Climbs 0) w.1 h.climbs) p a in
            let le = top None s f h z (subst (Among z) (sym w.1) (among_last w.0 z)) in
            absurd (omega arith)))
            (λ (a : p ≡ z). is ∙ ap Some (sym a))
            (among_pushed w.0 z p (subst (Among p) w.1 on))
