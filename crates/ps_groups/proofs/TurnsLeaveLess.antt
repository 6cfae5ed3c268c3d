-- A turn keeps what holds of a search, and leaves less to do.
-- For: `turn`, `search_from` and `groups`
use Rattle.std.proofs.Common.{◌≡◌, ℕ, zero, suc, ◌+◌, ◌*◌, ◌-◌, ◌<◌, ◌≤◌, Bool, true, false, List, [], ◌∷◌, ◌++◌, length, Option, Some, None, slice_get, refl, sym, ap, ◌∙◌, subst, ⊎_elim, arith, get_or, set}
use Rattle.std.specs.Prelude.{◌==◌, max, MatchBool, if◌then◌else◌}
use Rattle.std.proofs.lemmas.Option.{slice_get-get_or}
use Rattle.std.proofs.lemmas.Bool.{eqb-true, eq-eqb}
use Rattle.std.proofs.Math.Nat.{le-max_left, le-max_right, mul-le-mul_left}
use Rattle.ps_kernel.specs.Lists.{Among}
use Rattle.ps_typing.specs.Order.{Reaches}
use Rattle.ps_groups.specs.Groups.{row, IsTable}
use Rattle.ps_groups.specs.declared.search.Mark.{Mark}
use Rattle.ps_groups.specs.declared.search.Mark.TheVariants.{New, Held, Done}
use Rattle.ps_groups.specs.declared.search.Frame.{Frame}
use Rattle.ps_groups.specs.declared.search.Search.{Search}
use Rattle.ps_groups.specs.InsideSearch.{mark_at, last_of, pushed, frame_at, opened, entry_of, edge_of, Contracted, AfterEdge, IsSearch, all_done, LeavesPart, leaves_by, Leaves, new_ones, widest, weigh, Grows, Turns}
use Rattle.ps_groups.proofs.ListsByPlace.{among_last}
use Rattle.ps_groups.proofs.SearchesGoOn.{opened_search, opened_grows, edge_reaches, joins, g}
use Rattle.ps_groups.proofs.SearchesTurn.{lower_or, top, on_stack, advanced, seen_done, contracted_is, kept_search, begins_last}
use Rattle.ps_groups.proofs.PartsBecomeGroups.{closed_search, closed_grows}

-- ---- how much is left

weigh_pushed : (fs : List Frame) (f : Frame) → weigh (fs ++ f ∷ []) ≡ weigh fs + suc f.left
weigh_pushed [] f = omega arith
weigh_pushed (e ∷ fs) f = let more = weigh_pushed fs f in omega arith

one_less : (marks : List Mark) (d p : ℕ) → d < length marks → mark_at marks d ≡ New → new_ones marks ≡ suc (new_ones (set marks d (Held p)))
one_less [] d p lt is = absurd (omega arith)
one_less (New ∷ ms) zero p lt is = refl
one_less (Held q ∷ ms) zero p lt is = absurd cc
one_less (Done c ∷ ms) zero p lt is = absurd cc
one_less (New ∷ ms) (suc d) p lt is = ap suc (one_less ms d p (omega arith) is)
one_less (Held q ∷ ms) (suc d) p lt is = one_less ms d p (omega arith) is
one_less (Done c ∷ ms) (suc d) p lt is = one_less ms d p (omega arith) is

no_more : (marks : List Mark) (d c : ℕ) → new_ones (set marks d (Done c)) ≤ new_ones marks
no_more [] d c = omega arith
no_more (New ∷ ms) zero c = omega arith
no_more (Held q ∷ ms) zero c = omega arith
no_more (Done b ∷ ms) zero c = omega arith
no_more (New ∷ ms) (suc d) c = let le = no_more ms d c in omega arith
no_more (Held q ∷ ms) (suc d) c = no_more ms d c
no_more (Done b ∷ ms) (suc d) c = no_more ms d c

none_new : (c : ℕ) (ds : List ℕ) (marks : List Mark) → new_ones (all_done c ds marks) ≤ new_ones marks
none_new c [] marks = omega arith
none_new c (d ∷ ds) marks = let a = no_more (all_done c ds marks) d c in let b = none_new c ds marks in omega arith

row_width : (rows : List (List ℕ)) (d : ℕ) → length (row rows d) ≤ widest rows
row_width [] d = omega arith
row_width (r ∷ rs) zero = le-max_left (length r) (widest rs)
row_width (r ∷ rs) (suc d) = let a = row_width rs d in let b : widest rs ≤ max (length r) (widest rs) = le-max_right (length r) (widest rs) in omega arith

-- ---- a turn

module _ (rows : List (List ℕ)) where
  abbrev some_at : (xs : List ℕ) (i : ℕ) → i < length xs → slice_get xs i ≡ Some (get_or xs i 0)
  some_at xs i lt = slice_get-get_or xs i 0 lt

  module _ (s : Search) (f : Frame) (h : IsSearch rows None (pushed f s)) where
    abbrev d : ℕ
    d = get_or s.stack f.place 0

    at_top : slice_get s.stack f.place ≡ Some d
    at_top = some_at s.stack f.place (on_stack rows None s f h)

    width : f.left ≤ length (row rows d)
    width = h.fits f d (among_last s.frames f) at_top

    -- where nothing is to be looked at, nothing is left
    nothing_left : None ≡ edge_of rows s.stack f → f.left ≡ 0
    nothing_left is = go (f.left == 0) refl is
      where
        go : (b : Bool) → (f.left == 0) ≡ b → None ≡ (if b then None else entry_of rows (slice_get s.stack f.place) (f.left - 1)) → f.left ≡ 0
        go true t e = eqb-true f.left 0 t
        go false t e =
            let some : f.left ≡ 0 → ⊥ = (λ (z : f.left ≡ 0). (let clash = sym t ∙ eq-eqb f.left 0 z in cc)) in
            let fact : None ≡ Some (get_or (row rows d) (f.left - 1) 0) = e ∙ ap (λ o. entry_of rows o (f.left - 1)) at_top ∙ some_at (row rows d) (f.left - 1) (omega (arith, width)) in
            absurd cc

    pub record Looks (w : ℕ) : Type 0 where
      pub rest : ℕ
      pub left : f.left ≡ suc rest
      pub names : slice_get (row rows d) rest ≡ Some w

    looks : (w : ℕ) → Some w ≡ edge_of rows s.stack f → Looks w
    looks w is = go (f.left == 0) refl is
      where
        go : (b : Bool) → (f.left == 0) ≡ b → Some w ≡ (if b then None else entry_of rows (slice_get s.stack f.place) (f.left - 1)) → Looks w
        go true t e = absurd cc
        go false t e =
            let some : f.left ≡ 0 → ⊥ = (λ (z : f.left ≡ 0). (let clash = sym t ∙ eq-eqb f.left 0 z in cc)) in
            record { rest = f.left - 1; left = omega arith; names = sym (e ∙ ap (λ o. entry_of rows o (f.left - 1)) at_top) }

  same_grows : (marks : List Mark) → Grows marks marks
  same_grows marks = record { met = λ e f m. f m }

  -- ---- the top is left

  module _ (s : Search) (p : ℕ) (h : IsSearch rows None (pushed (frame_at p 0) s)) (t : Search) where
    stays : (Among p s.starts → ⊥) → t ≡ s → Turns rows (pushed (frame_at p 0) s) t
    stays other is = subst (Turns rows (pushed (frame_at p 0) s)) (sym is) (record {
      is = kept_search rows s p h other;
      less = (let w = weigh_pushed s.frames (frame_at p 0) in omega arith);
      grows = same_grows s.marks;
    })

    closes : LeavesPart p s t → Turns rows (pushed (frame_at p 0) s) t
    closes l = record {
      is = closed_search rows s p h t l;
      less =
          (let w = weigh_pushed s.frames (frame_at p 0) in
          let frames : weigh t.frames ≡ weigh s.frames = ap weigh l.closes.closed.frames in
          let marks : new_ones t.marks ≡ new_ones (all_done (length s.order) l.closes.closed.removed s.marks) = ap new_ones l.closes.closed.marks in
          let fewer = none_new (length s.order) l.closes.closed.removed s.marks in
          let low : new_ones t.marks ≤ new_ones s.marks = omega arith in
          let times = mul-le-mul_left (widest rows + 2) low in
          omega arith);
      grows = closed_grows rows s p h t l;
    }

    leaves : Leaves p s t → Turns rows (pushed (frame_at p 0) s) t
    leaves l = by_last (last_of s.starts) refl l
      where
        by_test : (z : ℕ) (b : Bool) → (z == p) ≡ b → last_of s.starts ≡ Some z → MatchBool b (LeavesPart p s t) (t ≡ s) → Turns rows (pushed (frame_at p 0) s) t
        by_test z true e is m = closes m
        by_test z false e is m = stays (λ on.
            (let same : Some z ≡ Some p = sym is ∙ begins_last rows s p h on in
            let q : z ≡ p = cc in
            let clash = sym e ∙ eq-eqb z p q in cc)) m

        by_last : (o : Option ℕ) → last_of s.starts ≡ o → leaves_by o p s t → Turns rows (pushed (frame_at p 0) s) t
        by_last None is m = stays (λ on. (let clash : None ≡ Some p = sym is ∙ begins_last rows s p h on in cc)) m
        by_last (Some z) is m = by_test z (z == p) refl is m

  pub turned_leave : (s : Search) (f : Frame) → IsSearch rows None (pushed f s) → None ≡ edge_of rows s.stack f → (t : Search) → Leaves f.place s t → Turns rows (pushed f s) t
  turned_leave s f h is t l =
      let left = nothing_left s f h is in
      let back : (n : ℕ) → f.left ≡ n → IsSearch rows None (pushed (frame_at f.place n) s) = (λ (n : ℕ) (e : f.left ≡ n). subst (λ z. IsSearch rows None (pushed (frame_at f.place z) s)) e h) in
      subst (λ z. Turns rows (pushed (frame_at f.place z) s) t) (sym left) (leaves s f.place (back 0 left) t l)

  -- ---- an entry is looked at

  module _ (table : IsTable rows) (s : Search) (p l : ℕ) (h : IsSearch rows None (pushed (frame_at p (suc l)) s)) (e w : ℕ) (at : slice_get s.stack p ≡ Some e) (names : slice_get (row rows e) l ≡ Some w) where
    abbrev old : Search
    old = pushed (frame_at p (suc l)) s

    abbrev now : Search
    now = pushed (frame_at p l) s

    now_search : IsSearch rows (Some w) now
    now_search = advanced rows s p l h e w at names

    over : (x : ℕ) → Among x s.starts → x ≤ p
    over x on = top rows None s (frame_at p (suc l)) h x on

    edge : Reaches (g rows) e w
    edge = edge_reaches rows e l w names

    comes : (q b : ℕ) → slice_get s.stack q ≡ Some b → Reaches (g rows) b w
    comes q b u = joins rows b e w (⊎_elim
        (λ (a : p < q). now_search.back p q e b (omega arith) (record { none = λ x on lo hi. (let m = over x on in omega arith) }) at u)
        (λ (a : q ≤ p). now_search.forward q p b e a u at)
        (lower_or p q)) edge

    node : w < length rows
    node = table.closed e l w names

    only : (b : ℕ) → Some w ≡ Some b → b ≡ w
    only b is = cc

    old_weight : weigh old.frames ≡ weigh s.frames + suc (suc l)
    old_weight = weigh_pushed s.frames (frame_at p (suc l))

    now_weight : weigh now.frames ≡ weigh s.frames + suc l
    now_weight = weigh_pushed s.frames (frame_at p l)

    after_new : (t : Search) → mark_at s.marks w ≡ New → t ≡ opened rows w now → Turns rows old t
    after_new t new is = subst (Turns rows old) (sym is) (record {
      is = opened_search rows (Some w) now now_search w node new comes only;
      less =
          (let fewer = one_less s.marks w (length s.stack) (omega (arith, h.long, node)) new in
          let weight = weigh_pushed now.frames (frame_at (length s.stack) (length (row rows w))) in
          let wide = row_width rows w in
          let o = old_weight in
          let n = now_weight in
          let times : (widest rows + 2) * new_ones s.marks ≡ (widest rows + 2) * (new_ones (set s.marks w (Held (length s.stack))) + 1) = ap (λ z. (widest rows + 2) * z) (fewer ∙ omega arith) in
          omega arith);
      grows = opened_grows rows (Some w) now now_search w node new comes only;
    })

    after_held : (t : Search) (q : ℕ) → mark_at s.marks w ≡ Held q → Contracted q now t → Turns rows old t
    after_held t q is c =
        let marks : t.marks ≡ s.marks = ap (λ (z : Search). z.marks) c.is in
        let frames : t.frames ≡ now.frames = ap (λ (z : Search). z.frames) c.is in
        record {
          is = contracted_is rows now w now_search p e at over edge q is t c;
          less =
              (let o = old_weight in let n = now_weight in
              let a : new_ones t.marks ≡ new_ones s.marks = ap new_ones marks in
              let b : weigh t.frames ≡ weigh now.frames = ap weigh frames in
              let times : (widest rows + 2) * new_ones t.marks ≡ (widest rows + 2) * new_ones s.marks = ap (λ z. (widest rows + 2) * z) a in
              omega arith);
          grows = subst (Grows s.marks) (sym marks) (same_grows s.marks);
        }

    after_done : (t : Search) (c : ℕ) → mark_at s.marks w ≡ Done c → t ≡ now → Turns rows old t
    after_done t c is same = subst (Turns rows old) (sym same) (record {
      is = seen_done rows now w c now_search is;
      less = (let o = old_weight in let n = now_weight in omega arith);
      grows = same_grows s.marks;
    })

    after_edge : (t : Search) (m : Mark) → mark_at s.marks w ≡ m → AfterEdge rows w now t m → Turns rows old t
    after_edge t New is a = after_new t is a
    after_edge t (Held q) is a = after_held t q is a
    after_edge t (Done c) is a = after_done t c is a

  pub turned_follow : IsTable rows → (s : Search) (f : Frame) → IsSearch rows None (pushed f s) → (w : ℕ) → Some w ≡ edge_of rows s.stack f
      → (fs : List Frame) → fs ≡ s.frames ++ frame_at f.place (f.left - 1) ∷ [] → (t : Search) → AfterEdge rows w (record s { frames = fs }) t (mark_at s.marks w) → Turns rows (pushed f s) t
  turned_follow table s f h w is fs frames t a =
      let k = looks s f h w is in
      let less : f.left - 1 ≡ k.rest = (let e = k.left in omega arith) in
      let now : fs ≡ s.frames ++ frame_at f.place k.rest ∷ [] = frames ∙ ap (λ z. s.frames ++ frame_at f.place z ∷ []) less in
      let back : IsSearch rows None (pushed (frame_at f.place (suc k.rest)) s) = subst (λ z. IsSearch rows None (pushed (frame_at f.place z) s)) k.left h in
      subst (λ z. Turns rows (pushed (frame_at f.place z) s) t) (sym k.left)
      (after_edge table s f.place k.rest back (d s f h) w (at_top s f h) k.names t (mark_at s.marks w) refl
      (subst (λ z. AfterEdge rows w (record s { frames = z }) t (mark_at s.marks w)) now a))
