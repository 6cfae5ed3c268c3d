-- A search from a node that is new begins and ends as it should, and what is known at the end are the groups.
-- For: `search_from`, `start` and `groups`
use Rattle.std.proofs.Common.{◌≡◌, ℕ, zero, suc, ◌+◌, ◌<◌, ◌≤◌, true, List, [], ◌∷◌, ◌++◌, length, map, Option, Some, None, slice_get, refl, sym, ap, ◌∙◌, subst, ⊎_elim, arith}
use Rattle.ps_kernel.specs.Lists.{Among}
use Rattle.ps_typing.specs.Order.{Mentions, Reaches, Together, AreParts, IsClosed}
use Rattle.ps_typing.proofs.PartsAreTogether.{parts_together}
use Rattle.std.proofs.lemmas.Bool.{ltb-true, lt-ltb}
use Rattle.std.proofs.lemmas.List.{length-map}
use Rattle.ps_groups.specs.Groups.{row, IsTable, group_of, AreGroups}
use Rattle.ps_groups.specs.declared.search.Mark.{Mark}
use Rattle.ps_groups.specs.declared.search.Mark.TheVariants.{New, Held, Done}
use Rattle.ps_groups.specs.declared.search.Frame.{Frame}
use Rattle.ps_groups.specs.declared.search.Search.{Search}
use Rattle.ps_groups.specs.InsideSearch.{mark_at, places, pushed, opened, IsSearch, IsDoneBelow, group_in}
use Rattle.ps_groups.proofs.SearchesTurn.{lower_or}
use Rattle.ps_groups.proofs.SearchesGoOn.{mark_set, opened_search, opened_grows, at_stands, g}

module _ (rows : List (List ℕ)) where
  -- a frame is taken off
  pub popped : (s : Search) (fs : List Frame) (f : Frame) → s.frames ≡ fs ++ f ∷ [] → IsSearch rows None s → IsSearch rows None (pushed f (record s { frames = fs }))
  popped s fs f is h = subst (λ z. IsSearch rows None (record s { frames = z })) is h

  -- with no frame there is no stack
  pub no_stack : (s : Search) → IsSearch rows None s → s.frames ≡ [] → s.stack ≡ []
  no_stack s h is = go s.stack refl
    where
      go : (xs : List ℕ) → s.stack ≡ xs → s.stack ≡ []
      go [] e = e
      go (x ∷ xs) e =
          let long : length s.stack ≡ suc (length xs) = ap length e in
          let on = h.framed 0 (h.based (omega arith)) in
          let gone : Among {A = ℕ} 0 [] = subst (λ fs. Among 0 (places fs)) is on in
          absurd gone

  module _ (d : ℕ) (s : Search) (h : IsDoneBelow rows d s) (node : d < length rows) (new : mark_at s.marks d ≡ New) where
    comes : (p e : ℕ) → slice_get s.stack p ≡ Some e → Reaches (g rows) e d
    comes p e at = let clash : None ≡ Some e = ap (λ z. slice_get z p) (sym (no_stack s h.is h.frames)) ∙ at in absurd cc

    only : (e : ℕ) → ◌≡◌ {A = Option ℕ} None (Some e) → e ≡ d
    only e clash = absurd cc

    met_now : (e : ℕ) → e ≤ d → mark_at (opened rows d s).marks e ≡ New → ⊥
    met_now e le m = ⊎_elim
        (λ (a : e < d). (opened_grows rows None s h.is d node new comes only).met e (h.met e a) m)
        (λ (a : d ≤ e).
        (let same : e ≡ d = omega arith in
        let clash = sym (mark_set s.marks d (Held (length s.stack)) (omega (arith, h.is.long, node))) ∙ ap (mark_at (opened rows d s).marks) (sym same) ∙ m in cc))
        (lower_or e d)

    pub begun : (t : Search) → t ≡ opened rows d s → IsSearch rows None t × ((e : ℕ) → e ≤ d → mark_at t.marks e ≡ New → ⊥)
    begun t is = subst (λ (z : Search). IsSearch rows None z × ((e : ℕ) → e ≤ d → mark_at z.marks e ≡ New → ⊥)) (sym is)
        (opened_search rows None s h.is d node new comes only, met_now)

  pub ended : (d : ℕ) (s : Search) → IsSearch rows None s → ((e : ℕ) → e ≤ d → mark_at s.marks e ≡ New → ⊥) → s.frames ≡ [] → IsDoneBelow rows (d + 1) s
  ended d s h met is = record { is = h; frames = is; met = λ e lt. met e (omega arith) }

  pub ended_search : (d : ℕ) (s : Search) (fs : List Frame) → s.frames ≡ [] → fs ≡ [] → IsSearch rows None s × ((e : ℕ) → e ≤ d → mark_at s.marks e ≡ New → ⊥) → IsDoneBelow rows (d + 1) (record s { frames = fs })
  ended_search d s fs is none h = ended d (record s { frames = fs }) (subst (λ z. IsSearch rows None (record s { frames = z })) (is ∙ sym none) h.0) h.1 none

  -- a node that was met before
  pub met_before : (d : ℕ) (s : Search) → IsDoneBelow rows d s → (mark_at s.marks d ≡ New → ⊥) → IsDoneBelow rows (d + 1) s
  met_before d s h met = record {
    is = h.is;
    frames = h.frames;
    met = λ e lt m. ⊎_elim
        (λ (a : e < d). h.met e a m)
        (λ (a : d ≤ e). (let same : e ≡ d = omega arith in met (ap (mark_at s.marks) (sym same) ∙ m)))
        (lower_or e d);
  }

  -- ---- the groups

  module _ (table : IsTable rows) (s : Search) (h : IsDoneBelow rows (length rows) s) where
    pub record HasGroup (d : ℕ) : Type 0 where
      pub group : ℕ
      pub is : mark_at s.marks d ≡ Done group

    has_group : (d : ℕ) → d < length rows → HasGroup d
    has_group d lt = go (mark_at s.marks d) refl
      where
        go : (m : Mark) → mark_at s.marks d ≡ m → HasGroup d
        go New is = absurd (h.met d lt is)
        go (Held p) is = let clash : None ≡ Some d = ap (λ z. slice_get z p) (sym (no_stack s h.is h.frames)) ∙ h.is.held p d is in absurd cc
        go (Done c) is = record { group = c; is = is }

    groups_at : (ms : List Mark) (d : ℕ) → d < length ms → group_of (map group_in ms) d ≡ group_in (mark_at ms d)
    groups_at [] d lt = absurd (omega arith)
    groups_at (m ∷ ms) zero lt = refl
    groups_at (m ∷ ms) (suc d) lt = groups_at ms d (omega arith)

    abbrev groups : List ℕ
    groups = map group_in s.marks

    tells : (d c : ℕ) → d < length rows → mark_at s.marks d ≡ Done c → group_of groups d ≡ c
    tells d c lt is = groups_at s.marks d (omega (arith, h.is.long)) ∙ ap group_in is

    lower : (d e : ℕ) → d < length rows → Mentions (g rows) d e → group_of groups e ≤ group_of groups d
    lower d e lt names =
        let k = has_group d lt in
        let r = h.is.lower d k.group e k.is names in
        let at = at_stands (row rows d) e names.names in
        let a = tells d k.group lt k.is in
        let b = tells e r.group' (table.closed d at.at e at.there) r.is in
        let low = r.low in
        omega arith

    node_within : (d : ℕ) → (g rows).is_node d ≡ true → d < length rows
    node_within d on = ltb-true d (length rows) on

    is_node : (d : ℕ) → d < length rows → (g rows).is_node d ≡ true
    is_node d lt = lt-ltb d (length rows) lt

    closed : IsClosed (g rows)
    closed = record { closed = λ d e on names. (let at = at_stands (row rows d) e names.names in is_node e (table.closed d at.at e at.there)) }

    connected : (d e : ℕ) → d < length rows → e < length rows → group_of groups d ≡ group_of groups e → Together (g rows) d e
    connected d e dl el is =
        let a = has_group d dl in
        let b = has_group e el in
        let same : a.group ≡ b.group = sym (tells d a.group dl a.is) ∙ is ∙ tells e b.group el b.is in
        let other : mark_at s.marks e ≡ Done a.group = b.is ∙ ap Done (sym same) in
        record { there = h.is.connected d e a.group a.is other; back = h.is.connected e d a.group other a.is }

    are_parts : AreParts (g rows) (group_of groups)
    are_parts = record {
      lower = λ d e on names. lower d e (node_within d on) names;
      connected = λ d e dn en is. connected d e (node_within d dn) (node_within e en) is;
    }

    all_groups : AreGroups rows groups
    all_groups = record {
      all = length-map s.marks group_in ∙ h.is.long;
      together = λ d e dl el. parts_together (g rows) (group_of groups) closed are_parts d e (is_node d dl) (is_node e el);
      lower = lower;
    }

  pub are_groups : IsTable rows → (s : Search) → IsDoneBelow rows (length rows) s → AreGroups rows (map group_in s.marks)
  are_groups table s h = all_groups table s h
