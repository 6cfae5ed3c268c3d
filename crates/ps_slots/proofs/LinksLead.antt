-- Links lead to the topmost slot of each local, and each change of the stack keeps them.
-- For: the methods of `Stack`
use Rattle.std.proofs.Common.{◌≡◌, ◌≢◌, ℕ, zero, suc, ◌+◌, ◌-◌, ◌<◌, ◌≤◌, nat_eq, Bool, true, false, List, [], ◌∷◌, ◌++◌, length, map, set, get_or, Some, None, refl, sym, ap, ◌∙◌, subst, append_assoc, append-nil, arith}
use Rattle.std.specs.Prelude.{slice_get, slice_set, if◌then◌else◌}
use Rattle.std.proofs.lemmas.List.{length-append, map-append, get_or-set_same, get_or-set_other}
use Rattle.std.proofs.Math.Seq.{set-append_seam}
use Rattle.byte_store.specs.declared.pointer.Value.{Value}
use Rattle.ps_runs.specs.Runs.{Env}
use Rattle.ps_runs.specs.Locals.{found}
use Rattle.ps_slots.specs.declared.cell.Cell.{Cell}
use Rattle.ps_slots.specs.declared.cell.Cell.TheVariants.{Entered, Local, Waits}
use Rattle.ps_slots.specs.declared.stack.Kept.{Kept}
use Rattle.ps_slots.specs.declared.stack.Kept.TheVariants as kept
use Rattle.ps_slots.specs.Scope.{scope, scope_on, IsClear, Puts}
use Rattle.ps_slots.specs.InsideLinks.{Lay, start, plain, lays, laid, laid_on, Links, LinkedOn, IsLinked, local_at, is_local, put_slot}

snoc_ind : {X : Type 0} (P : List X → Type 0) → P [] → ((xs : List X) (x : X) → P xs → P (xs ++ x ∷ [])) → (xs : List X) → P xs
snoc_ind {X} P none more xs = go P more [] none xs
  where
    go : (Q : List X → Type 0) → ((xs : List X) (x : X) → Q xs → Q (xs ++ x ∷ [])) → (acc : List X) → Q acc → (ys : List X) → Q (acc ++ ys)
    go Q more acc p [] = subst Q (sym (append-nil acc)) p
    go Q more acc p (y ∷ ys) = subst Q (append_assoc acc (y ∷ []) ys) (go Q more (acc ++ y ∷ []) (more acc y p) ys)

get_seam : {X : Type 0} (xs : List X) (x : X) (ys : List X) → slice_get (xs ++ x ∷ ys) (length xs) ≡ Some x
get_seam [] x ys = refl
get_seam (y ∷ xs) x ys = get_seam xs x ys

same_nat : (a b : ℕ) → nat_eq a b ≡ true → a ≡ b
same_nat a b h = grind (arith, h)

other_nat : (a b : ℕ) → nat_eq a b ≡ false → a ≢ b
other_nat a b h = grind (arith, h)

choice_small : (b : Bool) (m n k : ℕ) → m ≤ k → n ≤ k → (if b then m else n) ≤ k
choice_small true m n k first second = first
choice_small false m n k first second = second

record IsWithin (l : Lay) : Type 0 where
  base : l.base ≤ l.size
  top : (x : ℕ) → l.top x ≤ l.size

module _ {J : Type 0} where
  -- ---- one cell more

  laid_push : (l : Lay) (cs : List (Kept J)) (c : Kept J) → laid_on l (cs ++ c ∷ []) ≡ lays (laid_on l cs) c
  laid_push l [] c = refl
  laid_push l (x ∷ cs) c = laid_push (lays l x) cs c

  linked_push : (l : Lay) (cs : List (Kept J)) (c : Kept J) → LinkedOn l cs → Links (laid_on l cs) c → LinkedOn l (cs ++ c ∷ [])
  linked_push l [] c t h = (h, tt)
  linked_push l (x ∷ cs) c t h = (t.0, linked_push (lays l x) cs c t.1 h)

  linked_pop : (l : Lay) (cs : List (Kept J)) (c : Kept J) → LinkedOn l (cs ++ c ∷ []) → LinkedOn l cs × Links (laid_on l cs) c
  linked_pop l [] c t = (tt, t.0)
  linked_pop l (x ∷ cs) c t = let r = linked_pop (lays l x) cs c t.1 in ((t.0, r.0), r.1)

  -- ---- places are within the cells

  lays_within : (l : Lay) (c : Kept J) → IsWithin l → IsWithin (lays l c)
  lays_within l (kept.Entered p) w = record { base = omega arith; top = λ x. omega (arith, w.top x) }
  lays_within l (kept.Local y v p) w = record { base = omega (arith, w.base); top = λ x. choice_small (nat_eq x y) (suc l.size) (l.top x) (suc l.size) (omega arith) (omega (arith, w.top x)) }
  lays_within l (kept.Waits j) w = record { base = omega (arith, w.base); top = λ x. omega (arith, w.top x) }

  laid_within : (l : Lay) (cs : List (Kept J)) → IsWithin l → IsWithin (laid_on l cs)
  laid_within l [] w = w
  laid_within l (c ∷ cs) w = laid_within (lays l c) cs (lays_within l c w)

  all_within : (cs : List (Kept J)) → IsWithin (laid cs)
  all_within cs = laid_within start cs (record { base = omega arith; top = λ x. omega arith })

  lays_size : (l : Lay) (c : Kept J) → (lays l c).size ≡ suc l.size
  lays_size l (kept.Entered p) = refl
  lays_size l (kept.Local x v p) = refl
  lays_size l (kept.Waits j) = refl

  laid_size_on : (l : Lay) (cs : List (Kept J)) → (laid_on l cs).size ≡ length cs + l.size
  laid_size_on l [] = omega arith
  laid_size_on l (c ∷ cs) = let e = lays_size l c in let i = laid_size_on (lays l c) cs in omega (arith, e, i)

  laid_size : (cs : List (Kept J)) → (laid cs).size ≡ length cs
  laid_size cs = let i = laid_size_on start cs in omega (arith, i)

  number_of_last : (cs : List (Kept J)) (c : Kept J) → length (cs ++ c ∷ []) ≡ suc (laid cs).size
  number_of_last cs c = let e = length-append cs (c ∷ []) in let i = laid_size cs in omega (arith, e, i)

  -- ---- changes keep links

  pub no_cells : (base : ℕ) (cs : List (Kept J)) (tops : List ℕ) → cs ≡ [] → base ≡ 0 → tops ≡ [] → IsLinked cs base tops
  no_cells base cs tops none zeroed empty = record {
    cells = subst (λ z. LinkedOn start z) (sym none) tt;
    base = zeroed ∙ ap (λ z. (laid z).base) (sym none);
    tops = λ x. ap (λ z. get_or z x 0) empty ∙ ap (λ z. (laid z).top x) (sym none);
  }

  module _ (cs new : List (Kept J)) (base : ℕ) (tops : List ℕ) (h : IsLinked cs base tops) where
    pub enters : (top : ℕ) → new ≡ cs ++ kept.Entered base ∷ [] → top ≡ length new → IsLinked new top tops
    enters top is at = record {
      cells = subst (λ z. LinkedOn start z) (sym is) (linked_push start cs (kept.Entered base) h.cells h.base);
      base = at ∙ ap length is ∙ number_of_last cs (kept.Entered base) ∙ sym (ap (λ z. (laid z).base) is ∙ ap (λ l. l.base) (laid_push start cs (kept.Entered base)));
      tops = λ x. h.tops x ∙ sym (ap (λ z. (laid z).top x) is ∙ ap (λ l. l.top x) (laid_push start cs (kept.Entered base)));
    }

    pub waits : (j : J) → new ≡ cs ++ kept.Waits j ∷ [] → IsLinked new base tops
    waits j is = record {
      cells = subst (λ z. LinkedOn start z) (sym is) (linked_push start cs (kept.Waits j) h.cells tt);
      base = h.base ∙ sym (ap (λ z. (laid z).base) is ∙ ap (λ l. l.base) (laid_push start cs (kept.Waits j)));
      tops = λ x. h.tops x ∙ sym (ap (λ z. (laid z).top x) is ∙ ap (λ l. l.top x) (laid_push start cs (kept.Waits j)));
    }

    pub has_room : (mid : List ℕ) → ((y : ℕ) → get_or mid y 0 ≡ get_or tops y 0) → IsLinked cs base mid
    has_room mid same = record { cells = h.cells; base = h.base; tops = λ x. same x ∙ h.tops x }

    set_there : (mid : List ℕ) (x y n : ℕ) (b : Bool) → nat_eq y x ≡ b → x < length mid → ((y : ℕ) → get_or mid y 0 ≡ get_or tops y 0)
        → get_or (set mid x n) y 0 ≡ (if b then n else (laid cs).top y)
    set_there mid x y n true is room same = ap (λ z. get_or (set mid x n) z 0) (same_nat y x is) ∙ get_or-set_same mid x n 0 room
    set_there mid x y n false is room same = get_or-set_other mid x y n 0 (other_nat y x is) ∙ same y ∙ h.tops y

    pub binds : (mid after : List ℕ) (x below top : ℕ) (v : Value) → ((y : ℕ) → get_or mid y 0 ≡ get_or tops y 0) → x < length mid → below ≡ get_or mid x 0
        → new ≡ cs ++ kept.Local x v below ∷ [] → top ≡ length new → after ≡ set mid x top → IsLinked new base after
    binds mid after x below top v same room leads is at puts = record {
      cells = subst (λ z. LinkedOn start z) (sym is) (linked_push start cs (kept.Local x v below) h.cells (leads ∙ same x ∙ h.tops x));
      base = h.base ∙ sym (ap (λ z. (laid z).base) is ∙ ap (λ l. l.base) (laid_push start cs (kept.Local x v below)));
      tops = λ y.
          ap (λ z. get_or z y 0) puts
          ∙ set_there mid x y top (nat_eq y x) refl room same
          ∙ ap (λ z. if nat_eq y x then z else (laid cs).top y) (at ∙ ap length is ∙ number_of_last cs (kept.Local x v below))
          ∙ sym (ap (λ z. (laid z).top y) is ∙ ap (λ l. l.top y) (laid_push start cs (kept.Local x v below)));
    }

  module _ (cs old : List (Kept J)) (base : ℕ) (tops : List ℕ) (h : IsLinked old base tops) where
    lay : (c : Kept J) → old ≡ cs ++ c ∷ [] → laid old ≡ lays (laid cs) c
    lay c is = ap laid is ∙ laid_push start cs c

    links : (c : Kept J) → old ≡ cs ++ c ∷ [] → LinkedOn start cs × Links (laid cs) c
    links c is = linked_pop start cs c (subst (λ z. LinkedOn start z) is h.cells)

    pub leaves_frame : (below : ℕ) → old ≡ cs ++ kept.Entered below ∷ [] → IsLinked cs below tops
    leaves_frame below is = record {
      cells = (links (kept.Entered below) is).0;
      base = (links (kept.Entered below) is).1;
      tops = λ x. h.tops x ∙ ap (λ l. l.top x) (lay (kept.Entered below) is);
    }

    pub leaves_waiting : (j : J) → old ≡ cs ++ kept.Waits j ∷ [] → IsLinked cs base tops
    leaves_waiting j is = record {
      cells = (links (kept.Waits j) is).0;
      base = h.base ∙ ap (λ l. l.base) (lay (kept.Waits j) is);
      tops = λ x. h.tops x ∙ ap (λ l. l.top x) (lay (kept.Waits j) is);
    }

    get_past : (ts : List ℕ) (x : ℕ) → length ts ≤ x → get_or ts x 0 ≡ 0
    get_past [] x le = refl
    get_past (t ∷ ts) zero le = absurd (omega (arith, le))
    get_past (t ∷ ts) (suc x) le = get_past ts x (omega (arith, le))

    self_eq : (x : ℕ) → nat_eq x x ≡ true
    self_eq x = grind arith

    was_top : (x below : ℕ) (v : Value) → old ≡ cs ++ kept.Local x v below ∷ [] → get_or tops x 0 ≡ suc (laid cs).size
    was_top x below v is = h.tops x ∙ ap (λ l. l.top x) (lay (kept.Local x v below) is) ∙ ap (λ z. if z then suc (laid cs).size else (laid cs).top x) (self_eq x)

    set_back : (x y below : ℕ) (v : Value) (b : Bool) → nat_eq y x ≡ b → old ≡ cs ++ kept.Local x v below ∷ [] → get_or (set tops x below) y 0 ≡ (laid cs).top y
    set_back x y below v false other is =
        get_or-set_other tops x y below 0 (other_nat y x other) ∙ h.tops y ∙ ap (λ l. l.top y) (lay (kept.Local x v below) is)
        ∙ ap (λ z. if z then suc (laid cs).size else (laid cs).top y) other
    set_back x y below v true same is =
        ap (λ z. get_or (set tops x below) z 0) (same_nat y x same)
        ∙ get_or-set_same tops x below 0 (in_range (was_top x below v is))
        ∙ (links (kept.Local x v below) is).1
        ∙ ap (laid cs).top (sym (same_nat y x same))
      where
        in_range : get_or tops x 0 ≡ suc (laid cs).size → x < length tops
        in_range top = grind (arith, top, get_past tops x)

    pub leaves_local : (x below : ℕ) (v : Value) (after : List ℕ) → old ≡ cs ++ kept.Local x v below ∷ [] → after ≡ set tops x below → IsLinked cs base after
    leaves_local x below v after is puts = record {
      cells = (links (kept.Local x v below) is).0;
      base = h.base ∙ ap (λ l. l.base) (lay (kept.Local x v below) is);
      tops = λ y. ap (λ z. get_or z y 0) puts ∙ set_back x y below v (nat_eq y x) refl is;
    }

  -- ---- the topmost slot of a local

  scope_push : (env : Env Value) (cs : List (Cell J)) (c : Cell J) → scope_on env (cs ++ c ∷ []) ≡ scope_on (scope_on env cs) (c ∷ [])
  scope_push env [] c = refl
  scope_push env (Entered ∷ cs) c = scope_push [] cs c
  scope_push env (Local x v ∷ cs) c = scope_push ((x, v) ∷ env) cs c
  scope_push env (Waits j ∷ cs) c = scope_push env cs c

  scope_last : (cs : List (Kept J)) (c : Kept J) → scope (map plain (cs ++ c ∷ [])) ≡ scope_on (scope (map plain cs)) (plain c ∷ [])
  scope_last cs c = ap scope (map-append plain cs (c ∷ [])) ∙ scope_push [] (map plain cs) (plain c)

  clear_push : (x : ℕ) (cs : List (Cell J)) (c : Cell J) → IsClear x cs → IsClear x (c ∷ []) → IsClear x (cs ++ c ∷ [])
  clear_push x [] c h i = i
  clear_push x (Entered ∷ cs) c h i = h
  clear_push x (Local y v ∷ cs) c h i = (h.0, clear_push x cs c h.1 i)
  clear_push x (Waits j ∷ cs) c h i = clear_push x cs c h i

  record AtSlot (x : ℕ) (cs : List (Kept J)) (number : ℕ) : Type 0 where
    below : List (Kept J)
    value : Value
    link : ℕ
    above : List (Kept J)
    is : cs ≡ below ++ kept.Local x value link ∷ above
    place : suc (length below) ≡ number
    clear : IsClear x (map plain above)
    finds : found x (scope (map plain cs)) ≡ Some value

  record Slotted (x : ℕ) (cs : List (Kept J)) (l : Lay) : Type 0 where
    there : l.base < l.top x → AtSlot x cs (l.top x)
    none : l.top x ≤ l.base → found x (scope (map plain cs)) ≡ None

  -- a slot stays where it is under a cell that is not the local's
  stays : (x : ℕ) (cs : List (Kept J)) (c : Kept J) (number : ℕ) → AtSlot x cs number → IsClear x (plain c ∷ [])
      → found x (scope_on (scope (map plain cs)) (plain c ∷ [])) ≡ found x (scope (map plain cs)) → AtSlot x (cs ++ c ∷ []) number
  stays x cs c number s apart finds = record {
    below = s.below;
    value = s.value;
    link = s.link;
    above = s.above ++ c ∷ [];
    is = ap (λ z. z ++ c ∷ []) s.is ∙ append_assoc s.below (kept.Local x s.value s.link ∷ s.above) (c ∷ []);
    place = s.place;
    clear = subst (IsClear x) (sym (map-append plain s.above (c ∷ []))) (clear_push x (map plain s.above) (plain c) s.clear apart);
    finds = ap (found x) (scope_last cs c) ∙ finds ∙ s.finds;
  }

  local_more : (x : ℕ) (cs : List (Kept J)) (y : ℕ) (v : Value) (link : ℕ) (b : Bool) → nat_eq x y ≡ b → Slotted x cs (laid cs) → Slotted x (cs ++ kept.Local y v link ∷ []) (lays {J = J} (laid cs) (kept.Local y v link))
  local_more x cs y v link true same s =
      let top : (lays {J = J} (laid cs) (kept.Local y v link)).top x ≡ suc (laid cs).size = ap (λ z. if z then suc (laid cs).size else (laid cs).top x) same in
      let w = all_within cs in
      record {
        there = λ lt. record {
          below = cs;
          value = v;
          link = link;
          above = [];
          is = ap (λ z. cs ++ kept.Local z v link ∷ []) (sym (same_nat x y same));
          place = ap suc (sym (laid_size cs)) ∙ sym top;
          clear = tt;
          finds = ap (found x) (scope_last cs (kept.Local y v link)) ∙ ap (λ z. if z then Some v else found x (scope (map plain cs))) same;
        };
        none = λ le. absurd (omega (arith, le, top, w.base));
      }
  local_more x cs y v link false other s =
      let top : (lays {J = J} (laid cs) (kept.Local y v link)).top x ≡ (laid cs).top x = ap (λ z. if z then suc (laid cs).size else (laid cs).top x) other in
      let finds : found x (scope_on {J = J} (scope (map plain cs)) (Local y v ∷ [])) ≡ found x (scope (map plain cs)) = ap (λ z. if z then Some v else found x (scope (map plain cs))) other in
      record {
        there = λ lt. subst (AtSlot x (cs ++ kept.Local y v link ∷ [])) (sym top) (stays x cs (kept.Local y v link) ((laid cs).top x) (s.there (subst (λ z. (laid cs).base < z) top lt)) (other, tt) finds);
        none = λ le. ap (found x) (scope_last cs (kept.Local y v link)) ∙ finds ∙ s.none (subst (λ z. z ≤ (laid cs).base) top le);
      }

  one_more : (x : ℕ) (cs : List (Kept J)) (c : Kept J) → Slotted x cs (laid cs) → Slotted x (cs ++ c ∷ []) (lays (laid cs) c)
  one_more x cs (kept.Entered p) s =
      let w = all_within cs in
      record { there = λ lt. absurd (omega (arith, lt, w.top x)); none = λ le. ap (found x) (scope_last cs (kept.Entered p)) }
  one_more x cs (kept.Local y v link) s = local_more x cs y v link (nat_eq x y) refl s
  one_more x cs (kept.Waits j) s = record {
    there = λ lt. stays x cs (kept.Waits j) ((laid cs).top x) (s.there lt) tt refl;
    none = λ le. ap (found x) (scope_last cs (kept.Waits j)) ∙ s.none le;
  }

  slotted : (x : ℕ) (cs : List (Kept J)) → Slotted x cs (laid cs)
  slotted x = snoc_ind (λ cs. Slotted x cs (laid cs)) (record { there = λ lt. absurd (omega (arith, lt)); none = λ le. refl })
      (λ cs c s. subst (Slotted x (cs ++ c ∷ [])) (sym (laid_push start cs c)) (one_more x cs c s))

  -- ---- slots are read and written

  module _ (cs : List (Kept J)) (base : ℕ) (tops : List ℕ) (h : IsLinked cs base tops) (x top : ℕ) (at : top ≡ get_or tops x 0) where
    is_top : top ≡ (laid cs).top x
    is_top = at ∙ h.tops x

    pub not_in_scope : top ≤ base → None ≡ found x (scope (map plain cs))
    not_in_scope le = let t = is_top in sym ((slotted x cs).none (omega (arith, le, t, h.base)))

    slot : base < top → AtSlot x cs top
    slot lt = let t = is_top in subst (AtSlot x cs) (sym t) ((slotted x cs).there (omega (arith, lt, t, h.base)))

    get_slot : (s : AtSlot x cs top) → slice_get cs (top - 1) ≡ Some (kept.Local x s.value s.link)
    get_slot s =
        let e : top - 1 ≡ length s.below = omega (arith, s.place) in
        ap (slice_get cs) e ∙ ap (λ z. slice_get z (length s.below)) s.is ∙ get_seam s.below (kept.Local x s.value s.link) s.above

    pub is_in_slot : base < top → local_at (slice_get cs (top - 1)) ≡ found x (scope (map plain cs))
    is_in_slot lt = let s = slot lt in ap local_at (get_slot s) ∙ sym s.finds

    pub slot_is_there : base < top → is_local (slice_get cs (top - 1)) ≡ true
    slot_is_there lt = ap is_local (get_slot (slot lt))

    put_there : (s : AtSlot x cs top) (v : Value) → put_slot (top - 1) v (slice_get cs (top - 1)) cs ≡ s.below ++ kept.Local x v s.link ∷ s.above
    put_there s v =
        let e : top - 1 ≡ length s.below = omega (arith, s.place) in
        ap (λ z. put_slot (top - 1) v z cs) (get_slot s)
        ∙ ap (λ z. slice_set cs z (kept.Local x v s.link)) e
        ∙ ap (λ z. slice_set z (length s.below) (kept.Local x v s.link)) s.is
        ∙ set-append_seam s.below (kept.Local x s.value s.link) s.above (kept.Local x v s.link)

    linked_set : (l : Lay) (v u : Value) (link : ℕ) (below above : List (Kept J)) → LinkedOn l (below ++ kept.Local x u link ∷ above) → LinkedOn l (below ++ kept.Local x v link ∷ above)
    linked_set l v u link [] above t = t
    linked_set l v u link (c ∷ below) above t = (t.0, linked_set (lays l c) v u link below above t.1)

    laid_set : (l : Lay) (v u : Value) (link : ℕ) (below above : List (Kept J)) → laid_on l (below ++ kept.Local x v link ∷ above) ≡ laid_on l (below ++ kept.Local x u link ∷ above)
    laid_set l v u link [] above = refl
    laid_set l v u link (c ∷ below) above = laid_set (lays l c) v u link below above

    pub puts_value : (v : Value) (new : List (Kept J)) → base < top → new ≡ put_slot (top - 1) v (slice_get cs (top - 1)) cs → Puts x v (map plain cs) (map plain new)
    puts_value v new lt put =
        let s = slot lt in
        record {
          below = map plain s.below;
          before = s.value;
          above = map plain s.above;
          clear = s.clear;
          was = ap (map plain) s.is ∙ map-append plain s.below (kept.Local x s.value s.link ∷ s.above);
          is = ap (map plain) (put ∙ put_there s v) ∙ map-append plain s.below (kept.Local x v s.link ∷ s.above);
        }

    pub stays_linked : (v : Value) (new : List (Kept J)) → base < top → new ≡ put_slot (top - 1) v (slice_get cs (top - 1)) cs → IsLinked new base tops
    stays_linked v new lt put =
        let s = slot lt in
        let is : new ≡ s.below ++ kept.Local x v s.link ∷ s.above = put ∙ put_there s v in
        let lays_same : laid new ≡ laid cs = ap laid is ∙ laid_set start v s.value s.link s.below s.above ∙ sym (ap laid s.is) in
        record {
          cells = subst (λ z. LinkedOn start z) (sym is) (linked_set start v s.value s.link s.below s.above (subst (λ z. LinkedOn start z) s.is h.cells));
          base = h.base ∙ sym (ap (λ l. l.base) lays_same);
          tops = λ y. h.tops y ∙ sym (ap (λ l. l.top y) lays_same);
        }
