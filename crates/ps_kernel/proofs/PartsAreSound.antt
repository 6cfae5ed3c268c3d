-- What the rules say of a part of the text of a kernel, and where the lambdas stand in it.
-- For: `one_answer`, `lambdas_have_places` and `bodies_are_scoped`
use Rattle.std.proofs.Common.{◌≡◌, ℕ, ◌+◌, ◌≤◌, Bool, true, false, List, [], ◌∷◌, ◌++◌, map, slice_get, inl, inr, refl, sym, ap, ◌∙◌, subst, arith}
use Rattle.std.specs.Prelude.{◌==◌}
use Rattle.std.proofs.lemmas.Bool.{eqb-true}
use Rattle.ps_kernel.specs.declared.expr.GroupEntry.{GroupEntry}
use Rattle.ps_kernel.specs.declared.kernel.Kernel.{Kernel}
use Rattle.ps_kernel.specs.Most.{most_depth}
use Rattle.ps_prims.specs.Once.{times}
use Rattle.ps_kernel.specs.Lists.{stands_in, Each, Among}
use Rattle.ps_kernel.specs.Marks.{Mark, Stands, BindsParameter, BindsLet, BindsEntry, Mentions, Sets, locals_of, body_marks, lambda_marks, group_marks, marks}
use Rattle.ps_kernel.specs.Captured.{lambdas_of}
use Rattle.ps_kernel.specs.Texts.{standing, bound, named, assigned, text, group_of}
use Rattle.ps_kernel.specs.Rules.{has_level, is_in_scope}
use Rattle.ps_kernel.specs.Laws.{unscoped}
use Rattle.ps_kernel.proofs.NumbersStandInLists.{or_cases, in_append, not_in_append, times_append, in_times, is_false, each_left, each_right}
use Rattle.ps_kernel.proofs.ReadingsKeepRelations.{is_plain, Kept}

-- ---- lists of marks

pub named_append : (a b : List Mark) → named (a ++ b) ≡ named a ++ named b
named_append [] b = refl
named_append (Mentions x s ∷ a) b = ap (λ (xs : List ℕ). x ∷ xs) (named_append a b)
named_append (Sets x s ∷ a) b = ap (λ (xs : List ℕ). x ∷ xs) (named_append a b)
named_append (m ∷ a) b = named_append a b

unscoped_append : (a b : List Mark) → unscoped (a ++ b) ≡ unscoped a ++ unscoped b
unscoped_append [] b = refl
unscoped_append (Mentions x s ∷ a) b = ap (λ (ms : List Mark). Mentions x [] ∷ ms) (unscoped_append a b)
unscoped_append (Sets x s ∷ a) b = ap (λ (ms : List Mark). Sets x [] ∷ ms) (unscoped_append a b)
unscoped_append (m ∷ a) b = ap (λ (ms : List Mark). m ∷ ms) (unscoped_append a b)

named_unscoped : (ms : List Mark) → named (unscoped ms) ≡ named ms
named_unscoped [] = refl
named_unscoped (Mentions x s ∷ ms) = ap (λ (xs : List ℕ). x ∷ xs) (named_unscoped ms)
named_unscoped (Sets x s ∷ ms) = ap (λ (xs : List ℕ). x ∷ xs) (named_unscoped ms)
named_unscoped (m ∷ ms) = named_unscoped ms

bound_unscoped : (ms : List Mark) → bound (unscoped ms) ≡ bound ms
bound_unscoped [] = refl
bound_unscoped (BindsParameter x ∷ ms) = ap (λ (xs : List ℕ). x ∷ xs) (bound_unscoped ms)
bound_unscoped (BindsLet x ∷ ms) = ap (λ (xs : List ℕ). x ∷ xs) (bound_unscoped ms)
bound_unscoped (BindsEntry e ∷ ms) = ap (λ (xs : List ℕ). e.local ∷ xs) (bound_unscoped ms)
bound_unscoped (m ∷ ms) = bound_unscoped ms

-- what texts that differ in scopes alone name and bind
pub same_named : (ms ns : List Mark) → unscoped ms ≡ unscoped ns → named ms ≡ named ns
same_named ms ns e = sym (named_unscoped ms) ∙ ap named e ∙ named_unscoped ns

pub same_bound : (ms ns : List Mark) → unscoped ms ≡ unscoped ns → bound ms ≡ bound ns
same_bound ms ns e = sym (bound_unscoped ms) ∙ ap bound e ∙ bound_unscoped ns

pub bound_append : (a b : List Mark) → bound (a ++ b) ≡ bound a ++ bound b
bound_append [] b = refl
bound_append (BindsParameter x ∷ a) b = ap (λ (xs : List ℕ). x ∷ xs) (bound_append a b)
bound_append (BindsLet x ∷ a) b = ap (λ (xs : List ℕ). x ∷ xs) (bound_append a b)
bound_append (BindsEntry e ∷ a) b = ap (λ (xs : List ℕ). e.local ∷ xs) (bound_append a b)
bound_append (m ∷ a) b = bound_append a b

pub standing_append : (a b : List Mark) → standing (a ++ b) ≡ standing a ++ standing b
standing_append [] b = refl
standing_append (Stands l g ∷ a) b = ap (λ (xs : List ℕ). l ∷ xs) (standing_append a b)
standing_append (m ∷ a) b = standing_append a b

-- marks that bind locals, and do nothing else
pub record Binders (ms : List Mark) (xs : List ℕ) : Type 0 where
  pub binds : bound ms ≡ xs
  pub names : named ms ≡ []
  pub stands : standing ms ≡ []

pub binds_parameters : (xs : List ℕ) → Binders (map BindsParameter xs) xs
binds_parameters [] = record { binds = refl; names = refl; stands = refl }
binds_parameters (x ∷ xs) = let r = binds_parameters xs in record { binds = ap (λ (ys : List ℕ). x ∷ ys) r.binds; names = r.names; stands = r.stands }

pub binds_entries : (g : List GroupEntry) → Binders (map BindsEntry g) (locals_of g)
binds_entries [] = record { binds = refl; names = refl; stands = refl }
binds_entries (e ∷ g) = let r = binds_entries g in record { binds = ap (λ (ys : List ℕ). e.local ∷ ys) r.binds; names = r.names; stands = r.stands }

pub binds_let : (x : ℕ) → Binders (BindsLet x ∷ []) (x ∷ [])
binds_let x = record { binds = refl; names = refl; stands = refl }

pub named_behind : (b ms : List Mark) (xs : List ℕ) → Binders b xs → named (b ++ ms) ≡ named ms
named_behind b ms xs r = named_append b ms ∙ ap (λ (ys : List ℕ). ys ++ named ms) r.names

pub bound_behind : (b ms : List Mark) (xs : List ℕ) → Binders b xs → bound (b ++ ms) ≡ xs ++ bound ms
bound_behind b ms xs r = bound_append b ms ∙ ap (λ (ys : List ℕ). ys ++ bound ms) r.binds

standing_behind : (b ms : List Mark) (xs : List ℕ) → Binders b xs → standing (b ++ ms) ≡ standing ms
standing_behind b ms xs r = standing_append b ms ∙ ap (λ (ys : List ℕ). ys ++ standing ms) r.stands

-- ---- what the rules say

module _ (k : Kernel) where
  abbrev pub is_assigned : ℕ → Bool
  is_assigned x = stands_in x (assigned (text k))

  -- none of the locals of a group is assigned
  abbrev pub Stays : List GroupEntry → Type 0
  Stays g = (x : ℕ) → stands_in x (locals_of g) ≡ true → is_assigned x ≡ false

  abbrev pub says : Mark → Type 0
  says (Stands l g) = group_of k l ≡ g
  says (BindsEntry e) = is_assigned e.local ≡ false
  says (Sets x s) = is_assigned x ≡ true
  says m = Unit {0}

  -- of a mark alone
  pub record IsFine (m : Mark) : Type 0 where
    pub level : has_level m ≡ true
    pub in_scope : is_in_scope m ≡ true
    pub meaning : says m
    pub there : Among m (text k)

  -- of a part of the text, where these locals are in scope: it binds none of them
  pub record Sound (s : List ℕ) (ms : List Mark) : Type 0 where
    pub fine : Each IsFine ms
    pub fresh : (x : ℕ) → times x s + times x (bound ms) ≤ 1

  counts : (x : ℕ) (a b : List Mark) → times x (bound (a ++ b)) ≡ times x (bound a) + times x (bound b)
  counts x a b = ap (times x) (bound_append a b) ∙ times_append x (bound a) (bound b)

  pub sound_left : (s : List ℕ) (a b : List Mark) → Sound s (a ++ b) → Sound s a
  sound_left s a b h = record { fine = each_left IsFine a b h.fine; fresh = λ x. let e = counts x a b in let low = h.fresh x in omega (arith, e, low) }

  pub sound_right : (s : List ℕ) (a b : List Mark) → Sound s (a ++ b) → Sound s b
  sound_right s a b h = record { fine = each_right IsFine a b h.fine; fresh = λ x. let e = counts x a b in let low = h.fresh x in omega (arith, e, low) }

  pub sound_behind : (s xs : List ℕ) (b ms : List Mark) → Binders b xs → Sound s (b ++ ms) → Sound (xs ++ s) ms
  sound_behind s xs b ms r h = record {
    fine = each_right IsFine b ms h.fine;
    fresh = λ x.
        let e = ap (times x) (bound_behind b ms xs r) ∙ times_append x xs (bound ms) in
        let f = times_append x xs s in
        let low = h.fresh x in omega (arith, e, f, low);
  }

  -- a local that is in scope outside of a part is not bound in it
  pub not_bound : (s : List ℕ) (ms : List Mark) → Sound s ms → (x : ℕ) → stands_in x s ≡ true → stands_in x (bound ms) ≡ false
  not_bound s ms h x i = is_false (stands_in x (bound ms)) (λ b. let one = in_times x s i in let two = in_times x (bound ms) b in let low = h.fresh x in absurd (omega (arith, one, two, low)))

  pub entries_stay : (g : List GroupEntry) → Each IsFine (map BindsEntry g) → Stays g
  entries_stay [] h x i = absurd cc
  entries_stay (e ∷ g) h x i = elim (or_cases (x == e.local) (stands_in x (locals_of g)) i) [ inl is ↦ ap is_assigned (eqb-true x e.local is) ∙ h.0.meaning | inr rest ↦ entries_stay g h.1 x rest ]

  -- what is known of the group of a letrec: none of its locals is assigned, each of its lambdas stands in it, and its entries
  -- are those of a letrec
  pub record IsGroup (g : List GroupEntry) : Type 0 where
    pub stays : Stays g
    pub stands : (m : ℕ) → stands_in m (lambdas_of g) ≡ true → group_of k m ≡ g
    pub entries : (e : GroupEntry) → Among e g → Among (BindsEntry e) (text k)

  entries_there : (g : List GroupEntry) → Each IsFine (map BindsEntry g) → (e : GroupEntry) → Among e g → Among (BindsEntry e) (text k)
  entries_there [] h e i = absurd i
  entries_there (d ∷ g) h e i = elim i [ inl is ↦ subst (λ (z : GroupEntry). Among (BindsEntry z) (text k)) (sym is) h.0.there | inr rest ↦ entries_there g h.1 e rest ]

  group_stands : (n : ℕ) (s : List ℕ) (g es : List GroupEntry) → Each IsFine (group_marks k (marks k n) s g es) → (m : ℕ) → stands_in m (lambdas_of es) ≡ true → group_of k m ≡ g
  group_stands n s g [] h m i = absurd cc
  group_stands n s g (e ∷ es) h m i = elim (or_cases (m == e.lambda) (stands_in m (lambdas_of es)) i) [
    | inl is ↦ ap (group_of k) (eqb-true m e.lambda is) ∙ h.0.meaning
    | inr rest ↦ group_stands n s g es (each_right IsFine (lambda_marks k (marks k n) s g e.lambda) (group_marks k (marks k n) s g es) h) m rest
  ]

  -- ---- reading to more levels, with other locals in scope

  pub record Deepens (s : List ℕ) (ms : List Mark) (t : List ℕ) (ns : List Mark) : Type 0 where
    pub same : Each IsFine ms → unscoped ns ≡ unscoped ms

  deepens_append : (s t : List ℕ) (a b c d : List Mark) → Deepens s a t c → Deepens s b t d → Deepens s (a ++ b) t (c ++ d)
  deepens_append s t a b c d p q = record {
    same = λ h.
        unscoped_append c d
        ∙ ap (λ (xs : List Mark). xs ++ unscoped d) (p.same (each_left IsFine a b h))
        ∙ ap (λ (xs : List Mark). unscoped a ++ xs) (q.same (each_right IsFine a b h))
        ∙ sym (unscoped_append a b);
  }

  deepens_behind : (s t u v : List ℕ) (b ms ns : List Mark) → Deepens u ms v ns → Deepens s (b ++ ms) t (b ++ ns)
  deepens_behind s t u v b ms ns p = record {
    same = λ h. unscoped_append b ns ∙ ap (λ (xs : List Mark). unscoped b ++ xs) (p.same (each_right IsFine b ms h)) ∙ sym (unscoped_append b ms);
  }

  pub deepens : (d : ℕ) → Kept k d (λ g. Unit {0}) Deepens
  deepens d = record {
    alone = tt;
    nothing = λ s t. record { same = λ h. refl };
    append = deepens_append;
    deep = λ s t tail p. record { same = λ h. let bad = h.0.level in absurd cc };
    plain = λ s t m h. record { same = λ f. refl };
    mentions = λ s t x. record { same = λ h. refl };
    sets = λ s t x. record { same = λ h. refl };
    parameters = λ s t xs ms ns r. deepens_behind s t (xs ++ s) (xs ++ t) (map BindsParameter xs) ms ns r;
    lets = λ s t x ms ns r. deepens_behind s t (x ∷ s) (x ∷ t) (BindsLet x ∷ []) ms ns r;
    letrecs = λ n small s t g ms ns r. deepens_behind s t (locals_of g ++ s) (locals_of g ++ t) (map BindsEntry g) (group_marks k (marks k n) (locals_of g ++ s) g g ++ ms) ns (r tt);
    lambdas = λ n small s t l g h ms r. deepens_behind s t s t (Stands l g ∷ []) (body_marks (marks k n) s (slice_get k.lambdas l)) ms r;
  }

  -- ---- what is named and not bound is in scope

  pub record Leads (s : List ℕ) (ms : List Mark) (t : List ℕ) (ns : List Mark) : Type 0 where
    pub lead : Each IsFine ms → (x : ℕ) → stands_in x (named ms) ≡ true → stands_in x (bound ms) ≡ false → stands_in x s ≡ true

  leads_append : (s t : List ℕ) (a b c d : List Mark) → Leads s a t c → Leads s b t d → Leads s (a ++ b) t (c ++ d)
  leads_append s t a b c d p q = record {
    lead = λ h x i o.
        let n = not_in_append x (bound a) (bound b) (sym (ap (stands_in x) (bound_append a b)) ∙ o) in
        elim (in_append x (named a) (named b) (sym (ap (stands_in x) (named_append a b)) ∙ i)) [ inl l ↦ p.lead (each_left IsFine a b h) x l n.0 | inr r ↦ q.lead (each_right IsFine a b h) x r n.1 ];
  }

  leads_behind : (s t xs : List ℕ) (b ms ns os : List Mark) → Binders b xs → Leads (xs ++ s) ms t ns → Leads s (b ++ ms) t os
  leads_behind s t xs b ms ns os r p = record {
    lead = λ h x i o.
        let n = not_in_append x xs (bound ms) (sym (ap (stands_in x) (bound_behind b ms xs r)) ∙ o) in
        let inside = p.lead (each_right IsFine b ms h) x (sym (ap (stands_in x) (named_behind b ms xs r)) ∙ i) n.1 in
        elim (in_append x xs s inside) [ inl l ↦ let out = n.0 in absurd cc | inr y ↦ y ];
  }

  leads_plain : (s t : List ℕ) (m : Mark) → is_plain m ≡ true → Leads s (m ∷ []) t (m ∷ [])
  leads_plain s t m h = record { lead = λ f x i o. by m h x i }
    where
      by : (m : Mark) → is_plain m ≡ true → (x : ℕ) → stands_in x (named (m ∷ [])) ≡ true → stands_in x s ≡ true
      by (Mentions y u) h x i = absurd cc
      by (Sets y u) h x i = absurd cc
      by m h x i = absurd cc

  only : (x y : ℕ) (s : List ℕ) → stands_in x (y ∷ []) ≡ true → stands_in y s ≡ true → stands_in x s ≡ true
  only x y s i h = elim (or_cases (x == y) false i) [ inl is ↦ ap (λ (z : ℕ). stands_in z s) (eqb-true x y is) ∙ h | inr bad ↦ absurd cc ]

  pub leads : Kept k 0 (λ g. Unit {0}) Leads
  leads = record {
    alone = tt;
    nothing = λ s t. record { lead = λ h x i o. absurd cc };
    append = leads_append;
    deep = λ s t tail p. record { lead = λ h x i o. absurd cc };
    plain = leads_plain;
    mentions = λ s t x. record { lead = λ h y i o. only y x s i h.0.in_scope };
    sets = λ s t x. record { lead = λ h y i o. only y x s i h.0.in_scope };
    parameters = λ s t xs ms ns r. leads_behind s t xs (map BindsParameter xs) ms ns (map BindsParameter xs ++ ns) (binds_parameters xs) (record { lead = r.lead });
    lets = λ s t x ms ns r. leads_behind s t (x ∷ []) (BindsLet x ∷ []) ms ns (BindsLet x ∷ ns) (binds_let x) (record { lead = r.lead });
    letrecs = λ n small s t g ms ns r. leads_behind s t (locals_of g) (map BindsEntry g) (group_marks k (marks k n) (locals_of g ++ s) g g ++ ms) ns (map BindsEntry g ++ ns) (binds_entries g) (record { lead = (r tt).lead });
    lambdas = λ n small s t l g h ms r. record { lead = λ f x i o. r.lead f.1 x i o };
  }

  -- ---- where a lambda stands

  module _ (l : ℕ) where
    pub record Occurs : Type 0 where
      pub levels : ℕ
      pub small : levels ≤ most_depth
      pub scope : List ℕ
      pub group : List GroupEntry
      pub known : IsGroup group
      pub sound : Sound scope (lambda_marks k (marks k levels) scope group l)

    pub record Finds (s : List ℕ) (ms : List Mark) (t : List ℕ) (ns : List Mark) : Type 0 where
      pub find : Sound s ms → stands_in l (standing ms) ≡ true → Occurs

    finds_append : (s t : List ℕ) (a b c d : List Mark) → Finds s a t c → Finds s b t d → Finds s (a ++ b) t (c ++ d)
    finds_append s t a b c d p q = record {
      find = λ h i.
          elim (in_append l (standing a) (standing b) (sym (ap (stands_in l) (standing_append a b)) ∙ i)) [ inl x ↦ p.find (sound_left s a b h) x | inr y ↦ q.find (sound_right s a b h) y ];
    }

    finds_behind : (s t xs : List ℕ) (b ms ns os : List Mark) → Binders b xs → Finds (xs ++ s) ms t ns → Finds s (b ++ ms) t os
    finds_behind s t xs b ms ns os r p = record { find = λ h i. p.find (sound_behind s xs b ms r h) (sym (ap (stands_in l) (standing_behind b ms xs r)) ∙ i) }

    finds_plain : (s t : List ℕ) (m : Mark) → is_plain m ≡ true → Finds s (m ∷ []) t (m ∷ [])
    finds_plain s t m h = record { find = λ f i. by m h i }
      where
        by : (m : Mark) → is_plain m ≡ true → stands_in l (standing (m ∷ [])) ≡ true → Occurs
        by (Stands n g) h i = absurd cc
        by m h i = absurd cc

    finds_letrec : (n : ℕ) → n ≤ most_depth → (s t : List ℕ) (g : List GroupEntry) (ms ns : List Mark)
        → (IsGroup g → Finds (locals_of g ++ s) (group_marks k (marks k n) (locals_of g ++ s) g g ++ ms) (locals_of g ++ t) ns)
        → Finds s (map BindsEntry g ++ (group_marks k (marks k n) (locals_of g ++ s) g g ++ ms)) t (map BindsEntry g ++ ns)
    finds_letrec n small s t g ms ns r = record {
      find = λ h i.
          let gs = group_marks k (marks k n) (locals_of g ++ s) g g in
          let known : IsGroup g = record {
            stays = entries_stay g (each_left IsFine (map BindsEntry g) (gs ++ ms) h.fine);
            stands = group_stands n (locals_of g ++ s) g g (each_left IsFine gs ms (each_right IsFine (map BindsEntry g) (gs ++ ms) h.fine));
            entries = entries_there g (each_left IsFine (map BindsEntry g) (gs ++ ms) h.fine);
          } in
          (finds_behind s t (locals_of g) (map BindsEntry g) (gs ++ ms) ns (map BindsEntry g ++ ns) (binds_entries g) (record { find = (r known).find })).find h i;
    }

    finds_lambda : (n : ℕ) → n ≤ most_depth → (s t : List ℕ) (m : ℕ) (g : List GroupEntry) → IsGroup g → (ms : List Mark) → Finds s (body_marks (marks k n) s (slice_get k.lambdas m)) t ms
        → Finds s (lambda_marks k (marks k n) s g m) t (Stands m g ∷ ms)
    finds_lambda n small s t m g known ms r = record {
      find = λ h i. elim (or_cases (l == m) (stands_in l (standing (body_marks (marks k n) s (slice_get k.lambdas m)))) i) [
        | inl is ↦ record { levels = n; small = small; scope = s; group = g; known = known; sound = subst (λ (z : ℕ). Sound s (lambda_marks k (marks k n) s g z)) (sym (eqb-true l m is)) h }
        | inr rest ↦ r.find (sound_right s (Stands m g ∷ []) (body_marks (marks k n) s (slice_get k.lambdas m)) h) rest
      ];
    }

    pub finds : Kept k 0 IsGroup Finds
    finds = record {
      alone = record { stays = λ x i. absurd cc; stands = λ m i. absurd cc; entries = λ e i. absurd i };
      nothing = λ s t. record { find = λ h i. absurd cc };
      append = finds_append;
      deep = λ s t tail p. record { find = λ h i. absurd cc };
      plain = finds_plain;
      mentions = λ s t x. record { find = λ h i. absurd cc };
      sets = λ s t x. record { find = λ h i. absurd cc };
      parameters = λ s t xs ms ns r. finds_behind s t xs (map BindsParameter xs) ms ns (map BindsParameter xs ++ ns) (binds_parameters xs) (record { find = r.find });
      lets = λ s t x ms ns r. finds_behind s t (x ∷ []) (BindsLet x ∷ []) ms ns (BindsLet x ∷ ns) (binds_let x) (record { find = r.find });
      letrecs = finds_letrec;
      lambdas = finds_lambda;
    }
