-- The text of a kernel, as the walk over it ends.
-- For: `is_right`
use Rattle.std.proofs.Common.{◌≡◌, ◌↔◌, ℕ, zero, suc, Option, Some, inl, inr, ◌+◌, ◌≤◌, Bool, true, false, List, [], ◌∷◌, length, map, refl, sym, ap, subst, ◌∙◌, arith}
use Rattle.std.specs.Prelude.{◌&&◌, ◌||◌, ◌==◌, not, if◌then◌else◌, slice_get}
use Rattle.std.specs.List.{fold, list_all}
use Rattle.std.proofs.lemmas.Bool.{and_parts, and_from, eqb-true, eq-eqb}
use Rattle.ps_kernel.specs.declared.kernel.Kernel.{Kernel}
use Rattle.ps_kernel.specs.declared.validity.walk.Walk.{Walk}
use Rattle.ps_kernel.specs.Most.{most_depth, most_nodes}
use Rattle.ps_prims.specs.Once.{times, EachOnce, AtMostOnce}
use Rattle.ps_kernel.specs.Rules.{has_number, has_operands, has_parts, has_labels, has_tail, has_level, nodes, is_in_scope, Apart, IsRightText, CapturedStay}
use Rattle.ps_kernel.specs.Texts.{standing, bound, assigned, entries, form_marks, text}
use Rattle.ps_kernel.specs.Marks.{Mark}
use Rattle.ps_kernel.specs.InsideSteps.{Step, passed, is_scoped, form_steps}
use Rattle.ps_kernel.proofs.StepsReadMarks.{blind, nodes_blind, standing_blind, bound_blind, assigned_blind, entries_blind, alone_blind, form_same, form_scoped}
use Rattle.ps_kernel.specs.InsideWalks.{step, starts, stand, is_right_alone, entry_of, is_none, put, has_none, keeps_none}
use Rattle.ps_kernel.specs.Lists.{stands_in}
use Rattle.ps_kernel.specs.declared.kernel.Lambda.{Lambda}
use Rattle.ps_kernel.proofs.NumbersStandInLists.{or_cases, or_left, or_right, is_false}
use Rattle.ps_kernel.proofs.FlagsTellOnce.{unset_flags, each_of, meets_of, all_of as all_set_of}
use Rattle.ps_kernel.proofs.TableTellsScopes.{Table, found, tells_nothing, Fresh, goes_locals, goes_scoped, goes_fresh, goes_from}
use Rattle.ps_kernel.proofs.WalkGoesOn.{goes, ends_right, ends_stands, ends_assigned, ends_entries, goes_alone, goes_nodes, goes_meets, goes_table, goes_if}

-- a test of two parts on each member
all_first : {A : Type 0} (f g : A → Bool) (xs : List A) → list_all (λ x. f x && g x) xs ≡ true → list_all f xs ≡ true
all_first f g [] h = refl
all_first f g (x ∷ xs) h = let p = and_parts (f x && g x) (list_all (λ x. f x && g x) xs) h in and_from (f x) (list_all f xs) (and_parts (f x) (g x) p.0).0 (all_first f g xs p.1)

all_second : {A : Type 0} (f g : A → Bool) (xs : List A) → list_all (λ x. f x && g x) xs ≡ true → list_all g xs ≡ true
all_second f g [] h = refl
all_second f g (x ∷ xs) h = let p = and_parts (f x && g x) (list_all (λ x. f x && g x) xs) h in and_from (g x) (list_all g xs) (and_parts (f x) (g x) p.0).1 (all_second f g xs p.1)

all_both : {A : Type 0} (f g : A → Bool) (xs : List A) → list_all f xs ≡ true → list_all g xs ≡ true → list_all (λ x. f x && g x) xs ≡ true
all_both f g [] h k = refl
all_both f g (x ∷ xs) h k = let p = and_parts (f x) (list_all f xs) h in let q = and_parts (g x) (list_all g xs) k in and_from (f x && g x) (list_all (λ x. f x && g x) xs) (and_from (f x) (g x) p.0 q.0) (all_both f g xs p.1 q.1)

-- what a walk finds of its steps
pub record AreRight (k : Kernel) (ss : List Step) : Type 0 where
  pub alone : list_all (is_right_alone k) (passed ss) ≡ true
  pub lambdas : EachOnce (length k.lambdas) (standing (passed ss))
  pub bound_once : AtMostOnce (bound (passed ss))
  pub in_scope : is_scoped [] ss ≡ true
  pub size : nodes (passed ss) ≤ most_nodes

module _ (k : Kernel) (ss : List Step) where
  abbrev begin : Walk
  begin = starts (length k.lambdas)

  -- a walk that may take all steps, and meets each lambda
  rules_of : goes k begin ss ≡ true → list_all (λ b. b) (fold stand (unset_flags (length k.lambdas)) (standing (passed ss))) ≡ true → AreRight k ss
  rules_of g a =
      let table : goes_locals [] ss ≡ true = goes_table k begin ss g in
      let small : 0 + nodes (passed ss) ≤ most_nodes = goes_nodes k begin ss (omega arith) g in
      let low : Fresh [] [] = λ y. omega arith in
      record {
        alone = goes_alone k begin ss g;
        lambdas = each_of (length k.lambdas) (standing (passed ss)) (goes_meets k begin ss g) a;
        bound_once = record { once = λ x. let f : times x (bound (passed ss)) + 0 ≤ 1 = goes_fresh [] [] [] ss tells_nothing low table x in omega arith };
        in_scope = goes_scoped [] [] [] ss tells_nothing table;
        size = omega arith;
      }

  goes_of : AreRight k ss → goes k begin ss ≡ true
  goes_of r =
      goes_if k begin ss r.alone
      (let size : nodes (passed ss) ≤ most_nodes = r.size in omega arith)
      (meets_of (length k.lambdas) (standing (passed ss)) r.lambdas)
      (goes_from [] [] [] ss tells_nothing r.in_scope (λ x. let once : times x (bound (passed ss)) ≤ 1 = r.bound_once.once x in omega arith))

  module _ (w : Walk) (e : w ≡ fold (step k) begin ss) where
    right_is : w.right ≡ goes k begin ss
    right_is = ap (λ (v : Walk). v.right) e ∙ ends_right k begin ss refl

    pub stopped_walk : w.right ≡ false → (false ≡ true) ↔ AreRight k ss
    stopped_walk h = (λ x. absurd cc, λ r. sym h ∙ right_is ∙ goes_of r)

    pub whole_walk : w.right ≡ true → (list_all (λ b. b) w.stands ≡ true) ↔ AreRight k ss
    whole_walk h =
        let g : goes k begin ss ≡ true = sym right_is ∙ h in
        let flags : w.stands ≡ fold stand (unset_flags (length k.lambdas)) (standing (passed ss)) = ap (λ (v : Walk). v.stands) e ∙ ends_stands k begin ss refl g in
        (λ a. rules_of g (sym (ap (list_all (λ b. b)) flags) ∙ a), λ r. ap (list_all (λ b. b)) flags ∙ all_set_of (length k.lambdas) (standing (passed ss)) r.lambdas)

    pub whole_assigned : w.right ≡ true → w.assigned ≡ assigned (passed ss)
    whole_assigned h = ap (λ (v : Walk). v.assigned) e ∙ ends_assigned k begin ss refl (sym right_is ∙ h)

    pub whole_entries : w.right ≡ true → w.entries ≡ entries (passed ss)
    whole_entries h = ap (λ (v : Walk). v.entries) e ∙ ends_entries k begin ss refl (sym right_is ∙ h)

-- ---- steps and marks

-- the rules without those on assignments
pub record IsWalked (k : Kernel) (ms : List Mark) : Type 0 where
  pub numbers : list_all (has_number k) ms ≡ true
  pub operands : list_all (has_operands k) ms ≡ true
  pub parts : list_all has_parts ms ≡ true
  pub labels : list_all has_labels ms ≡ true
  pub tails : list_all has_tail ms ≡ true
  pub lambdas : EachOnce (length k.lambdas) (standing ms)
  pub bound_once : AtMostOnce (bound ms)
  pub in_scope : list_all is_in_scope ms ≡ true
  pub size : nodes ms ≤ most_nodes
  pub depth : list_all has_level ms ≡ true

module _ (k : Kernel) (ss : List Step) (ms : List Mark) (same : passed ss ≡ map blind ms) (scoped : AtMostOnce (bound (passed ss)) → is_scoped [] ss ≡ list_all is_in_scope ms) where
  abbrev t4 : Mark → Bool
  t4 m = has_tail m && has_level m

  abbrev t3 : Mark → Bool
  t3 m = has_parts m && (has_labels m && t4 m)

  abbrev t5 : Mark → Bool
  t5 m = has_labels m && t4 m

  abbrev t2 : Mark → Bool
  t2 m = has_operands k m && t3 m

  text_of : AreRight k ss → IsWalked k ms
  text_of r =
      let alone : list_all (is_right_alone k) ms ≡ true = sym (alone_blind k ms) ∙ sym (ap (list_all (is_right_alone k)) same) ∙ r.alone in
      let r2 : list_all t2 ms ≡ true = all_second (has_number k) t2 ms alone in
      let r3 : list_all t3 ms ≡ true = all_second (has_operands k) t3 ms r2 in
      let r5 : list_all t5 ms ≡ true = all_second has_parts t5 ms r3 in
      let r4 : list_all t4 ms ≡ true = all_second has_labels t4 ms r5 in
      record {
        numbers = all_first (has_number k) t2 ms alone;
        operands = all_first (has_operands k) t3 ms r2;
        parts = all_first has_parts t5 ms r3;
        labels = all_first has_labels t4 ms r5;
        tails = all_first has_tail has_level ms r4;
        lambdas = subst (EachOnce (length k.lambdas)) (ap standing same ∙ standing_blind ms) r.lambdas;
        bound_once = subst AtMostOnce (ap bound same ∙ bound_blind ms) r.bound_once;
        in_scope = sym (scoped r.bound_once) ∙ r.in_scope;
        size = subst (λ (n : ℕ). n ≤ most_nodes) (ap nodes same ∙ nodes_blind ms) r.size;
        depth = all_second has_tail has_level ms r4;
      }

  are_of : IsWalked k ms → AreRight k ss
  are_of r =
      let once : AtMostOnce (bound (passed ss)) = subst AtMostOnce (sym (ap bound same ∙ bound_blind ms)) r.bound_once in
      let alone : list_all (is_right_alone k) ms ≡ true = all_both (has_number k) t2 ms r.numbers (all_both (has_operands k) t3 ms r.operands (all_both has_parts t5 ms r.parts (all_both has_labels t4 ms r.labels (all_both has_tail has_level ms r.tails r.depth)))) in
      record {
        alone = ap (list_all (is_right_alone k)) same ∙ alone_blind k ms ∙ alone;
        lambdas = subst (EachOnce (length k.lambdas)) (sym (ap standing same ∙ standing_blind ms)) r.lambdas;
        bound_once = once;
        in_scope = scoped once ∙ r.in_scope;
        size = subst (λ (n : ℕ). n ≤ most_nodes) (sym (ap nodes same ∙ nodes_blind ms)) r.size;
      }

  pub same_text : (b : Bool) → (b ≡ true) ↔ AreRight k ss → (b ≡ true) ↔ IsWalked k ms
  same_text b h = (λ e. text_of (h.0 e), λ r. h.1 (are_of r))

-- ---- the text of a kernel

text_is : (k : Kernel) → form_marks k most_depth k.forms ≡ text k
unfolding text
text_is k = refl

text_same : (k : Kernel) → passed (form_steps k most_depth k.forms) ≡ map blind (text k)
text_same k = form_same k most_depth k.forms ∙ ap (map blind) (text_is k)

text_scoped : (k : Kernel) → AtMostOnce (bound (passed (form_steps k most_depth k.forms))) → is_scoped [] (form_steps k most_depth k.forms) ≡ list_all is_in_scope (text k)
text_scoped k once = form_scoped k most_depth k.forms once ∙ ap (list_all is_in_scope) (text_is k)

-- ---- what is not assigned

tabled : (t : Table) (xs : List ℕ) (y : ℕ) → is_none (entry_of (fold put t xs) y) ≡ (not (stands_in y xs) && is_none (entry_of t y))
tabled t [] y = refl
tabled t (x ∷ xs) y = tabled (put t x) xs y ∙ ap (λ (o : Option Bool). not (stands_in y xs) && is_none o) (found t x true y) ∙ by (y == x) (stands_in y xs)
  where
    by : (a b : Bool) → (not b && is_none (if a then Some true else entry_of t y)) ≡ (not (a || b) && is_none (entry_of t y))
    by true true = refl
    by true false = refl
    by false b = refl

has_none_is : (xs ys : List ℕ) → has_none (fold put [] xs) ys ≡ true → Apart xs ys
has_none_is xs ys h = record { apart = λ x i. is_false (stands_in x ys) (λ j. let n = at ys h x j in let e = tabled [] xs x in let f = ap (λ (b : Bool). not b && true) i in absurd (let bad : false ≡ true = sym (e ∙ f) ∙ n in cc)) }
  where
    at : (zs : List ℕ) → has_none (fold put [] xs) zs ≡ true → (x : ℕ) → stands_in x zs ≡ true → is_none (entry_of (fold put [] xs) x) ≡ true
    at [] h x j = absurd cc
    at (z ∷ zs) h x j =
        let p = and_parts (is_none (entry_of (fold put [] xs) z)) (has_none (fold put [] xs) zs) h in
        elim (or_cases (x == z) (stands_in x zs) j) [ inl is ↦ ap (λ (w : ℕ). is_none (entry_of (fold put [] xs) w)) (eqb-true x z is) ∙ p.0 | inr rest ↦ at zs p.1 x rest ]

is_has_none : (xs ys : List ℕ) → Apart xs ys → has_none (fold put [] xs) ys ≡ true
is_has_none xs ys h = each ys (λ y j. tabled [] xs y ∙ ap (λ (b : Bool). not b && true) (is_false (stands_in y xs) (λ i. let out = h.apart y i in absurd cc)))
  where
    each : (zs : List ℕ) → ((y : ℕ) → stands_in y zs ≡ true → is_none (entry_of (fold put [] xs) y) ≡ true) → has_none (fold put [] xs) zs ≡ true
    each [] f = refl
    each (z ∷ zs) f = and_from (is_none (entry_of (fold put [] xs) z)) (has_none (fold put [] xs) zs) (f z (or_left (z == z) (stands_in z zs) (eq-eqb z z refl))) (each zs (λ y j. f y (or_right (y == z) (stands_in y zs) j)))

keeps_none_is : (xs : List ℕ) (ms : List Lambda) → keeps_none (fold put [] xs) ms ≡ true → (l : ℕ) (m : Lambda) → slice_get ms l ≡ Some m → Apart xs m.captured
keeps_none_is xs [] h l m e = absurd cc
keeps_none_is xs (n ∷ ms) h zero m e = let p = and_parts (has_none (fold put [] xs) n.captured) (keeps_none (fold put [] xs) ms) h in let q : n ≡ m = cc in subst (λ (z : Lambda). Apart xs z.captured) q (has_none_is xs n.captured p.0)
keeps_none_is xs (n ∷ ms) h (suc l) m e = keeps_none_is xs ms (and_parts (has_none (fold put [] xs) n.captured) (keeps_none (fold put [] xs) ms) h).1 l m e

is_keeps_none : (xs : List ℕ) (ms : List Lambda) → ((l : ℕ) (m : Lambda) → slice_get ms l ≡ Some m → Apart xs m.captured) → keeps_none (fold put [] xs) ms ≡ true
is_keeps_none xs [] h = refl
is_keeps_none xs (n ∷ ms) h = and_from (has_none (fold put [] xs) n.captured) (keeps_none (fold put [] xs) ms) (is_has_none xs n.captured (h 0 n refl)) (is_keeps_none xs ms (λ l m e. h (suc l) m e))

-- ---- the walk over a kernel

abbrev pub Right : Kernel → Type 0
Right k = IsRightText k (text k) × CapturedStay k

walked_of : (k : Kernel) → IsRightText k (text k) → IsWalked k (text k)
walked_of k r = record { numbers = r.numbers; operands = r.operands; parts = r.parts; labels = r.labels; tails = r.tails; lambdas = r.lambdas; bound_once = r.bound_once; in_scope = r.in_scope; size = r.size; depth = r.depth }

of_walked : (k : Kernel) → IsWalked k (text k) → Apart (assigned (text k)) (entries (text k)) → IsRightText k (text k)
of_walked k r stay = record { numbers = r.numbers; operands = r.operands; parts = r.parts; labels = r.labels; tails = r.tails; lambdas = r.lambdas; bound_once = r.bound_once; in_scope = r.in_scope; entries_stay = stay; size = r.size; depth = r.depth }

module _ (k : Kernel) (v w : Walk) (s : v ≡ starts (length k.lambdas)) (e : w ≡ fold (step k) v (form_steps k most_depth k.forms)) where
  is_walk : w ≡ fold (step k) (starts (length k.lambdas)) (form_steps k most_depth k.forms)
  is_walk = e ∙ ap (λ (z : Walk). fold (step k) z (form_steps k most_depth k.forms)) s

  pub stopped_text : w.right ≡ false → (false ≡ true) ↔ Right k
  stopped_text h = (λ x. absurd cc, λ r. (same_text k (form_steps k most_depth k.forms) (text k) (text_same k) (text_scoped k) false (stopped_walk k (form_steps k most_depth k.forms) w is_walk h)).1 (walked_of k r.0))

  module _ (h : w.right ≡ true) (t : Table) (q : t ≡ fold put [] w.assigned) where
    walked : (list_all (λ b. b) w.stands ≡ true) ↔ IsWalked k (text k)
    walked = same_text k (form_steps k most_depth k.forms) (text k) (text_same k) (text_scoped k) (list_all (λ b. b) w.stands) (whole_walk k (form_steps k most_depth k.forms) w is_walk h)

    assigned_is : w.assigned ≡ assigned (text k)
    assigned_is = whole_assigned k (form_steps k most_depth k.forms) w is_walk h ∙ ap assigned (text_same k) ∙ assigned_blind (text k)

    entries_is : w.entries ≡ entries (text k)
    entries_is = whole_entries k (form_steps k most_depth k.forms) w is_walk h ∙ ap entries (text_same k) ∙ entries_blind (text k)

    table_is : t ≡ fold put [] (assigned (text k))
    table_is = q ∙ ap (fold put []) assigned_is

    pub whole_text : ((list_all (λ b. b) w.stands && (has_none t w.entries && keeps_none t k.lambdas)) ≡ true) ↔ Right k
    whole_text = (to, from)
      where
        shape : (list_all (λ b. b) w.stands && (has_none t w.entries && keeps_none t k.lambdas)) ≡ (list_all (λ b. b) w.stands && (has_none (fold put [] (assigned (text k))) (entries (text k)) && keeps_none (fold put [] (assigned (text k))) k.lambdas))
        shape = ap (λ (z : Table). list_all (λ b. b) w.stands && (has_none z w.entries && keeps_none z k.lambdas)) table_is ∙ ap (λ (ys : List ℕ). list_all (λ b. b) w.stands && (has_none (fold put [] (assigned (text k))) ys && keeps_none (fold put [] (assigned (text k))) k.lambdas)) entries_is

        to : (list_all (λ b. b) w.stands && (has_none t w.entries && keeps_none t k.lambdas)) ≡ true → Right k
        to b =
            let p = and_parts (list_all (λ b. b) w.stands) (has_none (fold put [] (assigned (text k))) (entries (text k)) && keeps_none (fold put [] (assigned (text k))) k.lambdas) (sym shape ∙ b) in
            let r = and_parts (has_none (fold put [] (assigned (text k))) (entries (text k))) (keeps_none (fold put [] (assigned (text k))) k.lambdas) p.1 in
            (of_walked k (walked.0 p.0) (has_none_is (assigned (text k)) (entries (text k)) r.0), keeps_none_is (assigned (text k)) k.lambdas r.1)

        from : Right k → (list_all (λ b. b) w.stands && (has_none t w.entries && keeps_none t k.lambdas)) ≡ true
        from r =
            shape ∙ and_from (list_all (λ b. b) w.stands) (has_none (fold put [] (assigned (text k))) (entries (text k)) && keeps_none (fold put [] (assigned (text k))) k.lambdas) (walked.1 (walked_of k r.0))
            (and_from (has_none (fold put [] (assigned (text k))) (entries (text k))) (keeps_none (fold put [] (assigned (text k))) k.lambdas) (is_has_none (assigned (text k)) (entries (text k)) r.0.entries_stay) (is_keeps_none (assigned (text k)) k.lambdas r.1))
