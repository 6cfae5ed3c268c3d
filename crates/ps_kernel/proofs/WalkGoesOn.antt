-- Where a walk over marks does not stop.
-- For: `is_right`
use Rattle.std.proofs.Common.{◌≡◌, ℕ, suc, ◌+◌, ◌<◌, ◌≤◌, nat_lt, Bool, true, false, List, [], ◌∷◌, slice_get, refl, sym, ap, ◌++◌, append_assoc, ◌∙◌, arith}
use Rattle.std.specs.Prelude.{◌&&◌, if◌then◌else◌}
use Rattle.std.specs.List.{fold, list_all}
use Rattle.std.proofs.lemmas.Bool.{and_parts, and_from, ltb-true, lt-ltb}
use Rattle.ps_kernel.specs.declared.kernel.Kernel.{Kernel}
use Rattle.ps_kernel.specs.declared.validity.walk.Walk.{Walk}
use Rattle.ps_kernel.specs.Most.{most_nodes}
use Rattle.ps_kernel.specs.Rules.{nodes}
use Rattle.ps_kernel.specs.Texts.{standing, assigned, entries}
use Rattle.ps_kernel.specs.Marks.{Node, TooDeep, Stands, BindsParameter, BindsLet, BindsEntry, Mentions, Sets}
use Rattle.ps_kernel.specs.InsideSteps.{Step, Passes, Closes, passed}
use Rattle.ps_kernel.specs.InsideWalks.{is_some_false, stand, meets, entry_of, is_none, is_some_true, is_right_alone, may, may_pass, behind, stopped, step}
use Rattle.ps_kernel.proofs.TableTellsScopes.{goes_locals}
use Rattle.ps_kernel.proofs.StepsOfANode.{stays}

append_nil : (xs : List ℕ) → xs ++ [] ≡ xs
append_nil [] = refl
append_nil (x ∷ xs) = ap (λ (ys : List ℕ). x ∷ ys) (append_nil xs)

module _ (k : Kernel) where
  abbrev pub goes : Walk → List Step → Bool
  goes s [] = true
  goes s (m ∷ ms) = may k s m && goes (behind k s m) ms

  behind_right : (s : Walk) (m : Step) → s.right ≡ true → (behind k s m).right ≡ true
  behind_right s (Passes (Node at)) h = h
  behind_right s (Passes TooDeep) h = h
  behind_right s (Passes (Stands l q)) h = h
  behind_right s (Passes (BindsParameter l)) h = h
  behind_right s (Passes (BindsLet l)) h = h
  behind_right s (Passes (BindsEntry j)) h = h
  behind_right s (Passes (Mentions l none)) h = h
  behind_right s (Passes (Sets l none)) h = h
  behind_right s (Passes m) h = h
  behind_right s (Closes l) h = h

  -- a walk is right in the end where it may go over each mark
  pub ends_right : (s : Walk) (ms : List Step) → s.right ≡ true → (fold (step k) s ms).right ≡ goes s ms
  unfolding step
  ends_right s [] h = h
  ends_right s (m ∷ ms) h = ap (λ (b : Bool). (fold (step k) (if b then (if may k s m then behind k s m else stopped s) else s) ms).right) h ∙ by (may k s m) (ends_right (behind k s m) ms (behind_right s m h))
    where
      by : (b : Bool) → (fold (step k) (behind k s m) ms).right ≡ goes (behind k s m) ms → (fold (step k) (if b then behind k s m else stopped s) ms).right ≡ (b && goes (behind k s m) ms)
      by true rest = rest
      by false rest = ap (λ (w : Walk). w.right) (stays k (stopped s) ms refl)

  ends : (s : Walk) (ms : List Step) → s.right ≡ true → goes s ms ≡ true → fold (step k) s ms ≡ fold (behind k) s ms
  unfolding step
  ends s [] h g = refl
  ends s (m ∷ ms) h g =
      let p = and_parts (may k s m) (goes (behind k s m) ms) g in
      ap (λ (b : Bool). fold (step k) (if b then (if may k s m then behind k s m else stopped s) else s) ms) h ∙ ap (λ (b : Bool). fold (step k) (if b then behind k s m else stopped s) ms) p.0 ∙ ends (behind k s m) ms (behind_right s m h) p.1

  behind_stands : (s : Walk) (ms : List Step) → (fold (behind k) s ms).stands ≡ fold stand s.stands (standing (passed ms))
  behind_stands s [] = refl
  behind_stands s (Passes (Stands l q) ∷ ms) = behind_stands (behind k s (Passes (Stands l q))) ms
  behind_stands s (Passes (Node at) ∷ ms) = behind_stands (behind k s (Passes (Node at))) ms
  behind_stands s (Passes (BindsParameter x) ∷ ms) = behind_stands (behind k s (Passes (BindsParameter x))) ms
  behind_stands s (Passes (BindsLet x) ∷ ms) = behind_stands (behind k s (Passes (BindsLet x))) ms
  behind_stands s (Passes (BindsEntry j) ∷ ms) = behind_stands (behind k s (Passes (BindsEntry j))) ms
  behind_stands s (Passes (Sets x none) ∷ ms) = behind_stands (behind k s (Passes (Sets x none))) ms
  behind_stands s (Closes x ∷ ms) = behind_stands (behind k s (Closes x)) ms
  behind_stands s (Passes m ∷ ms) = behind_stands s ms

  -- and has then met the lambdas that stand there
  pub ends_stands : (s : Walk) (ms : List Step) → s.right ≡ true → goes s ms ≡ true → (fold (step k) s ms).stands ≡ fold stand s.stands (standing (passed ms))
  ends_stands s ms h g = ap (λ (w : Walk). w.stands) (ends s ms h g) ∙ behind_stands s ms

  -- and the locals that are assigned, and those that letrecs bind
  behind_assigned : (s : Walk) (ms : List Step) → (fold (behind k) s ms).assigned ≡ s.assigned ++ assigned (passed ms)
  behind_assigned s [] = sym (append_nil s.assigned)
  behind_assigned s (Passes (Sets x none) ∷ ms) = behind_assigned (behind k s (Passes (Sets x none))) ms ∙ append_assoc s.assigned (x ∷ []) (assigned (passed ms))
  behind_assigned s (Passes (Node at) ∷ ms) = behind_assigned (behind k s (Passes (Node at))) ms
  behind_assigned s (Passes (Stands l q) ∷ ms) = behind_assigned (behind k s (Passes (Stands l q))) ms
  behind_assigned s (Passes (BindsParameter x) ∷ ms) = behind_assigned (behind k s (Passes (BindsParameter x))) ms
  behind_assigned s (Passes (BindsLet x) ∷ ms) = behind_assigned (behind k s (Passes (BindsLet x))) ms
  behind_assigned s (Passes (BindsEntry j) ∷ ms) = behind_assigned (behind k s (Passes (BindsEntry j))) ms
  behind_assigned s (Closes x ∷ ms) = behind_assigned (behind k s (Closes x)) ms
  behind_assigned s (Passes m ∷ ms) = behind_assigned s ms

  behind_entries : (s : Walk) (ms : List Step) → (fold (behind k) s ms).entries ≡ s.entries ++ entries (passed ms)
  behind_entries s [] = sym (append_nil s.entries)
  behind_entries s (Passes (Sets x none) ∷ ms) = behind_entries (behind k s (Passes (Sets x none))) ms
  behind_entries s (Passes (Node at) ∷ ms) = behind_entries (behind k s (Passes (Node at))) ms
  behind_entries s (Passes (Stands l q) ∷ ms) = behind_entries (behind k s (Passes (Stands l q))) ms
  behind_entries s (Passes (BindsParameter x) ∷ ms) = behind_entries (behind k s (Passes (BindsParameter x))) ms
  behind_entries s (Passes (BindsLet x) ∷ ms) = behind_entries (behind k s (Passes (BindsLet x))) ms
  behind_entries s (Passes (BindsEntry j) ∷ ms) = behind_entries (behind k s (Passes (BindsEntry j))) ms ∙ append_assoc s.entries (j.local ∷ []) (entries (passed ms))
  behind_entries s (Closes x ∷ ms) = behind_entries (behind k s (Closes x)) ms
  behind_entries s (Passes m ∷ ms) = behind_entries s ms

  pub ends_assigned : (s : Walk) (ms : List Step) → s.right ≡ true → goes s ms ≡ true → (fold (step k) s ms).assigned ≡ s.assigned ++ assigned (passed ms)
  ends_assigned s ms h g = ap (λ (w : Walk). w.assigned) (ends s ms h g) ∙ behind_assigned s ms

  pub ends_entries : (s : Walk) (ms : List Step) → s.right ≡ true → goes s ms ≡ true → (fold (step k) s ms).entries ≡ s.entries ++ entries (passed ms)
  ends_entries s ms h g = ap (λ (w : Walk). w.entries) (ends s ms h g) ∙ behind_entries s ms

  -- ---- the tests apart

  pub goes_alone : (s : Walk) (ms : List Step) → goes s ms ≡ true → list_all (is_right_alone k) (passed ms) ≡ true
  goes_alone s [] g = refl
  goes_alone s (Passes (Node at) ∷ ms) g = goes_alone (behind k s (Passes (Node at))) ms (and_parts (nat_lt s.nodes most_nodes) (goes (behind k s (Passes (Node at))) ms) g).1
  goes_alone s (Passes (Stands l q) ∷ ms) g = goes_alone (behind k s (Passes (Stands l q))) ms (and_parts (is_some_false (slice_get s.stands l)) (goes (behind k s (Passes (Stands l q))) ms) g).1
  goes_alone s (Passes (BindsParameter x) ∷ ms) g = goes_alone (behind k s (Passes (BindsParameter x))) ms (and_parts (is_none (entry_of s.locals x)) (goes (behind k s (Passes (BindsParameter x))) ms) g).1
  goes_alone s (Passes (BindsLet x) ∷ ms) g = goes_alone (behind k s (Passes (BindsLet x))) ms (and_parts (is_none (entry_of s.locals x)) (goes (behind k s (Passes (BindsLet x))) ms) g).1
  goes_alone s (Passes (BindsEntry j) ∷ ms) g = goes_alone (behind k s (Passes (BindsEntry j))) ms (and_parts (is_none (entry_of s.locals j.local)) (goes (behind k s (Passes (BindsEntry j))) ms) g).1
  goes_alone s (Closes x ∷ ms) g = goes_alone (behind k s (Closes x)) ms g
  goes_alone s (Passes (Mentions x none) ∷ ms) g = goes_alone s ms (and_parts (is_some_true (entry_of s.locals x)) (goes s ms) g).1
  goes_alone s (Passes (Sets x none) ∷ ms) g = goes_alone (behind k s (Passes (Sets x none))) ms (and_parts (is_some_true (entry_of s.locals x)) (goes (behind k s (Passes (Sets x none))) ms) g).1
  goes_alone s (Passes m ∷ ms) g = let p = and_parts (is_right_alone k m) (goes s ms) g in and_from (is_right_alone k m) (list_all (is_right_alone k) (passed ms)) p.0 (goes_alone s ms p.1)

  pub goes_nodes : (s : Walk) (ms : List Step) → s.nodes ≤ most_nodes → goes s ms ≡ true → s.nodes + nodes (passed ms) ≤ most_nodes
  goes_nodes s [] low g = omega arith
  goes_nodes s (Passes (Node at) ∷ ms) low g =
      let p = and_parts (nat_lt s.nodes most_nodes) (goes (behind k s (Passes (Node at))) ms) g in
      let lt : s.nodes < most_nodes = ltb-true s.nodes most_nodes p.0 in
      let rest : (s.nodes + 1) + nodes (passed ms) ≤ most_nodes = goes_nodes (behind k s (Passes (Node at))) ms (omega arith) p.1 in
      omega arith
  goes_nodes s (Passes (Stands l q) ∷ ms) low g = goes_nodes (behind k s (Passes (Stands l q))) ms low (and_parts (is_some_false (slice_get s.stands l)) (goes (behind k s (Passes (Stands l q))) ms) g).1
  goes_nodes s (Passes (BindsParameter x) ∷ ms) low g = goes_nodes (behind k s (Passes (BindsParameter x))) ms low (and_parts (is_none (entry_of s.locals x)) (goes (behind k s (Passes (BindsParameter x))) ms) g).1
  goes_nodes s (Passes (BindsLet x) ∷ ms) low g = goes_nodes (behind k s (Passes (BindsLet x))) ms low (and_parts (is_none (entry_of s.locals x)) (goes (behind k s (Passes (BindsLet x))) ms) g).1
  goes_nodes s (Passes (BindsEntry j) ∷ ms) low g = goes_nodes (behind k s (Passes (BindsEntry j))) ms low (and_parts (is_none (entry_of s.locals j.local)) (goes (behind k s (Passes (BindsEntry j))) ms) g).1
  goes_nodes s (Passes (Sets x none) ∷ ms) low g = goes_nodes (behind k s (Passes (Sets x none))) ms low (and_parts (is_some_true (entry_of s.locals x)) (goes (behind k s (Passes (Sets x none))) ms) g).1
  goes_nodes s (Closes x ∷ ms) low g = goes_nodes (behind k s (Closes x)) ms low g
  goes_nodes s (Passes m ∷ ms) low g = goes_nodes s ms low (and_parts (may_pass k s m) (goes s ms) g).1

  pub goes_meets : (s : Walk) (ms : List Step) → goes s ms ≡ true → meets s.stands (standing (passed ms)) ≡ true
  goes_meets s [] g = refl
  goes_meets s (Passes (Node at) ∷ ms) g = goes_meets (behind k s (Passes (Node at))) ms (and_parts (nat_lt s.nodes most_nodes) (goes (behind k s (Passes (Node at))) ms) g).1
  goes_meets s (Passes (Stands l q) ∷ ms) g = let p = and_parts (is_some_false (slice_get s.stands l)) (goes (behind k s (Passes (Stands l q))) ms) g in and_from (is_some_false (slice_get s.stands l)) (meets (stand s.stands l) (standing (passed ms))) p.0 (goes_meets (behind k s (Passes (Stands l q))) ms p.1)
  goes_meets s (Passes (BindsParameter x) ∷ ms) g = goes_meets (behind k s (Passes (BindsParameter x))) ms (and_parts (is_none (entry_of s.locals x)) (goes (behind k s (Passes (BindsParameter x))) ms) g).1
  goes_meets s (Passes (BindsLet x) ∷ ms) g = goes_meets (behind k s (Passes (BindsLet x))) ms (and_parts (is_none (entry_of s.locals x)) (goes (behind k s (Passes (BindsLet x))) ms) g).1
  goes_meets s (Passes (BindsEntry j) ∷ ms) g = goes_meets (behind k s (Passes (BindsEntry j))) ms (and_parts (is_none (entry_of s.locals j.local)) (goes (behind k s (Passes (BindsEntry j))) ms) g).1
  goes_meets s (Passes (Sets x none) ∷ ms) g = goes_meets (behind k s (Passes (Sets x none))) ms (and_parts (is_some_true (entry_of s.locals x)) (goes (behind k s (Passes (Sets x none))) ms) g).1
  goes_meets s (Closes x ∷ ms) g = goes_meets (behind k s (Closes x)) ms g
  goes_meets s (Passes m ∷ ms) g = goes_meets s ms (and_parts (may_pass k s m) (goes s ms) g).1

  pub goes_table : (s : Walk) (ms : List Step) → goes s ms ≡ true → goes_locals s.locals ms ≡ true
  goes_table s [] g = refl
  goes_table s (Passes (Node at) ∷ ms) g = goes_table (behind k s (Passes (Node at))) ms (and_parts (nat_lt s.nodes most_nodes) (goes (behind k s (Passes (Node at))) ms) g).1
  goes_table s (Passes (Stands l q) ∷ ms) g = goes_table (behind k s (Passes (Stands l q))) ms (and_parts (is_some_false (slice_get s.stands l)) (goes (behind k s (Passes (Stands l q))) ms) g).1
  goes_table s (Passes (BindsParameter x) ∷ ms) g = let p = and_parts (is_none (entry_of s.locals x)) (goes (behind k s (Passes (BindsParameter x))) ms) g in and_from (is_none (entry_of s.locals x)) (goes_locals (behind k s (Passes (BindsParameter x))).locals ms) p.0 (goes_table (behind k s (Passes (BindsParameter x))) ms p.1)
  goes_table s (Passes (BindsLet x) ∷ ms) g = let p = and_parts (is_none (entry_of s.locals x)) (goes (behind k s (Passes (BindsLet x))) ms) g in and_from (is_none (entry_of s.locals x)) (goes_locals (behind k s (Passes (BindsLet x))).locals ms) p.0 (goes_table (behind k s (Passes (BindsLet x))) ms p.1)
  goes_table s (Passes (BindsEntry j) ∷ ms) g = let p = and_parts (is_none (entry_of s.locals j.local)) (goes (behind k s (Passes (BindsEntry j))) ms) g in and_from (is_none (entry_of s.locals j.local)) (goes_locals (behind k s (Passes (BindsEntry j))).locals ms) p.0 (goes_table (behind k s (Passes (BindsEntry j))) ms p.1)
  goes_table s (Closes x ∷ ms) g = goes_table (behind k s (Closes x)) ms g
  goes_table s (Passes (Mentions x none) ∷ ms) g = let p = and_parts (is_some_true (entry_of s.locals x)) (goes s ms) g in and_from (is_some_true (entry_of s.locals x)) (goes_locals s.locals ms) p.0 (goes_table s ms p.1)
  goes_table s (Passes (Sets x none) ∷ ms) g = let p = and_parts (is_some_true (entry_of s.locals x)) (goes (behind k s (Passes (Sets x none))) ms) g in and_from (is_some_true (entry_of s.locals x)) (goes_locals (behind k s (Passes (Sets x none))).locals ms) p.0 (goes_table (behind k s (Passes (Sets x none))) ms p.1)
  goes_table s (Passes m ∷ ms) g = goes_table s ms (and_parts (is_right_alone k m) (goes s ms) g).1

  -- ---- and together

  pub goes_if : (s : Walk) (ms : List Step) → list_all (is_right_alone k) (passed ms) ≡ true → s.nodes + nodes (passed ms) ≤ most_nodes → meets s.stands (standing (passed ms)) ≡ true → goes_locals s.locals ms ≡ true → goes s ms ≡ true
  goes_if s [] a n m t = refl
  goes_if s (Passes (Node at) ∷ ms) a n m t = and_from (nat_lt s.nodes most_nodes) (goes (behind k s (Passes (Node at))) ms) (lt-ltb s.nodes most_nodes (omega arith)) (goes_if (behind k s (Passes (Node at))) ms a (let sum : s.nodes + suc (nodes (passed ms)) ≤ most_nodes = n in omega arith) m t)
  goes_if s (Passes (Stands l q) ∷ ms) a n m t = let p = and_parts (is_some_false (slice_get s.stands l)) (meets (stand s.stands l) (standing (passed ms))) m in and_from (is_some_false (slice_get s.stands l)) (goes (behind k s (Passes (Stands l q))) ms) p.0 (goes_if (behind k s (Passes (Stands l q))) ms a n p.1 t)
  goes_if s (Passes (BindsParameter x) ∷ ms) a n m t = let p = and_parts (is_none (entry_of s.locals x)) (goes_locals (behind k s (Passes (BindsParameter x))).locals ms) t in and_from (is_none (entry_of s.locals x)) (goes (behind k s (Passes (BindsParameter x))) ms) p.0 (goes_if (behind k s (Passes (BindsParameter x))) ms a n m p.1)
  goes_if s (Passes (BindsLet x) ∷ ms) a n m t = let p = and_parts (is_none (entry_of s.locals x)) (goes_locals (behind k s (Passes (BindsLet x))).locals ms) t in and_from (is_none (entry_of s.locals x)) (goes (behind k s (Passes (BindsLet x))) ms) p.0 (goes_if (behind k s (Passes (BindsLet x))) ms a n m p.1)
  goes_if s (Passes (BindsEntry j) ∷ ms) a n m t = let p = and_parts (is_none (entry_of s.locals j.local)) (goes_locals (behind k s (Passes (BindsEntry j))).locals ms) t in and_from (is_none (entry_of s.locals j.local)) (goes (behind k s (Passes (BindsEntry j))) ms) p.0 (goes_if (behind k s (Passes (BindsEntry j))) ms a n m p.1)
  goes_if s (Closes x ∷ ms) a n m t = goes_if (behind k s (Closes x)) ms a n m t
  goes_if s (Passes (Mentions x none) ∷ ms) a n m t = let p = and_parts (is_some_true (entry_of s.locals x)) (goes_locals s.locals ms) t in and_from (is_some_true (entry_of s.locals x)) (goes s ms) p.0 (goes_if s ms a n m p.1)
  goes_if s (Passes (Sets x none) ∷ ms) a n m t = let p = and_parts (is_some_true (entry_of s.locals x)) (goes_locals (behind k s (Passes (Sets x none))).locals ms) t in and_from (is_some_true (entry_of s.locals x)) (goes (behind k s (Passes (Sets x none))) ms) p.0 (goes_if (behind k s (Passes (Sets x none))) ms a n m p.1)
  goes_if s (Passes q ∷ ms) a n m t = let p = and_parts (is_right_alone k q) (list_all (is_right_alone k) (passed ms)) a in and_from (is_right_alone k q) (goes s ms) p.0 (goes_if s ms p.1 n m t)
