-- What a walk sees is what is reached.
-- For: `what_is_seen_is_reached`, `a_fault_is_reached`
use Rattle.std.proofs.Common.{◌≡◌, true, false, List, [], ◌∷◌, ◌++◌, Some, None, refl, sym, ap, ◌∙◌, subst, inl, inr, ⊎_elim}
use Rattle.std.specs.Prelude.{◌⊎◌}
use Rattle.ps_meaning.specs.Source.{Program}
use Rattle.ps_survive.specs.declared.steps.Node.{Node}
use Rattle.ps_survive.specs.declared.steps.Step.{Step}
use Rattle.ps_kernel.specs.Lists.{Among}
use Rattle.ps_survive.specs.Steps.{has, AreOnce, steps_of, names, fault}
use Rattle.ps_survive.specs.Walk.{main_node, begins, Reaches, main, onward, End, Ended, Fails, Walks, done, fails, passes, knows, visits, Survives, missing, walks}
use Rattle.ps_survive.specs.Laws.{IsWhole, IsFault, SeenIsReached, FaultIsReached}
use Rattle.ps_survive.proofs.NodesInLists.{in_left, in_right, in_either, has_left, has_last, has_pushed, once_pushed, same_self, or_left, or_true, same_is}

module _ (m : Program) where
  -- a step is no fault, and the node to which it leads is seen
  record Settled (seen : List Node) (s : Step) : Type 0 where
    clean : fault m s ≡ None
    known : (k : Node) → names m s ≡ Some k → has seen k ≡ true

  -- a step of a node that is reached
  record Stands (s : Step) : Type 0 where
    node : Node
    reached : Reaches m node
    there : Among s (steps_of m node)

  -- what holds while a walk goes on
  record Going (seen : List Node) (todo : List Step) : Type 0 where
    main : has seen (main_node m) ≡ true
    once : AreOnce seen
    reached : (n : Node) → has seen n ≡ true → Reaches m n
    due : (t : Step) → Among t todo → Stands t
    closed : (n : Node) (s : Step) → has seen n ≡ true → Among s (steps_of m n) → Settled seen s ⊎ Among s todo

  -- a task is done
  popped : (seen : List Node) (t : Step) (todo : List Step) → Going seen (t ∷ todo) → Settled seen t → Going seen todo
  popped seen t todo g h = record {
    main = g.main;
    once = g.once;
    reached = g.reached;
    due = λ x k. g.due x (inr k);
    closed = λ n s seen_n there.
        ⊎_elim
        (λ (q : Settled seen s). inl q)
        (λ (q : Among s (t ∷ todo)).
        ⊎_elim
        (λ (e : s ≡ t). inl (subst (Settled seen) (sym e) h))
        (λ (k : Among s todo). inr k)
        q)
        (g.closed n s seen_n there);
  }

  settled_more : (seen : List Node) (n : Node) (s : Step) → Settled seen s → Settled (seen ++ n ∷ []) s
  settled_more seen n s h = record { clean = h.clean; known = λ k e. has_left seen (n ∷ []) k (h.known k e) }

  -- a node is seen, and its steps are before the rest
  visited : (seen : List Node) (t : Step) (todo : List Step) (n : Node) → Going seen (t ∷ todo) → fault m t ≡ None → names m t ≡ Some n → has seen n ≡ false
      → Going (seen ++ n ∷ []) (steps_of m n ++ todo)
  visited seen t todo n g clean e new =
      let own = steps_of m n in
      let from = g.due t (inl refl) in
      let here : Reaches m n = onward from.node t n from.reached from.there e in
      let now : Settled (seen ++ n ∷ []) t = record { clean = clean; known = λ k q. (let is : n ≡ k = (let both : Some n ≡ Some k = sym e ∙ q in cc) in ap (has (seen ++ n ∷ [])) (sym is) ∙ has_last seen n) } in
      record {
        main = has_left seen (n ∷ []) (main_node m) g.main;
        once = once_pushed seen n g.once new;
        reached = λ k q. ⊎_elim (λ (old : has seen k ≡ true). g.reached k old) (λ (is : k ≡ n). subst (Reaches m) (sym is) here) (has_pushed seen n k q);
        due = λ x k.
            ⊎_elim
            (λ (q : Among x own). record { node = n; reached = here; there = q })
            (λ (q : Among x todo). g.due x (inr q))
            (in_either own todo x k);
        closed = λ k s q there.
            ⊎_elim
            (λ (old : has seen k ≡ true).
            ⊎_elim
            (λ (h : Settled seen s). inl (settled_more seen n s h))
            (λ (d : Among s (t ∷ todo)).
            ⊎_elim
            (λ (is : s ≡ t). inl (subst (Settled (seen ++ n ∷ [])) (sym is) now))
            (λ (z : Among s todo). inr (in_right own todo s z))
            d)
            (g.closed k s old there))
            (λ (is : k ≡ n).
            inr (in_left own todo s (subst (λ z. Among s (steps_of m z)) is there)))
            (has_pushed seen n k q);
      }

  -- nothing is left to do
  settled_all : (seen : List Node) → Going seen [] → (n : Node) (s : Step) → has seen n ≡ true → Among s (steps_of m n) → Settled seen s
  settled_all seen g n s h there = ⊎_elim (λ (q : Settled seen s). q) (λ (d : Among s []). absurd d) (g.closed n s h there)

  all_seen : (seen : List Node) → Going seen [] → (n : Node) → Reaches m n → has seen n ≡ true
  all_seen seen g n main = g.main
  all_seen seen g n (onward k s l r there e) = (settled_all seen g k s (all_seen seen g k r) there).known l e

  whole : (seen : List Node) → Going seen [] → IsWhole m seen
  whole seen g = record {
    reached = g.reached;
    all = all_seen seen g;
    once = g.once;
    clean = λ n s r there. (settled_all seen g n s (all_seen seen g n r) there).clean;
  }

  abbrev Concludes : End → Type 0
  Concludes (Ended found) = IsWhole m found
  Concludes (Fails f) = IsFault m f

  concludes : (seen : List Node) (todo : List Step) (e : End) → Walks m seen todo e → Going seen todo → Concludes e
  concludes seen todo e (done s) g = whole s g
  concludes seen todo e (fails s t r kind h) g = let d = g.due t (inl refl) in record { node = d.node; step = t; reached = d.reached; stands = d.there; is = h }
  concludes seen todo e (passes s t r f h n w) g = concludes s r f w (popped s t r g (record { clean = h; known = λ k q. absurd (let clash : Some k ≡ None = sym q ∙ n in cc) }))
  concludes seen todo e (knows s t r f k h n q w) g =
      concludes s r f w (popped s t r g (record { clean = h; known = λ z p. (let is : k ≡ z = (let both : Some k ≡ Some z = sym n ∙ p in cc) in ap (has s) (sym is) ∙ q) }))
  concludes seen todo e (visits s t r f k h n q w) g = concludes (s ++ k ∷ []) (steps_of m k ++ r) f w (visited s t r k g h n q)

  -- the walk from `main`
  going_first : Going (main_node m ∷ []) (steps_of m (main_node m))
  going_first =
      let n = main_node m in
      let is_main : (k : Node) → has (n ∷ []) k ≡ true → n ≡ k = (λ k q. ⊎_elim (λ (e : _ ≡ true). same_is n k e) (λ (e : false ≡ true). absurd cc) (or_true _ false q)) in
      record {
        main = or_left _ false (same_self n);
        once = (refl, tt);
        reached = λ k q. subst (Reaches m) (is_main k q) main;
        due = λ t q. record { node = n; reached = main; there = q };
        closed = λ k s q there.
            inr (subst (λ z. Among s (steps_of m z)) (sym (is_main k q)) there);
      }

  abbrev Starts : End → Type 0
  Starts (Ended found) = IsWhole m found
  Starts (Fails f) = (begins m ≡ false) ⊎ IsFault m f

  to_starts : (e : End) → Concludes e → Starts e
  to_starts (Ended found) h = h
  to_starts (Fails f) h = inr h

  starts : (e : End) → Survives m e → Starts e
  starts e (missing h) = inl h
  starts e (walks f h w) = to_starts f (concludes (main_node m ∷ []) (steps_of m (main_node m)) f w going_first)

pub seen_is_reached : SeenIsReached
seen_is_reached m found s = starts m (Ended found) s

pub fault_is_reached : FaultIsReached
fault_is_reached m f s = starts m (Fails f) s
