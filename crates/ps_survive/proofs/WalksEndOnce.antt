-- The walk from `main` has an end, and one.
-- For: `walks_end`, `walks_have_one_end`
use Rattle.std.proofs.Common.{◌≡◌, ℕ, zero, suc, ◌+◌, ◌≤◌, ◌<◌, Bool, true, false, List, [], ◌∷◌, ◌++◌, length, Option, Some, None, refl, sym, ap, ◌∙◌, subst, inl, inr, ⊎_elim, arith}
use Rattle.std.specs.Prelude.{◌⊎◌, if◌then◌else◌, slice_get}
use Rattle.std.proofs.lemmas.List.{length-append}
use Rattle.std.specs.Prelude.{nat_eq}
use Rattle.std.proofs.lemmas.Bool.{eqb-true}
use Rattle.std.proofs.lemmas.Option.{slice_get_within}
use Rattle.byte_store.specs.declared.pointer.Base.TheVariants.{Fixed, Made}
use Rattle.byte_store.specs.declared.pointer.Pointer.{Pointer}
use Rattle.byte_store.specs.declared.pointer.Pointer.TheVariants.{Null, At}
use Rattle.byte_store.specs.declared.pointer.Value.{Value}
use Rattle.byte_store.specs.declared.pointer.Value.TheVariants as values
use Rattle.byte_store.specs.Blocks.{Block, find}
use Rattle.ps_kernel.specs.declared.kernel.Lambda.{Lambda}
use Rattle.ps_kernel.specs.declared.kernel.Definition.{Definition}
use Rattle.ps_meaning.specs.Eval.{literal}
use Rattle.ps_survive.specs.declared.steps.Mark.{Mark}
use Rattle.ps_survive.specs.declared.steps.Mark.TheVariants as marks
use Rattle.ps_meaning.specs.Source.{Program}
use Rattle.ps_survive.specs.declared.steps.Node.{Node}
use Rattle.ps_survive.specs.declared.steps.Node.TheVariants as nodes
use Rattle.ps_survive.specs.declared.steps.Step.{Step}
use Rattle.ps_survive.specs.declared.steps.Step.TheVariants as steps
use Rattle.ps_kernel.specs.Lists.{Among}
use Rattle.ps_survive.specs.Steps.{Fault, has, if_there, steps_of, pointer_names, value_names, literal_names, mark_names, names, fault}
use Rattle.ps_survive.specs.Walk.{main_node, begins, End, Ended, Fails, Walks, done, fails, passes, knows, visits, Survives, missing, walks}
use Rattle.ps_survive.specs.Laws.{AnEnd, OneEnd}
use Rattle.ps_survive.proofs.NodesInLists.{in_left, in_right, has_left, has_last}

-- ---- one end

some_none : {A : Type 0} (o : Option A) (x : A) → o ≡ Some x → o ≡ None → ⊥
some_none o x e f = let clash : Some x ≡ None = sym e ∙ f in cc

true_false : (b : Bool) → b ≡ true → b ≡ false → ⊥
true_false b e f = let clash : true ≡ false = sym e ∙ f in cc

same_some : {A : Type 0} (o : Option A) (x y : A) → o ≡ Some x → o ≡ Some y → x ≡ y
same_some o x y e f = let both : Some x ≡ Some y = sym e ∙ f in cc

module _ (m : Program) where
  one_walk : (seen : List Node) (todo : List Step) (e f : End) → Walks m seen todo e → Walks m seen todo f → e ≡ f
  one_walk seen todo e f (done s) (done z) = refl
  one_walk seen todo e f (fails s t r k h) (fails s2 t2 r2 k2 h2) = ap Fails (same_some (fault m t) k k2 h h2)
  one_walk seen todo e f (fails s t r k h) (passes s2 t2 r2 e2 h2 n2 w2) = absurd (some_none (fault m t) k h h2)
  one_walk seen todo e f (fails s t r k h) (knows s2 t2 r2 e2 k2 h2 n2 q2 w2) = absurd (some_none (fault m t) k h h2)
  one_walk seen todo e f (fails s t r k h) (visits s2 t2 r2 e2 k2 h2 n2 q2 w2) = absurd (some_none (fault m t) k h h2)
  one_walk seen todo e f (passes s t r e1 h n w) (fails s2 t2 r2 k2 h2) = absurd (some_none (fault m t) k2 h2 h)
  one_walk seen todo e f (passes s t r e1 h n w) (passes s2 t2 r2 e2 h2 n2 w2) = one_walk s r e1 e2 w w2
  one_walk seen todo e f (passes s t r e1 h n w) (knows s2 t2 r2 e2 k2 h2 n2 q2 w2) = absurd (some_none (names m t) k2 n2 n)
  one_walk seen todo e f (passes s t r e1 h n w) (visits s2 t2 r2 e2 k2 h2 n2 q2 w2) = absurd (some_none (names m t) k2 n2 n)
  one_walk seen todo e f (knows s t r e1 k h n q w) (fails s2 t2 r2 k2 h2) = absurd (some_none (fault m t) k2 h2 h)
  one_walk seen todo e f (knows s t r e1 k h n q w) (passes s2 t2 r2 e2 h2 n2 w2) = absurd (some_none (names m t) k n n2)
  one_walk seen todo e f (knows s t r e1 k h n q w) (knows s2 t2 r2 e2 k2 h2 n2 q2 w2) = one_walk s r e1 e2 w w2
  one_walk seen todo e f (knows s t r e1 k h n q w) (visits s2 t2 r2 e2 k2 h2 n2 q2 w2) = absurd (true_false (has s k) q (ap (has s) (same_some (names m t) k k2 n n2) ∙ q2))
  one_walk seen todo e f (visits s t r e1 k h n q w) (fails s2 t2 r2 k2 h2) = absurd (some_none (fault m t) k2 h2 h)
  one_walk seen todo e f (visits s t r e1 k h n q w) (passes s2 t2 r2 e2 h2 n2 w2) = absurd (some_none (names m t) k n n2)
  one_walk seen todo e f (visits s t r e1 k h n q w) (knows s2 t2 r2 e2 k2 h2 n2 q2 w2) = absurd (true_false (has s k2) q2 (ap (has s) (same_some (names m t) k2 k n2 n) ∙ q))
  one_walk seen todo e f (visits s t r e1 k h n q w) (visits s2 t2 r2 e2 k2 h2 n2 q2 w2) =
      let is : k2 ≡ k = same_some (names m t) k2 k n2 n in
      let P : Node → Type 0 = λ z. Walks m (s ++ z ∷ []) (steps_of m z ++ r) e2 in
      one_walk (s ++ k ∷ []) (steps_of m k ++ r) e1 e2 w (subst P is w2)

  one_start : (e f : End) → Survives m e → Survives m f → e ≡ f
  one_start e f (missing h) (missing k) = refl
  one_start e f (missing h) (walks f2 k w) = absurd (true_false (begins m) k h)
  one_start e f (walks e2 h w) (missing k) = absurd (true_false (begins m) h k)
  one_start e f (walks e2 h w) (walks f2 k v) = one_walk (main_node m ∷ []) (steps_of m (main_node m)) e2 f2 w v

pub one_end : OneEnd
one_end m e f w v = one_start m e f w v

-- ---- an end

-- the nodes of a kind below a number
abbrev numbered : (ℕ → Node) → ℕ → List Node
numbered kind zero = []
numbered kind (suc k) = kind k ∷ numbered kind k

in_numbered : (kind : ℕ → Node) (k i : ℕ) → i < k → Among (kind i) (numbered kind k)
in_numbered kind zero i lt = absurd (omega (arith, lt))
in_numbered kind (suc k) i lt = ⊎_elim (λ (e : i ≡ k). inl (ap kind e)) (λ (l : i < k). inr (in_numbered kind k i l)) (let r : (i ≡ k) ⊎ (i < k) = grind (arith, lt) in r)

abbrev data_nodes : List (ℕ × Block Value) → List Node
data_nodes [] = []
data_nodes (e ∷ es) = nodes.Data e.0 ∷ data_nodes es

data_by : (es : List (ℕ × Block Value)) (e : ℕ × Block Value) (b : ℕ) (c : Block Value) (t : Bool) → nat_eq b e.0 ≡ t → (if t then Some e.1 else find b es) ≡ Some c → ((d : Block Value) → find b es ≡ Some d → Among (nodes.Data b) (data_nodes es)) → Among (nodes.Data b) (data_nodes (e ∷ es))
data_by es e b c true q h later = inl (ap nodes.Data (eqb-true b e.0 q))
data_by es e b c false q h later = inr (later c h)

in_data : (es : List (ℕ × Block Value)) (b : ℕ) (c : Block Value) → find b es ≡ Some c → Among (nodes.Data b) (data_nodes es)
in_data [] b c h = absurd (let clash : None ≡ Some c = h in cc)
in_data (e ∷ es) b c h = data_by es e b c (nat_eq b e.0) refl h (λ d k. in_data es b d k)

abbrev pub every : Program → List Node
every m = numbered nodes.Global (length m.kernel.definitions) ++ (numbered nodes.Inner (length m.kernel.lambdas) ++ data_nodes m.memory.fixed)

-- a node that has its entry
abbrev pub Exists : Program → Node → Type 0
Exists m (nodes.Global g) = (d : Definition) × (slice_get m.kernel.definitions g ≡ Some d)
Exists m (nodes.Inner l) = (d : Lambda) × (slice_get m.kernel.lambdas l ≡ Some d)
Exists m (nodes.Data b) = (c : Block Value) × (find b m.memory.fixed ≡ Some c)

exists_in : (m : Program) (n : Node) → Exists m n → Among n (every m)
exists_in m (nodes.Global g) h = in_left (numbered nodes.Global (length m.kernel.definitions)) (numbered nodes.Inner (length m.kernel.lambdas) ++ data_nodes m.memory.fixed) (nodes.Global g) (in_numbered nodes.Global (length m.kernel.definitions) g (slice_get_within m.kernel.definitions g h.0 h.1))
exists_in m (nodes.Inner l) h = in_right (numbered nodes.Global (length m.kernel.definitions)) (numbered nodes.Inner (length m.kernel.lambdas) ++ data_nodes m.memory.fixed) (nodes.Inner l) (in_left (numbered nodes.Inner (length m.kernel.lambdas)) (data_nodes m.memory.fixed) (nodes.Inner l) (in_numbered nodes.Inner (length m.kernel.lambdas) l (slice_get_within m.kernel.lambdas l h.0 h.1)))
exists_in m (nodes.Data b) h = in_right (numbered nodes.Global (length m.kernel.definitions)) (numbered nodes.Inner (length m.kernel.lambdas) ++ data_nodes m.memory.fixed) (nodes.Data b) (in_right (numbered nodes.Inner (length m.kernel.lambdas)) (data_nodes m.memory.fixed) (nodes.Data b) (in_data m.memory.fixed b h.0 h.1))

-- an entry that is there
if_there_is : {A : Type 0} (o : Option A) (k n : Node) → if_there o k ≡ Some n → (k ≡ n) × ((x : A) × (o ≡ Some x))
if_there_is None k n e = absurd (let clash : None ≡ Some n = e in cc)
if_there_is (Some x) k n e = ((let is : Some k ≡ Some n = e in let same : k ≡ n = cc in same), (x, refl))

module _ (m : Program) where
  pointer_exists : (p : Pointer) (n : Node) → pointer_names m p ≡ Some n → Exists m n
  pointer_exists Null n e = absurd (let clash : None ≡ Some n = e in cc)
  pointer_exists (At (Fixed b) offset) n e = let r = if_there_is (find b m.memory.fixed) (nodes.Data b) n e in subst (Exists m) r.0 r.1
  pointer_exists (At (Made b) offset) n e = absurd (let clash : None ≡ Some n = e in cc)

  value_exists : (v : Value) (n : Node) → value_names m v ≡ Some n → Exists m n
  value_exists (values.Integer i) n e = absurd (let clash : None ≡ Some n = e in cc)
  value_exists (values.Boolean b) n e = absurd (let clash : None ≡ Some n = e in cc)
  value_exists (values.Char c) n e = absurd (let clash : None ≡ Some n = e in cc)
  value_exists values.Unit n e = absurd (let clash : None ≡ Some n = e in cc)
  value_exists (values.Address p) n e = pointer_exists p n e
  value_exists (values.Text p) n e = pointer_exists p n e
  value_exists (values.Vector p) n e = pointer_exists p n e
  value_exists (values.Tuple k p) n e = pointer_exists p n e

  literal_exists : (o : Option Value) (n : Node) → literal_names m o ≡ Some n → Exists m n
  literal_exists None n e = absurd (let clash : None ≡ Some n = e in cc)
  literal_exists (Some v) n e = value_exists v n e

  global_exists : (g : ℕ) (n : Node) → if_there (slice_get m.kernel.definitions g) (nodes.Global g) ≡ Some n → Exists m n
  global_exists g n e = let r = if_there_is (slice_get m.kernel.definitions g) (nodes.Global g) n e in subst (Exists m) r.0 r.1

  inner_exists : (l : ℕ) (n : Node) → if_there (slice_get m.kernel.lambdas l) (nodes.Inner l) ≡ Some n → Exists m n
  inner_exists l n e = let r = if_there_is (slice_get m.kernel.lambdas l) (nodes.Inner l) n e in subst (Exists m) r.0 r.1

  mark_exists : (x : Mark) (n : Node) → mark_names m x ≡ Some n → Exists m n
  mark_exists (marks.Reads g) n e = global_exists g n e
  mark_exists (marks.Assigns g) n e = global_exists g n e
  mark_exists (marks.Quotes q) n e = literal_exists (literal m.kernel q) n e
  mark_exists (marks.Performs p) n e = absurd (let clash : None ≡ Some n = e in cc)
  mark_exists (marks.Stands l) n e = inner_exists l n e

  pub step_exists : (s : Step) (n : Node) → names m s ≡ Some n → Exists m n
  step_exists (steps.Does d) n e = mark_exists d.mark n e
  step_exists (steps.Enters l) n e = inner_exists l n e
  step_exists (steps.Keeps v) n e = value_exists v n e

  -- the steps of the nodes of a list that are not seen
  abbrev pub unseen : List Node → List Node → ℕ
  unseen seen [] = 0
  unseen seen (n ∷ ns) = (if has seen n then 0 else length (steps_of m n)) + unseen seen ns

  abbrev pub left : List Node → ℕ
  left seen = unseen seen (every m)

  weigh_less : (b c : Bool) (w : ℕ) → (b ≡ true → c ≡ true) → (if c then 0 else w) ≤ (if b then 0 else w)
  weigh_less true true w h = omega arith
  weigh_less true false w h = absurd (let clash : false ≡ true = h refl in cc)
  weigh_less false true w h = omega arith
  weigh_less false false w h = omega arith

  unseen_less : (seen : List Node) (n : Node) (ns : List Node) → unseen (seen ++ n ∷ []) ns ≤ unseen seen ns
  unseen_less seen n [] = omega arith
  unseen_less seen n (k ∷ ns) =
      let here = weigh_less (has seen k) (has (seen ++ n ∷ []) k) (length (steps_of m k)) (has_left seen (n ∷ []) k) in
      let rest = unseen_less seen n ns in
      omega (arith, here, rest)

  weigh_here : (b c : Bool) (w : ℕ) → b ≡ false → c ≡ true → (if c then 0 else w) + w ≡ (if b then 0 else w)
  weigh_here true c w e f = absurd cc
  weigh_here false true w e f = omega arith
  weigh_here false false w e f = absurd cc

  unseen_falls : (seen : List Node) (n : Node) (ns : List Node) → has seen n ≡ false → Among n ns → unseen (seen ++ n ∷ []) ns + length (steps_of m n) ≤ unseen seen ns
  unseen_falls seen n [] e h = absurd h
  unseen_falls seen n (k ∷ ns) e h =
      ⊎_elim
      (λ (is : n ≡ k).
      let w = length (steps_of m k) in
      let here = weigh_here (has seen k) (has (seen ++ n ∷ []) k) w (sym (ap (has seen) is) ∙ e) (ap (λ x. has (seen ++ x ∷ []) k) is ∙ has_last seen k) in
      let size : length (steps_of m n) ≡ w = ap (λ x. length (steps_of m x)) is in
      let rest = unseen_less seen n ns in
      omega (arith, here, rest, size))
      (λ (q : Among n ns).
      let here = weigh_less (has seen k) (has (seen ++ n ∷ []) k) (length (steps_of m k)) (has_left seen (n ∷ []) k) in
      let rest = unseen_falls seen n ns e q in
      omega (arith, here, rest))
      h

  -- what is left to do, and what may come of nodes that are not seen yet
  pub visit_falls : (seen : List Node) (t : Step) (todo : List Step) (n : Node) → names m t ≡ Some n → has seen n ≡ false
      → left (seen ++ n ∷ []) + length (steps_of m n ++ todo) + 1 ≤ left seen + length (t ∷ todo)
  visit_falls seen t todo n e h =
      let fall = unseen_falls seen n (every m) h (exists_in m n (step_exists t n e)) in
      let size = length-append (steps_of m n) todo in
      omega (arith, fall, size)

  pub record Ending (seen : List Node) (todo : List Step) : Type 0 where
    pub end : End
    pub is : Walks m seen todo end

  abbrev Later : ℕ → Type 0
  Later f = (seen : List Node) (todo : List Step) → left seen + length todo ≤ f → Ending seen todo

  by_seen : (f : ℕ) → Later f → (seen : List Node) (t : Step) (todo : List Step) → left seen + length (t ∷ todo) ≤ suc f → fault m t ≡ None → (n : Node) → names m t ≡ Some n → (b : Bool) → has seen n ≡ b → Ending seen (t ∷ todo)
  by_seen f later seen t todo le clean n e true h = let r = later seen todo (omega (arith, le)) in record { end = r.end; is = knows seen t todo r.end n clean e h r.is }
  by_seen f later seen t todo le clean n e false h =
      let fall = visit_falls seen t todo n e h in
      let r = later (seen ++ n ∷ []) (steps_of m n ++ todo) (omega (arith, le, fall)) in
      record { end = r.end; is = visits seen t todo r.end n clean e h r.is }

  by_names : (f : ℕ) → Later f → (seen : List Node) (t : Step) (todo : List Step) → left seen + length (t ∷ todo) ≤ suc f → fault m t ≡ None → (o : Option Node) → names m t ≡ o → Ending seen (t ∷ todo)
  by_names f later seen t todo le clean None e = let r = later seen todo (omega (arith, le)) in record { end = r.end; is = passes seen t todo r.end clean e r.is }
  by_names f later seen t todo le clean (Some n) e = by_seen f later seen t todo le clean n e (has seen n) refl

  by_fault : (f : ℕ) → Later f → (seen : List Node) (t : Step) (todo : List Step) → left seen + length (t ∷ todo) ≤ suc f → (o : Option Fault) → fault m t ≡ o → Ending seen (t ∷ todo)
  by_fault f later seen t todo le None e = by_names f later seen t todo le e (names m t) refl
  by_fault n later seen t todo le (Some f) e = record { end = Fails f; is = fails seen t todo f e }

  ends_within : (f : ℕ) → Later f
  ends_within f seen [] le = record { end = Ended seen; is = done seen }
  ends_within zero seen (t ∷ todo) le = absurd (omega (arith, le))
  ends_within (suc f) seen (t ∷ todo) le = by_fault f (ends_within f) seen t todo le (fault m t) refl

  pub walk_ends : (seen : List Node) (todo : List Step) → Ending seen todo
  walk_ends seen todo = ends_within (left seen + length todo) seen todo (omega arith)

  start_ends : (b : Bool) → begins m ≡ b → (e : End) × Survives m e
  start_ends true h = let r = walk_ends (main_node m ∷ []) (steps_of m (main_node m)) in (r.end, walks r.end h r.is)
  start_ends false h = (_, missing h)

pub an_end : AnEnd
an_end m = start_ends m (begins m) refl
