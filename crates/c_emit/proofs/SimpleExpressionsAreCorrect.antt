-- What it means that code does what a part of the source does, and the simple expressions.
-- For: build
use Rattle.std.proofs.Common.{◌≡◌, ℕ, ℤ, zero, suc, ◌+◌, ◌<◌, ◌≤◌, List, [], ◌∷◌, ◌++◌, length, Option, Some, None, refl, sym, ap, ◌∙◌, subst, arith, get_or, append_assoc}
use Rattle.std.specs.Prelude.{slice_get, slice_set}
use Rattle.std.proofs.lemmas.List.{length-set, get_or-set_same}
use Rattle.byte_store.specs.declared.event.Event.{Event}
use Rattle.byte_store.specs.declared.event.Event.TheVariants.{Input}
use Rattle.ps_base.specs.declared.faults.Place.{Place}
use Rattle.ps_base.specs.declared.faults.Op.TheVariants.{Overflow, Unset}
use Rattle.ps_base.specs.Numbers.{fit}
use Rattle.byte_store.specs.Outcome.{Undefined, Wrong}
use Rattle.byte_store.specs.Machine.{Goes as Moves}
use Rattle.byte_store.specs.Worlds.{Surroundings, next_byte, rest_of}
use Rattle.ps_plain.specs.declared.program.Expr.TheOpen.{Expr-F}
use Rattle.ps_plain.specs.declared.program.Operator.{Operator}
use Rattle.ps_plain.specs.declared.program.Operator.TheVariants as source_operators
use Rattle.ps_plain.specs.Run as source
use Rattle.ps_plain.specs.Run.{Step, Goes, Stops, and_then, known, read_byte}
use Rattle.ps_plain.specs.Meaning.{Enter, Context, Meaning, result_of as value_of, meaning_of}
use Rattle.ps_plain.specs.Valid.{Named}
use Rattle.c_ast.specs.declared.unit.Atom.{Atom}
use Rattle.c_ast.specs.declared.unit.Atom.TheVariants as atoms
use Rattle.c_ast.specs.declared.unit.BinaryOperator.{BinaryOperator}
use Rattle.c_ast.specs.declared.unit.Statement.{Statement}
use Rattle.c_ast.specs.declared.unit.Statement.TheVariants as statements
use Rattle.c_ast.specs.declared.unit.CUnit.{CUnit}
use Rattle.c_meaning.specs.Machine.{State, atom_value, values_of, with_value, assign, result_of, body_of, step_at, machine}
use Rattle.c_emit.specs.InsideCode.{Coded, operator_of, coded_node}
use Rattle.c_emit.proofs.JumpsGoBehindLabels.{all-append, LabelsBelow, labels-more}
use Rattle.c_emit.proofs.MachineFollows.{Meets, Keeps, keeps-self, keeps-then, keeps-assigned, Below, atom-same, Leads, leads-step, leads-silent, Does, does-done, does-comes, does-stuck, does-bind}

-- the value of an expression is there, in the frame of s, whose variables below k are as they were
pub record Valued (s : State) (k : ℕ) (x : Atom) (rest : List Statement) (v : ℤ) (τ : source.State) (t : State) : Type 0 where
  pub meets : Meets t τ
  pub keeps : Keeps k s t
  pub left : t.left ≡ rest
  pub value : atom_value t.locals x ≡ Some v

-- From a call whose operands are there, the machine does what the source does by entering the procedure, as long as no more
-- calls are left than `fuel`. The procedures have these numbers of parameters.
pub record EnterOk (u : CUnit) (arities : List ℕ) (fuel : ℕ) (enter : Enter) : Type 0 where
  pub by : (place : Place) (f : ℕ) (vs : List ℤ) (s : State) (σ : source.State) (k target : ℕ) (ks : List ℕ) (rest : List Statement) → σ.calls ≤ fuel → slice_get arities f ≡ Some (length vs)
      → s.left ≡ statements.Call target f ks ∷ rest → values_of s.locals ks ≡ Some vs → target < length s.locals → k ≤ target → Meets s σ
      → Does u s σ (Valued s k (atoms.Variable target) rest) (enter place (length s.callers + 1) f vs σ)

-- the machine is in a frame for this context: its first variables are the arguments
pub record At (u : CUnit) (n : Named) (fuel : ℕ) (c : Context) (s : State) (σ : source.State) : Type 0 where
  pub enters : EnterOk u n.procedures fuel c.enter
  pub enough : σ.calls ≤ fuel
  pub meets : Meets s σ
  pub depth : length s.callers ≡ c.depth
  pub count : length c.arguments ≡ n.parameters
  pub given : (i : ℕ) (v : ℤ) → slice_get c.arguments i ≡ Some v → get_or s.locals i None ≡ Some v

-- what stands in a list stands within it
within : {A : Type 0} (xs : List A) (i : ℕ) (v : A) → slice_get xs i ≡ Some v → i < length xs
within [] i v e = absurd (let clash : None ≡ Some v = e in cc)
within (x ∷ xs) zero v e = omega arith
within (x ∷ xs) (suc i) v e = omega (arith, within xs i v e)

pub at-after : (u : CUnit) (n : Named) (fuel : ℕ) (c : Context) (s t : State) (σ τ : source.State) (k : ℕ) → n.parameters ≤ k → At u n fuel c s σ → Leads u s σ t τ → Meets t τ → Keeps k s t → At u n fuel c t τ
at-after u n fuel c s t σ τ k le a l meets keeps = record {
  enters = a.enters;
  enough = omega (arith, a.enough, l.fewer);
  meets = meets;
  depth = ap length keeps.callers ∙ a.depth;
  count = a.count;
  given = λ i v e. keeps.same.at i (omega (arith, within c.arguments i v e, a.count)) ∙ a.given i v e;
}

-- the code does what the part of the source does, wherever in a function it stands
pub record Correct (n : Named) (m : Meaning) (c : Coded) : Type 0 where
  pub runs : (u : CUnit) (fuel : ℕ) (ctx : Context) (pre : List Statement) (k l : ℕ) (rest : List Statement) (s : State) (σ : source.State) → At u n fuel ctx s σ
      → body_of u s.function ≡ pre ++ (c.statements k l ++ rest) → LabelsBelow l pre → s.left ≡ c.statements k l ++ rest → n.parameters ≤ k → k + c.size ≤ length s.locals
      → Does u s σ (Valued s k (c.atom k) rest) (m ctx σ)
  pub below : (k : ℕ) → n.parameters ≤ k → Below (k + c.size) (c.atom k)
  pub low : (k l : ℕ) → LabelsBelow (l + c.labels) (c.statements k l)

pub correct-integer : (n : Named) (p : Place) (i : ℤ) → Correct n (meaning_of (Expr-F.Integer p i)) (coded_node (Expr-F.Integer p i))
correct-integer n p i = record {
  runs = λ u fuel ctx pre k l rest s σ at whole before left room fits. does-done u (Valued s k (atoms.Integer i) rest) s σ i (record { meets = at.meets; keeps = keeps-self k s; left = left; value = refl });
  below = λ k room. tt;
  low = λ k l. tt;
}

-- what stands at a place of a list
some-at : (xs : List ℤ) (i : ℕ) → i < length xs → (v : ℤ) × (slice_get xs i ≡ Some v)
some-at [] i lt = absurd (omega arith)
some-at (x ∷ xs) zero lt = (x, refl)
some-at (x ∷ xs) (suc i) lt = some-at xs i (omega arith)

pub correct-parameter : (n : Named) (p : Place) (i : ℕ) → i < n.parameters → Correct n (meaning_of (Expr-F.Parameter p i)) (coded_node (Expr-F.Parameter p i))
correct-parameter n p i lt = record {
  runs = λ u fuel ctx pre k l rest s σ at whole before left room fits.
      let v = some-at ctx.arguments i (omega (arith, at.count)) in
      let T = Valued s k (atoms.Variable i) rest in
      subst (λ o. Does u s σ T (known (Wrong p) o σ)) (sym v.1) (does-done u T s σ v.0 (record { meets = at.meets; keeps = keeps-self k s; left = left; value = at.given i v.0 v.1 }));
  below = λ k room. omega arith;
  low = λ k l. tt;
}

-- ---- steps

-- the step of an operation of two atoms that are set
pub operation-step : (u : CUnit) (s : State) (n : ℕ) (a : Atom) (o : BinaryOperator) (b : Atom) (rest : List Statement) (x y : ℤ) (v : Option ℤ) → s.left ≡ statements.Operation n a o b ∷ rest → atom_value s.locals a ≡ Some x → atom_value s.locals b ≡ Some y → fit (result_of o x y) ≡ v
    → (machine u).step s ≡ with_value Overflow v (λ z. assign s rest n z)
operation-step u s n a o b rest x y v left hx hy e =
    ap (step_at u s) left
    ∙ ap (λ q. with_value Unset q (λ i. with_value Unset (atom_value s.locals b) (λ j. with_value Overflow (fit (result_of o i j)) (λ z. assign s rest n z)))) hx
    ∙ ap (λ q. with_value Unset q (λ j. with_value Overflow (fit (result_of o x j)) (λ z. assign s rest n z))) hy
    ∙ ap (λ q. with_value Overflow q (λ z. assign s rest n z)) e

-- a variable that is assigned, with what follows
abbrev pub assigned : State → ℕ → ℤ → List Statement → State
assigned s n v rest = record s { locals = slice_set s.locals n (Some v); left = rest }

pub meets-assigned : (s : State) (σ : source.State) (n : ℕ) (v : ℤ) (rest : List Statement) → Meets s σ → Meets (assigned s n v rest) σ
meets-assigned s σ n v rest h = record { world = h.world; events = h.events; low = h.low }

pub move-step : (u : CUnit) (s : State) (n : ℕ) (a : Atom) (rest : List Statement) (v : ℤ) → s.left ≡ statements.Move n a ∷ rest → atom_value s.locals a ≡ Some v → (machine u).step s ≡ Moves (assigned s n v rest)
move-step u s n a rest v left h = ap (step_at u s) left ∙ ap (λ q. with_value Unset q (λ i. assign s rest n i)) h

-- the value of an assignment, as it is reached from s
pub valued-assigned : (s t : State) (k n : ℕ) (v : ℤ) (rest : List Statement) (τ : source.State) → Keeps k s t → Meets t τ → k ≤ n → n < length t.locals → Valued s k (atoms.Variable n) rest v τ (assigned t n v rest)
valued-assigned s t k n v rest τ keeps meets le lt = record {
  meets = meets-assigned t τ n v rest meets;
  keeps = keeps-then k k s t (assigned t n v rest) (omega arith) keeps (keeps-assigned k n t v rest le);
  left = refl;
  value = get_or-set_same t.locals n (Some v) None lt;
}

-- ---- two operands

-- two operands and then what follows: where both have values, that decides
module _ (n : Named) (m1 m2 : Meaning) (a b : Coded) (h1 : Correct n m1 a) (h2 : Correct n m2 b) (u : CUnit) (fuel : ℕ) (ctx : Context) (pre : List Statement) (k l : ℕ) (tail : List Statement) (s : State) (σ : source.State)
    (at : At u n fuel ctx s σ) (whole : body_of u s.function ≡ pre ++ (a.statements k l ++ (b.statements (k + a.size) (l + a.labels) ++ tail))) (before : LabelsBelow l pre)
    (left : s.left ≡ a.statements k l ++ (b.statements (k + a.size) (l + a.labels) ++ tail)) (room : n.parameters ≤ k) (fits : k + a.size + b.size ≤ length s.locals)
    (T : ℤ → source.State → State → Type 0) (f : ℤ → ℤ → source.Run ℤ)
    (on : (v w : ℤ) (τ : source.State) (t : State) → At u n fuel ctx t τ → Keeps k s t → t.left ≡ tail → atom_value t.locals (a.atom k) ≡ Some v → atom_value t.locals (b.atom (k + a.size)) ≡ Some w → Does u t τ T (f v w τ)) where
  abbrev first_target : ℤ → source.State → State → Type 0
  first_target = Valued s k (a.atom k) (b.statements (k + a.size) (l + a.labels) ++ tail)

  -- the second operand, once the first has a value
  second : (v : ℤ) (τ : source.State) (t : State) → Leads u s σ t τ → first_target v τ t → Does u t τ T (and_then (m2 ctx τ) (λ w. f v w))
  second v τ t leads g =
      let size = g.keeps.size in
      let here = at-after u n fuel ctx s t σ τ k room at leads g.meets g.keeps in
      let spread : body_of u t.function ≡ (pre ++ a.statements k l) ++ (b.statements (k + a.size) (l + a.labels) ++ tail) =
      ap (body_of u) g.keeps.function ∙ whole ∙ sym (append_assoc pre (a.statements k l) (b.statements (k + a.size) (l + a.labels) ++ tail)) in
      let low = all-append _ pre (a.statements k l) (labels-more l (l + a.labels) pre (omega arith) before) (h1.low k l) in
      let T2 = Valued t (k + a.size) (b.atom (k + a.size)) tail in
      does-bind u T2 T t τ (m2 ctx τ) (λ w. f v w)
      (h2.runs u fuel ctx (pre ++ a.statements k l) (k + a.size) (l + a.labels) tail t τ here spread low g.left (omega arith) (omega arith))
      (λ w τ2 t2 leads2 g2.
      on v w τ2 t2
      (at-after u n fuel ctx t t2 τ τ2 (k + a.size) (omega arith) here leads2 g2.meets g2.keeps)
      (keeps-then k (k + a.size) s t t2 (omega arith) g.keeps g2.keeps)
      g2.left
      (atom-same (k + a.size) t.locals t2.locals (a.atom k) (h1.below k room) g2.keeps.same ∙ g.value)
      g2.value)

  pub two-operands : Does u s σ T (and_then (m1 ctx σ) (λ v τ. and_then (m2 ctx τ) (λ w. f v w)))
  two-operands =
      does-bind u first_target T s σ (m1 ctx σ) (λ v τ. and_then (m2 ctx τ) (λ w. f v w))
      (h1.runs u fuel ctx pre k l (b.statements (k + a.size) (l + a.labels) ++ tail) s σ at whole before left room (omega arith)) second

-- ---- operations

-- an operation of the source has the result that its C operator has
operator-result : (o : Operator) (x y : ℤ) → result_of (operator_of o) x y ≡ value_of o x y
operator-result source_operators.Add x y = refl
operator-result source_operators.Subtract x y = refl
operator-result source_operators.Multiply x y = refl

-- a value that has 64 bits or not, which an operation gives
operation-does : (u : CUnit) (p : Place) (s : State) (k n : ℕ) (a : Atom) (o : BinaryOperator) (b : Atom) (rest : List Statement) (t : State) (v w z : ℤ) (τ : source.State) (q : Option ℤ) → t.left ≡ statements.Operation n a o b ∷ rest → Meets t τ → Keeps k s t → n < length t.locals → k ≤ n
    → atom_value t.locals a ≡ Some v → atom_value t.locals b ≡ Some w → result_of o v w ≡ z → fit z ≡ q → Does u t τ (Valued s k (atoms.Variable n) rest) (known (Undefined Overflow p) q τ)
operation-does u p s k n a o b rest t v w z τ None left meets keeps lt le hv hw is e =
    does-stuck u (Valued s k (atoms.Variable n) rest) t τ Overflow Overflow p (operation-step u t n a o b rest v w None left hv hw (ap fit is ∙ e)) meets
operation-does u p s k n a o b rest t v w z τ (Some i) left meets keeps lt le hv hw is e =
    does-comes u (Valued s k (atoms.Variable n) rest) t (assigned t n i rest) τ τ i
    (leads-silent u t (assigned t n i rest) τ (operation-step u t n a o b rest v w (Some i) left hv hw (ap fit is ∙ e)) meets.low)
    (valued-assigned s t k n i rest τ keeps meets le lt)

pub correct-operation : (n : Named) (p : Place) (o : Operator) (m1 m2 : Meaning) (a b : Coded) → Correct n m1 a → Correct n m2 b → Correct n (meaning_of (Expr-F.Operation p o m1 m2)) (coded_node (Expr-F.Operation p o a b))
correct-operation n p o m1 m2 a b h1 h2 = record {
  runs = λ u fuel ctx pre k l rest s σ at whole before left room fits.
      let target = k + a.size + b.size in
      let op : Statement = statements.Operation target (a.atom k) (operator_of o) (b.atom (k + a.size)) in
      let A = a.statements k l in
      let B = b.statements (k + a.size) (l + a.labels) in
      let flat : (A ++ (B ++ (op ∷ []))) ++ rest ≡ A ++ (B ++ (op ∷ rest)) = append_assoc A (B ++ (op ∷ [])) rest ∙ ap (λ y. A ++ y) (append_assoc B (op ∷ []) rest) in
      two-operands n m1 m2 a b h1 h2 u fuel ctx pre k l (op ∷ rest) s σ at (whole ∙ ap (λ y. pre ++ y) flat) before (left ∙ flat) room (omega arith)
      (Valued s k (atoms.Variable target) rest) (λ v w. known (Undefined Overflow p) (fit (value_of o v w)))
      (λ v w τ t here keeps tleft hv hw.
      let size = keeps.size in
      operation-does u p s k target (a.atom k) (operator_of o) (b.atom (k + a.size)) rest t v w (value_of o v w) τ (fit (value_of o v w)) tleft here.meets keeps (omega arith) (omega arith) hv hw (operator-result o v w) refl);
  below = λ k room. omega arith;
  low = λ k l.
      let first = labels-more (l + a.labels) (l + (a.labels + b.labels)) (a.statements k l) (omega arith) (h1.low k l) in
      let same : l + a.labels + b.labels ≡ l + (a.labels + b.labels) = omega arith in
      let second = subst (λ n. LabelsBelow n (b.statements (k + a.size) (l + a.labels))) same (h2.low (k + a.size) (l + a.labels)) in
      all-append _ (a.statements k l) _ first (all-append _ (b.statements (k + a.size) (l + a.labels)) _ second (tt, tt));
}

-- ---- reading a byte

-- the states behind a byte that is read
abbrev byte_read : State → ℕ → List Statement → State
byte_read s k rest = record s {
  locals = slice_set s.locals k (Some (next_byte s.world.input));
  left = rest;
  world = record s.world { input = rest_of s.world.input };
  events = s.events ++ Input (next_byte s.world.input) ∷ [];
}

abbrev source_read : source.State → source.State
source_read σ = record σ { world = record σ.world { input = rest_of σ.world.input }; events = σ.events ++ Input (next_byte σ.world.input) ∷ [] }

meets-read : (s : State) (σ : source.State) (k : ℕ) (rest : List Statement) → Meets s σ → Meets (byte_read s k rest) (source_read σ)
meets-read s σ k rest h = record {
  world = ap (λ (w : Surroundings). record w { input = rest_of w.input }) h.world;
  events = ap (λ (es : List Event). es ++ Input (next_byte s.world.input) ∷ []) h.events ∙ ap (λ (w : Surroundings). σ.events ++ Input (next_byte w.input) ∷ []) h.world;
  low = h.low;
}

pub correct-read : (n : Named) (p : Place) → Correct n (meaning_of (Expr-F.ReadByte p)) (coded_node (Expr-F.ReadByte p))
correct-read n p = record {
  runs = λ u fuel ctx pre k l rest s σ at whole before left room fits.
      let T = Valued s k (atoms.Variable k) rest in
      does-comes u T s (byte_read s k rest) σ (source_read σ) (next_byte σ.world.input)
      (leads-step u s (byte_read s k rest) σ (source_read σ) (ap (step_at u s) left) at.meets.low (omega arith) (omega arith) (omega arith))
      (record {
        meets = meets-read s σ k rest at.meets;
        keeps = record { function = refl; callers = refl; size = length-set s.locals k (Some (next_byte s.world.input)); same = (keeps-assigned k k s (next_byte s.world.input) rest (omega arith)).same };
        left = refl;
        value = get_or-set_same s.locals k (Some (next_byte s.world.input)) None (omega arith) ∙ ap (λ (w : Surroundings). Some (next_byte w.input)) at.meets.world;
      });
  below = λ k room. omega arith;
  low = λ k l. (tt, tt);
}
