-- The code of a call does what the call does: its operands, and then entering the procedure.
-- For: build
use Rattle.std.proofs.Common.{◌≡◌, ℕ, ℤ, suc, ◌+◌, ◌<◌, ◌≤◌, List, [], ◌∷◌, ◌++◌, length, map, Option, Some, None, refl, sym, ap, ◌∙◌, subst, arith, get_or, append_assoc, true}
use Rattle.std.specs.Prelude.{slice_get}
use Rattle.std.specs.List.{AllByRecursion}
use Rattle.std.proofs.lemmas.List.{get_or-set_same}
use Rattle.ps_base.specs.declared.faults.Place.{Place}
use Rattle.ps_plain.specs.declared.program.Expr.{Expr}
use Rattle.ps_plain.specs.declared.program.Expr.TheOpen.{Expr-F}
use Rattle.ps_plain.specs.Run as source
use Rattle.ps_plain.specs.Run.{Step, Goes, Stops, and_then, pure}
use Rattle.ps_plain.specs.Meaning.{Context, Meaning, each, meaning_of, eval}
use Rattle.ps_plain.specs.Forms.{has_arity}
use Rattle.ps_plain.specs.Valid.{Named}
use Rattle.c_ast.specs.declared.unit.Atom.TheVariants as atoms
use Rattle.c_ast.specs.declared.unit.Statement.{Statement}
use Rattle.c_ast.specs.declared.unit.Statement.TheVariants as statements
use Rattle.c_ast.specs.declared.unit.CUnit.{CUnit}
use Rattle.c_meaning.specs.Machine.{State, with_one, values_of, body_of}
use Rattle.c_emit.specs.InsideCode.{Coded, branch_code, operands_size, operands_labels, operands_code, operands_places, coded_node, coded}
use Rattle.c_emit.proofs.JumpsGoBehindLabels.{all-append, LabelsBelow, labels-more}
use Rattle.c_emit.proofs.MachineFollows.{Meets, Keeps, keeps-self, keeps-then, keeps-assigned, Leads, leads-none, leads-silent, Does, Comes, does-done, does-bind, does-then}
use Rattle.c_emit.proofs.SimpleExpressionsAreCorrect.{Valued, At, at-after, Correct, assigned, meets-assigned, move-step}

-- the values of some operands are there, in the frame of s, whose variables below k are as they were
record Gathered (s : State) (k : ℕ) (ks : List ℕ) (rest : List Statement) (vs : List ℤ) (τ : source.State) (t : State) : Type 0 where
  meets : Meets t τ
  keeps : Keeps k s t
  left : t.left ≡ rest
  values : values_of t.locals ks ≡ Some vs
  count : length vs ≡ length ks

-- an expression does what it does, and then its value is moved to the variable behind its own
module _ (n : Named) (m : Meaning) (c : Coded) (h : Correct n m c) (u : CUnit) (fuel : ℕ) (ctx : Context) (pre : List Statement) (k l : ℕ) (tail : List Statement) (s : State) (σ : source.State)
    (at : At u n fuel ctx s σ) (whole : body_of u s.function ≡ pre ++ (branch_code c (k + c.size) k l ++ tail)) (before : LabelsBelow l pre) (left : s.left ≡ branch_code c (k + c.size) k l ++ tail)
    (room : n.parameters ≤ k) (fits : k + c.size < length s.locals) where
  abbrev move : Statement
  move = statements.Move (k + c.size) (c.atom k)

  flat : branch_code c (k + c.size) k l ++ tail ≡ c.statements k l ++ (move ∷ tail)
  flat = append_assoc (c.statements k l) (move ∷ []) tail

  moves : (v : ℤ) (τ : source.State) (t : State) → Leads u s σ t τ → Valued s k (c.atom k) (move ∷ tail) v τ t → Comes u t τ (Valued s k (atoms.Variable (k + c.size)) tail) v τ
  moves v τ t leads g =
      let next = assigned t (k + c.size) v tail in
      let size = g.keeps.size in
      let lt : k + c.size < length t.locals = omega arith in
      record {
        after = next;
        leads = leads-silent u t next τ (move-step u t (k + c.size) (c.atom k) tail v g.left g.value) g.meets.low;
        there = record {
          meets = meets-assigned t τ (k + c.size) v tail g.meets;
          keeps = keeps-then k k s t next (omega arith) g.keeps (keeps-assigned k (k + c.size) t v tail (omega arith));
          left = refl;
          value = get_or-set_same t.locals (k + c.size) (Some v) None lt;
        };
      }

  operand-does : Does u s σ (Valued s k (atoms.Variable (k + c.size)) tail) (m ctx σ)
  operand-does =
      does-then u (Valued s k (c.atom k) (move ∷ tail)) (Valued s k (atoms.Variable (k + c.size)) tail) s σ (m ctx σ)
      (h.runs u fuel ctx pre k l (move ∷ tail) s σ at (whole ∙ ap (λ y. pre ++ y) flat) before (left ∙ flat) room (omega arith)) moves

-- the labels of an operand
operand-low : (n : Named) (m : Meaning) (c : Coded) → Correct n m c → (k l : ℕ) → LabelsBelow (l + c.labels) (branch_code c (k + c.size) k l)
operand-low n m c h k l = all-append _ (c.statements k l) _ (h.low k l) (tt, tt)

-- each expression has code that does what it does
abbrev pub AreCorrect : Named → List Expr → Type 0
AreCorrect n es = AllByRecursion (λ e. Correct n (eval e) (coded e)) es

operands-low : (n : Named) (es : List Expr) → AreCorrect n es → (k l : ℕ) → LabelsBelow (l + operands_labels (map coded es)) (operands_code (map coded es) k l)
operands-low n [] hs k l = tt
operands-low n (e ∷ es) hs k l =
    let c = coded e in
    let m = l + (c.labels + operands_labels (map coded es)) in
    let same : l + c.labels + operands_labels (map coded es) ≡ m = omega arith in
    all-append _ (branch_code c (k + c.size) k l) _ (labels-more (l + c.labels) m (branch_code c (k + c.size) k l) (omega arith) (operand-low n (eval e) c hs.0 k l))
    (subst (λ x. LabelsBelow x (operands_code (map coded es) (k + (c.size + 1)) (l + c.labels))) same (operands-low n es hs.1 (k + (c.size + 1)) (l + c.labels)))

places-count : (cs : List Coded) (k : ℕ) → length (operands_places cs k) ≡ length cs
places-count [] k = refl
places-count (c ∷ cs) k = ap suc (places-count cs (k + (c.size + 1)))

operands-do : (n : Named) (es : List Expr) → AreCorrect n es → (u : CUnit) (fuel : ℕ) (ctx : Context) (pre : List Statement) (k l : ℕ) (tail : List Statement) (s : State) (σ : source.State) → At u n fuel ctx s σ
    → body_of u s.function ≡ pre ++ (operands_code (map coded es) k l ++ tail) → LabelsBelow l pre → s.left ≡ operands_code (map coded es) k l ++ tail → n.parameters ≤ k → k + operands_size (map coded es) ≤ length s.locals
    → Does u s σ (Gathered s k (operands_places (map coded es) k) tail) (each (map eval es) ctx σ)
operands-do n [] hs u fuel ctx pre k l tail s σ at whole before left room fits =
    does-done u (Gathered s k [] tail) s σ [] (record { meets = at.meets; keeps = keeps-self k s; left = left; values = refl; count = refl })
operands-do n (e ∷ es) hs u fuel ctx pre k l tail s σ at whole before left room fits =
    let c = coded e in
    let k' = k + (c.size + 1) in
    let l' = l + c.labels in
    let first = branch_code c (k + c.size) k l in
    let others = operands_code (map coded es) k' l' ++ tail in
    let near : (first ++ operands_code (map coded es) k' l') ++ tail ≡ first ++ others = append_assoc first (operands_code (map coded es) k' l') tail in
    let far : body_of u s.function ≡ (pre ++ first) ++ others = whole ∙ ap (λ y. pre ++ y) near ∙ sym (append_assoc pre first others) in
    let low = all-append _ pre first (labels-more l l' pre (omega arith) before) (operand-low n (eval e) c hs.0 k l) in
    let T1 = Valued s k (atoms.Variable (k + c.size)) others in
    let T = Gathered s k ((k + c.size) ∷ operands_places (map coded es) k') tail in
    does-bind u T1 T s σ (eval e ctx σ) (λ v τ. and_then (each (map eval es) ctx τ) (λ vs. pure (v ∷ vs)))
    (operand-does n (eval e) c hs.0 u fuel ctx pre k l others s σ at (whole ∙ ap (λ y. pre ++ y) near) before (left ∙ near) room (omega arith))
    (λ v τ t leads g.
    let here = at-after u n fuel ctx s t σ τ k room at leads g.meets g.keeps in
    let size = g.keeps.size in
    let T2 = Gathered t k' (operands_places (map coded es) k') tail in
    does-bind u T2 T t τ (each (map eval es) ctx τ) (λ vs. pure (v ∷ vs))
    (operands-do n es hs.1 u fuel ctx (pre ++ first) k' l' tail t τ here (ap (body_of u) g.keeps.function ∙ far) low g.left (omega arith) (omega arith))
    (λ vs τ2 t2 leads2 g2.
    let kept : get_or t2.locals (k + c.size) None ≡ Some v = g2.keeps.same.at (k + c.size) (omega arith) ∙ g.value in
    does-done u T t2 τ2 (v ∷ vs) (record {
      meets = g2.meets;
      keeps = keeps-then k k' s t t2 (omega arith) g.keeps g2.keeps;
      left = g2.left;
      values = ap (λ o. with_one o (values_of t2.locals (operands_places (map coded es) k'))) kept ∙ ap (with_one (Some v)) g2.values;
      count = ap suc g2.count;
    })))

-- a test of a number of parameters
arity-is : (m : ℕ) (o : Option ℕ) → has_arity m o ≡ true → o ≡ Some m
arity-is m None e = cc
arity-is m (Some x) e = ap Some (grind (arith, e))

pub correct-call : (n : Named) (p place : Place) (f : ℕ) (es : List Expr) → AreCorrect n es → has_arity (length es) (slice_get n.procedures f) ≡ true → Correct n (meaning_of (Expr-F.Call p place f (map eval es))) (coded_node (Expr-F.Call p place f (map coded es)))
correct-call n p place f es hs arity = record {
  runs = λ u fuel ctx pre k l rest s σ at whole before left room fits.
      let cs = map coded es in
      let target = k + operands_size cs in
      let call : Statement = statements.Call target f (operands_places cs k) in
      let O = operands_code cs k l in
      let flat : (O ++ (call ∷ [])) ++ rest ≡ O ++ (call ∷ rest) = append_assoc O (call ∷ []) rest in
      let T = Valued s k (atoms.Variable target) rest in
      let T1 = Gathered s k (operands_places cs k) (call ∷ rest) in
      does-bind u T1 T s σ (each (map eval es) ctx σ) (λ vs. ctx.enter p (ctx.depth + 1) f vs)
      (operands-do n es hs u fuel ctx pre k l (call ∷ rest) s σ at (whole ∙ ap (λ y. pre ++ y) flat) before (left ∙ flat) room (omega arith))
      (λ vs τ t leads g.
      let here = at-after u n fuel ctx s t σ τ k room at leads g.meets g.keeps in
      let size = g.keeps.size in
      let number : length es ≡ length vs = sym (g.count ∙ places-count cs k ∙ length-map es) in
      let entered = here.enters.by p f vs t τ k target (operands_places cs k) rest here.enough (arity-is (length es) (slice_get n.procedures f) arity ∙ ap Some number) g.left g.values (omega arith) (omega arith) here.meets in
      let at_depth = subst (λ d. Does u t τ (Valued t k (atoms.Variable target) rest) (ctx.enter p (d + 1) f vs τ)) here.depth entered in
      does-then u (Valued t k (atoms.Variable target) rest) T t τ (ctx.enter p (ctx.depth + 1) f vs τ) at_depth
      (λ v τ2 t2 leads2 g2. record { after = t2; leads = leads-none u t2 τ2; there = record { meets = g2.meets; keeps = keeps-then k k s t t2 (omega arith) g.keeps g2.keeps; left = g2.left; value = g2.value } }));
  below = λ k room. omega arith;
  low = λ k l. all-append _ (operands_code (map coded es) k l) _ (operands-low n es hs k l) (tt, tt);
}
  where
    length-map : (xs : List Expr) → length (map coded xs) ≡ length xs
    length-map [] = refl
    length-map (x ∷ xs) = ap suc (length-map xs)
