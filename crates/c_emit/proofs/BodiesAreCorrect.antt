-- The code of a procedure's body does what the body does.
-- For: build
use Rattle.std.proofs.Common.{◌≡◌, ℕ, ℤ, suc, pos, ◌+◌, ◌≤◌, List, [], ◌∷◌, ◌++◌, length, map, Option, Some, None, refl, sym, ap, ◌∙◌, subst, arith, append_assoc, Bool, true}
use Rattle.std.specs.Prelude.{slice_get, slice_set, ◌&&◌}
use Rattle.std.specs.List.{AllByRecursion}
use Rattle.std.proofs.lemmas.Bool.{and_parts, ltb-true}
use Rattle.byte_store.specs.declared.event.Event.{Event}
use Rattle.byte_store.specs.declared.event.Event.TheVariants.{Output}
use Rattle.ps_base.specs.declared.faults.Place.{Place}
use Rattle.ps_base.specs.declared.faults.Op.TheVariants.{Byte, Unset}
use Rattle.ps_base.specs.Numbers.{byte_of}
use Rattle.byte_store.specs.Outcome.{Undefined}
use Rattle.ps_plain.specs.declared.program.Expr.{Expr}
use Rattle.ps_plain.specs.declared.program.Expr.TheVariants as exprs
use Rattle.ps_plain.specs.declared.program.Write.{Write}
use Rattle.ps_plain.specs.declared.program.Procedure.{Procedure}
use Rattle.ps_plain.specs.Run as source
use Rattle.ps_plain.specs.Run.{Step, Goes, Stops, and_then, known, note}
use Rattle.ps_plain.specs.Meaning.{Context, Meaning, meaning_of, eval, write as write_meaning, write_all, body}
use Rattle.ps_plain.specs.Forms.{has_arity}
use Rattle.ps_plain.specs.Valid.{Named, all_true, valid_node, valid}
use Rattle.ps_plain.proofs.Trees.{induction, fold-integer, fold-parameter, fold-operation, fold-if, fold-call, fold-read}
use Rattle.c_ast.specs.declared.unit.Atom.{Atom}
use Rattle.c_ast.specs.declared.unit.Statement.{Statement}
use Rattle.c_ast.specs.declared.unit.Statement.TheVariants as statements
use Rattle.c_ast.specs.declared.unit.CUnit.{CUnit}
use Rattle.c_meaning.specs.Machine.{State, atom_value, with_value, write, body_of, step_at, machine}
use Rattle.c_emit.specs.InsideCode.{Coded, coded_node, coded, writes_size, writes_labels, writes_code, statements_of}
use Rattle.c_emit.proofs.JumpsGoBehindLabels.{all-append, LabelsBelow, labels-more}
use Rattle.c_emit.proofs.MachineFollows.{Meets, Keeps, keeps-self, keeps-then, keeps-assigned, leads-none, leads-step, Does, does-done, does-comes, does-stuck, does-bind, does-then}
use Rattle.c_emit.proofs.SimpleExpressionsAreCorrect.{Valued, At, at-after, Correct, correct-integer, correct-parameter, correct-operation, correct-read}
use Rattle.c_emit.proofs.ConditionalsAreCorrect.{correct-if}
use Rattle.c_emit.proofs.CallsAreCorrect.{AreCorrect, correct-call}

-- ---- every valid expression

-- the code of an expression does what it does, where the expression is valid
abbrev IsCorrect : Named → Expr → Type 0
IsCorrect n e = valid n e ≡ true → Correct n (eval e) (coded e)

by-clauses : (n : Named) (e : Expr) (m : Meaning) (c : Coded) (b : Bool) → eval e ≡ m → coded e ≡ c → valid n e ≡ b → (b ≡ true → Correct n m c) → IsCorrect n e
by-clauses n e m c b is code valid_is h v = subst (λ x. Correct n x (coded e)) (sym is) (subst (Correct n m) (sym code) (h (sym valid_is ∙ v)))

all-correct : (n : Named) (es : List Expr) → AllByRecursion (IsCorrect n) es → all_true (map (valid n) es) ≡ true → AreCorrect n es
all-correct n [] hs v = tt
all-correct n (e ∷ es) hs v = let both = and_parts (valid n e) (all_true (map (valid n) es)) v in (hs.0 both.0, all-correct n es hs.1 both.1)

count-is : (n : Named) (es : List Expr) → length (map (valid n) es) ≡ length es
count-is n [] = refl
count-is n (e ∷ es) = ap suc (count-is n es)

pub correct : (n : Named) (e : Expr) → valid n e ≡ true → Correct n (eval e) (coded e)
correct n = induction (IsCorrect n)
    (λ p i. by-clauses n (exprs.Integer p i) _ _ _ (fold-integer meaning_of p i) (fold-integer coded_node p i) (fold-integer (valid_node n) p i) (λ v. correct-integer n p i))
    (λ p k. by-clauses n (exprs.Parameter p k) _ _ _ (fold-parameter meaning_of p k) (fold-parameter coded_node p k) (fold-parameter (valid_node n) p k) (λ v. correct-parameter n p k (ltb-true k n.parameters v)))
    (λ p o a b ha hb. by-clauses n (exprs.Operation p o a b) _ _ _ (fold-operation meaning_of p o a b) (fold-operation coded_node p o a b) (fold-operation (valid_node n) p o a b)
    (λ v. let both = and_parts (valid n a) (valid n b) v in correct-operation n p o (eval a) (eval b) (coded a) (coded b) (ha both.0) (hb both.1)))
    (λ p at q a b c d ha hb hc hd. by-clauses n (exprs.If p at q a b c d) _ _ _ (fold-if meaning_of p at q a b c d) (fold-if coded_node p at q a b c d) (fold-if (valid_node n) p at q a b c d)
    (λ v.
    let last = and_parts (valid n a && valid n b && valid n c) (valid n d) v in
    let third = and_parts (valid n a && valid n b) (valid n c) last.0 in
    let both = and_parts (valid n a) (valid n b) third.0 in
    correct-if n p at q (eval a) (eval b) (eval c) (eval d) (coded a) (coded b) (coded c) (coded d) (ha both.0) (hb both.1) (hc third.1) (hd last.1)))
    (λ p at f es hs. by-clauses n (exprs.Call p at f es) _ _ _ (fold-call meaning_of p at f es) (fold-call coded_node p at f es) (fold-call (valid_node n) p at f es)
    (λ v.
    let both = and_parts (has_arity (length (map (valid n) es)) (slice_get n.procedures f)) (all_true (map (valid n) es)) v in
    correct-call n p at f es (all-correct n es hs both.1) (subst (λ m. has_arity m (slice_get n.procedures f) ≡ true) (count-is n es) both.0)))
    (λ p. by-clauses n (exprs.ReadByte p) _ _ _ (fold-read meaning_of p) (fold-read coded_node p) (fold-read (valid_node n) p) (λ v. correct-read n p))

-- ---- the bytes that are written

-- some writes are done, in the frame of s, whose variables below k are as they were
record Wrote (s : State) (k : ℕ) (rest : List Statement) (done : Unit {0}) (τ : source.State) (t : State) : Type 0 where
  meets : Meets t τ
  keeps : Keeps k s t
  left : t.left ≡ rest

-- the step of a write of an atom that is set
write-step : (u : CUnit) (s : State) (n : ℕ) (a : Atom) (rest : List Statement) (v : ℤ) (q : Option ℤ) → s.left ≡ statements.Write n a ∷ rest → atom_value s.locals a ≡ Some v → byte_of v ≡ q → (machine u).step s ≡ with_value Byte q (λ b. write s rest n b)
write-step u s n a rest v q left h e =
    ap (step_at u s) left ∙ ap (λ x. with_value Unset x (λ i. with_value Byte (byte_of i) (λ b. write s rest n b))) h ∙ ap (λ x. with_value Byte x (λ b. write s rest n b)) e

-- the states behind a byte that is written
abbrev byte_written : State → ℕ → List Statement → ℤ → State
byte_written s n rest b = record s { locals = slice_set s.locals n (Some (pos 0)); left = rest; events = s.events ++ Output b ∷ [] }

abbrev source_written : source.State → ℤ → source.State
source_written σ b = record σ { events = σ.events ++ Output b ∷ [] }

-- the value of an expression is there, and is a byte or not
byte-does : (u : CUnit) (p : Place) (s : State) (k n : ℕ) (a : Atom) (rest : List Statement) (t : State) (v : ℤ) (τ : source.State) (q : Option ℤ) → t.left ≡ statements.Write n a ∷ rest → Meets t τ → Keeps k s t → k ≤ n → atom_value t.locals a ≡ Some v → byte_of v ≡ q
    → Does u t τ (Wrote s k rest) (and_then (known (Undefined Byte p) q τ) (λ b. note (Output b)))
byte-does u p s k n a rest t v τ None left meets keeps le hv e = does-stuck u (Wrote s k rest) t τ Byte Byte p (write-step u t n a rest v None left hv e) meets
byte-does u p s k n a rest t v τ (Some b) left meets keeps le hv e =
    let next = byte_written t n rest b in
    let set = keeps-assigned k n t (pos 0) rest le in
    does-comes u (Wrote s k rest) t next τ (source_written τ b) tt
    (leads-step u t next τ (source_written τ b) (write-step u t n a rest v (Some b) left hv e) meets.low (omega arith) (omega arith) (omega arith))
    (record {
      meets = record { world = meets.world; events = ap (λ (es : List Event). es ++ Output b ∷ []) meets.events; low = meets.low };
      keeps = keeps-then k k s t next (omega arith) keeps (record { function = refl; callers = refl; size = set.size; same = set.same });
      left = refl;
    })

-- the statements of one write
abbrev one_write : Expr → ℕ → ℕ → List Statement
one_write e k l = (coded e).statements k l ++ (statements.Write (k + (coded e).size) ((coded e).atom k) ∷ [])

-- what all of the writes write is valid
abbrev pub AreValid : Named → List Write → Type 0
AreValid n ws = AllByRecursion (λ (w : Write). valid n w.value ≡ true) ws

write-low : (n : Named) (e : Expr) → valid n e ≡ true → (k l : ℕ) → LabelsBelow (l + (coded e).labels) (one_write e k l)
write-low n e v k l = all-append _ ((coded e).statements k l) _ ((correct n e v).low k l) (tt, tt)

pub writes-low : (n : Named) (es : List Write) → AreValid n es → (k l : ℕ) → LabelsBelow (l + writes_labels es) (writes_code es k l)
writes-low n [] vs k l = tt
writes-low n (w ∷ es) vs k l =
    let e = w.value in
    let m = l + ((coded e).labels + writes_labels es) in
    let same : l + (coded e).labels + writes_labels es ≡ m = omega arith in
    all-append _ (one_write e k l) _ (labels-more (l + (coded e).labels) m (one_write e k l) (omega arith) (write-low n e vs.0 k l))
    (subst (λ x. LabelsBelow x (writes_code es (k + ((coded e).size + 1)) (l + (coded e).labels))) same (writes-low n es vs.1 (k + ((coded e).size + 1)) (l + (coded e).labels)))

write-does : (n : Named) (p : Place) (e : Expr) → valid n e ≡ true → (u : CUnit) (fuel : ℕ) (ctx : Context) (pre : List Statement) (k l : ℕ) (rest : List Statement) (s : State) (σ : source.State) → At u n fuel ctx s σ
    → body_of u s.function ≡ pre ++ ((coded e).statements k l ++ (statements.Write (k + (coded e).size) ((coded e).atom k) ∷ rest)) → LabelsBelow l pre
    → s.left ≡ (coded e).statements k l ++ (statements.Write (k + (coded e).size) ((coded e).atom k) ∷ rest) → n.parameters ≤ k → k + (coded e).size ≤ length s.locals → Does u s σ (Wrote s k rest) (write_meaning (record { place = p; value = e }) ctx σ)
write-does n p e valid_is u fuel ctx pre k l rest s σ at whole before left room fits =
    let W : Statement = statements.Write (k + (coded e).size) ((coded e).atom k) in
    does-bind u (Valued s k ((coded e).atom k) (W ∷ rest)) (Wrote s k rest) s σ (eval e ctx σ) (λ x τ. and_then (known (Undefined Byte p) (byte_of x) τ) (λ b. note (Output b)))
    ((correct n e valid_is).runs u fuel ctx pre k l (W ∷ rest) s σ at whole before left room fits)
    (λ x τ t leads g. byte-does u p s k (k + (coded e).size) ((coded e).atom k) rest t x τ (byte_of x) g.left g.meets g.keeps (omega arith) g.value refl)

writes-do : (n : Named) (es : List Write) → AreValid n es → (u : CUnit) (fuel : ℕ) (ctx : Context) (pre : List Statement) (k l : ℕ) (rest : List Statement) (s : State) (σ : source.State) → At u n fuel ctx s σ
    → body_of u s.function ≡ pre ++ (writes_code es k l ++ rest) → LabelsBelow l pre → s.left ≡ writes_code es k l ++ rest → n.parameters ≤ k → k + writes_size es ≤ length s.locals → Does u s σ (Wrote s k rest) (write_all es ctx σ)
writes-do n [] vs u fuel ctx pre k l rest s σ at whole before left room fits = does-done u (Wrote s k rest) s σ tt (record { meets = at.meets; keeps = keeps-self k s; left = left })
writes-do n (w ∷ es) vs u fuel ctx pre k l rest s σ at whole before left room fits =
    let e = w.value in
    let k' = k + ((coded e).size + 1) in
    let l' = l + (coded e).labels in
    let first = one_write e k l in
    let mid = writes_code es k' l' ++ rest in
    let E = (coded e).statements k l in
    let W : Statement = statements.Write (k + (coded e).size) ((coded e).atom k) in
    let near : (first ++ writes_code es k' l') ++ rest ≡ E ++ (W ∷ mid) = append_assoc first (writes_code es k' l') rest ∙ append_assoc E (W ∷ []) mid in
    let far : body_of u s.function ≡ (pre ++ first) ++ mid = whole ∙ ap (λ y. pre ++ y) (append_assoc first (writes_code es k' l') rest) ∙ sym (append_assoc pre first mid) in
    let low = all-append _ pre first (labels-more l l' pre (omega arith) before) (write-low n e vs.0 k l) in
    does-bind u (Wrote s k mid) (Wrote s k rest) s σ (write_meaning w ctx σ) (λ d. write_all es ctx)
    (write-does n w.place e vs.0 u fuel ctx pre k l mid s σ at (whole ∙ ap (λ y. pre ++ y) near) before (left ∙ near) room (omega arith))
    (λ d τ t leads g.
    let size = g.keeps.size in
    let here = at-after u n fuel ctx s t σ τ k room at leads g.meets g.keeps in
    does-then u (Wrote t k' rest) (Wrote s k rest) t τ (write_all es ctx τ)
    (writes-do n es vs.1 u fuel ctx (pre ++ first) k' l' rest t τ here (ap (body_of u) g.keeps.function ∙ far) low g.left (omega arith) (omega arith))
    (λ d2 τ2 t2 leads2 g2. record { after = t2; leads = leads-none u t2 τ2; there = record { meets = g2.meets; keeps = keeps-then k k' s t t2 (omega arith) g.keeps g2.keeps; left = g2.left } }))

-- ---- a whole body

-- where the variables and labels of the value begin, and its statement
abbrev pub value_at : Procedure → ℕ
value_at q = q.parameters + writes_size q.writes

abbrev pub return_left : Procedure → List Statement
return_left q = statements.Return ((coded q.value).atom (value_at q)) ∷ []

-- in a frame of its own, the function of a procedure comes to its last statement with the value of the body
pub body-does : (n : Named) (q : Procedure) → n.parameters ≡ q.parameters → AreValid n q.writes → valid n q.value ≡ true → (u : CUnit) (fuel : ℕ) (ctx : Context) (s : State) (σ : source.State) → At u n fuel ctx s σ
    → body_of u s.function ≡ statements_of q → s.left ≡ statements_of q → q.parameters + (writes_size q.writes + (coded q.value).size) ≤ length s.locals → Does u s σ (Valued s q.parameters ((coded q.value).atom (value_at q)) (return_left q)) (body q ctx σ)
body-does n q same writes_valid value_valid u fuel ctx s σ at whole left fits =
    let k = value_at q in
    let l = writes_labels q.writes in
    let W = writes_code q.writes q.parameters 0 in
    let rest = (coded q.value).statements k l ++ return_left q in
    let T = Valued s q.parameters ((coded q.value).atom k) (return_left q) in
    let at-zero : 0 + l ≡ l = omega arith in
    let low = subst (λ m. LabelsBelow m W) at-zero (writes-low n q.writes writes_valid q.parameters 0) in
    does-bind u (Wrote s q.parameters rest) T s σ (write_all q.writes ctx σ) (λ d. eval q.value ctx)
    (writes-do n q.writes writes_valid u fuel ctx [] q.parameters 0 rest s σ at whole tt left (omega arith) (omega arith))
    (λ d τ t leads g.
    let size = g.keeps.size in
    let here = at-after u n fuel ctx s t σ τ q.parameters (omega arith) at leads g.meets g.keeps in
    does-then u (Valued t k ((coded q.value).atom k) (return_left q)) T t τ (eval q.value ctx τ)
    ((correct n q.value value_valid).runs u fuel ctx W k l (return_left q) t τ here (ap (body_of u) g.keeps.function ∙ whole) low g.left (omega arith) (omega arith))
    (λ v τ2 t2 leads2 g2. record { after = t2; leads = leads-none u t2 τ2; there = record { meets = g2.meets; keeps = keeps-then q.parameters k s t t2 (omega arith) g.keeps g2.keeps; left = g2.left; value = g2.value } }))
