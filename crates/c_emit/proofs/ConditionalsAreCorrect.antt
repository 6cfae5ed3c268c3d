-- The code of a conditional does what the conditional does.
-- For: build
use Rattle.std.proofs.Common.{◌≡◌, ℕ, ℤ, pos, ◌+◌, ◌<◌, ◌≤◌, List, [], ◌∷◌, ◌++◌, length, Some, None, refl, sym, ap, ◌∙◌, subst, arith, get_or, append_assoc, Bool, true, false}
use Rattle.std.specs.Prelude.{if◌then◌else◌}
use Rattle.std.proofs.lemmas.List.{get_or-set_same}
use Rattle.ps_base.specs.declared.faults.Place.{Place}
use Rattle.ps_base.specs.Numbers.{fit}
use Rattle.byte_store.specs.Machine.{Goes as Moves}
use Rattle.ps_plain.specs.declared.program.Expr.TheOpen.{Expr-F}
use Rattle.ps_plain.specs.declared.program.Comparison.{Comparison}
use Rattle.ps_plain.specs.declared.program.Comparison.TheVariants as comparisons
use Rattle.ps_plain.specs.Run as source
use Rattle.ps_plain.specs.Run.{Step, and_then}
use Rattle.ps_plain.specs.Meaning.{Context, Meaning, holds, meaning_of}
use Rattle.ps_plain.specs.Valid.{Named}
use Rattle.c_ast.specs.declared.unit.Atom.TheVariants as atoms
use Rattle.c_ast.specs.declared.unit.Statement.{Statement}
use Rattle.c_ast.specs.declared.unit.Statement.TheVariants as statements
use Rattle.c_ast.specs.declared.unit.CUnit.{CUnit}
use Rattle.c_meaning.specs.Machine.{State, atom_value, with_value, result_of, after_label, jump, branch, body_of, step_at, machine}
use Rattle.ps_base.specs.declared.faults.Op.TheVariants.{Unset}
use Rattle.c_emit.specs.InsideCode.{Coded, comparison_of, operation_code, branch_code, if_code, coded_node}
use Rattle.c_emit.proofs.JumpsGoBehindLabels.{all-append, LabelBelow, LabelsBelow, labels-more, jumps-behind}
use Rattle.c_emit.proofs.MachineFollows.{Meets, Keeps, keeps-then, keeps-assigned, Leads, leads-silent, leads-then, Does, Comes, does-after, does-then}
use Rattle.c_emit.proofs.SimpleExpressionsAreCorrect.{Valued, At, at-after, Correct, operation-step, assigned, meets-assigned, move-step, two-operands}

if-step : (u : CUnit) (s : State) (n l : ℕ) (rest : List Statement) (v : ℤ) → s.left ≡ statements.IfGoto (atoms.Variable n) l ∷ rest → get_or s.locals n None ≡ Some v → (machine u).step s ≡ branch (body_of u s.function) s rest l v
if-step u s n l rest v left h = ap (step_at u s) left ∙ ap (λ q. with_value Unset q (λ i. branch (body_of u s.function) s rest l i)) h

-- the same state, at other statements
abbrev moved_to : State → List Statement → State
moved_to s left = record s { left = left }

meets-moved : (s : State) (σ : source.State) (left : List Statement) → Meets s σ → Meets (moved_to s left) σ
meets-moved s σ left h = record { world = h.world; events = h.events; low = h.low }

keeps-moved : (k : ℕ) (s t : State) (left : List Statement) → Keeps k s t → Keeps k s (moved_to t left)
keeps-moved k s t left h = record { function = h.function; callers = h.callers; size = h.size; same = h.same }

-- A branch: its value goes to the target, and then one step leads to the end of the conditional.
module _ (n : Named) (m : Meaning) (c : Coded) (h : Correct n m c) (u : CUnit) (fuel : ℕ) (ctx : Context) (pre : List Statement) (k target kk ll : ℕ) (tail rest : List Statement) (s0 s : State) (σ : source.State)
    (at : At u n fuel ctx s σ) (keeps : Keeps k s0 s)
    (whole : body_of u s.function ≡ pre ++ (c.statements kk ll ++ (statements.Move target (c.atom kk) ∷ tail))) (before : LabelsBelow ll pre)
    (left : s.left ≡ c.statements kk ll ++ (statements.Move target (c.atom kk) ∷ tail)) (room : n.parameters ≤ k) (le : k ≤ target) (lt : target < kk) (fits : kk + c.size ≤ length s.locals)
    (ends : (t : State) → t.function ≡ s.function → t.left ≡ tail → (machine u).step t ≡ Moves (moved_to t rest)) where
  -- the value is moved, and then the branch ends
  branch-ends : (v : ℤ) (τ : source.State) (t : State) → Leads u s σ t τ → Valued s kk (c.atom kk) (statements.Move target (c.atom kk) ∷ tail) v τ t → Comes u t τ (Valued s0 k (atoms.Variable target) rest) v τ
  branch-ends v τ t leads g =
      let moved = assigned t target v tail in
      let size = g.keeps.size in
      let lt2 : target < length t.locals = omega arith in
      let meets = meets-assigned t τ target v tail g.meets in
      let kept = keeps-then k k s0 t moved (omega arith) (keeps-then k kk s0 s t (omega arith) keeps g.keeps) (keeps-assigned k target t v tail le) in
      record {
        after = moved_to moved rest;
        leads = leads-then u t moved (moved_to moved rest) τ τ τ
            (leads-silent u t moved τ (move-step u t target (c.atom kk) tail v g.left g.value) g.meets.low)
            (leads-silent u moved (moved_to moved rest) τ (ends moved g.keeps.function refl) meets.low);
        there = record {
          meets = meets-moved moved τ rest meets;
          keeps = keeps-moved k s0 moved rest kept;
          left = refl;
          value = get_or-set_same t.locals target (Some v) None lt2;
        };
      }

  branch-does : Does u s σ (Valued s0 k (atoms.Variable target) rest) (m ctx σ)
  branch-does =
      does-then u (Valued s kk (c.atom kk) (statements.Move target (c.atom kk) ∷ tail)) (Valued s0 k (atoms.Variable target) rest) s σ (m ctx σ)
      (h.runs u fuel ctx pre kk ll (statements.Move target (c.atom kk) ∷ tail) s σ at whole before left (omega arith) fits) branch-ends

-- a comparison of the source is 1 in C where it holds, and else 0
comparison-result : (q : Comparison) (v w : ℤ) (b : Bool) → holds q v w ≡ b → fit (result_of (comparison_of q) v w) ≡ Some (if b then pos 1 else pos 0)
comparison-result comparisons.Less v w true e = ap (λ x. fit (if x then pos 1 else pos 0)) e
comparison-result comparisons.Less v w false e = ap (λ x. fit (if x then pos 1 else pos 0)) e
comparison-result comparisons.Equal v w true e = ap (λ x. fit (if x then pos 1 else pos 0)) e
comparison-result comparisons.Equal v w false e = ap (λ x. fit (if x then pos 1 else pos 0)) e

module _ (n : Named) (q : Comparison) (m1 m2 m3 m4 : Meaning) (a b c d : Coded) (h1 : Correct n m1 a) (h2 : Correct n m2 b) (h3 : Correct n m3 c) (h4 : Correct n m4 d) (u : CUnit) (fuel : ℕ) (ctx : Context) (pre : List Statement) (k l : ℕ) (rest : List Statement) (s : State) (σ : source.State)
    (at : At u n fuel ctx s σ) (whole : body_of u s.function ≡ pre ++ (if_code (comparison_of q) a b c d k l ++ rest)) (before : LabelsBelow l pre) (left : s.left ≡ if_code (comparison_of q) a b c d k l ++ rest)
    (room : n.parameters ≤ k) (fits : k + (a.size + b.size + 1 + d.size + c.size) ≤ length s.locals) where
  abbrev target : ℕ
  target = k + a.size + b.size

  abbrev inner : ℕ
  inner = l + a.labels + b.labels

  abbrev then_label : ℕ
  then_label = inner + d.labels

  abbrev end_label : ℕ
  end_label = then_label + 1 + c.labels

  abbrev A : List Statement
  A = a.statements k l

  abbrev B : List Statement
  B = b.statements (k + a.size) (l + a.labels)

  abbrev D : List Statement
  D = d.statements (target + 1) inner

  abbrev C : List Statement
  C = c.statements (target + 1 + d.size) (then_label + 1)

  abbrev compare : Statement
  compare = statements.Operation target (a.atom k) (comparison_of q) (b.atom (k + a.size))

  abbrev test : Statement
  test = statements.IfGoto (atoms.Variable target) then_label

  -- what stands behind the first branch, behind the first label, behind the second branch, and behind the test
  abbrev first_tail : List Statement
  first_tail = statements.Label end_label ∷ rest

  abbrev first_left : List Statement
  first_left = C ++ (statements.Move target (c.atom (target + 1 + d.size)) ∷ first_tail)

  abbrev second_tail : List Statement
  second_tail = statements.Goto end_label ∷ statements.Label then_label ∷ first_left

  abbrev second_left : List Statement
  second_left = D ++ (statements.Move target (d.atom (target + 1)) ∷ second_tail)

  abbrev all_left : List Statement
  all_left = A ++ (B ++ (compare ∷ test ∷ second_left))

  flat : if_code (comparison_of q) a b c d k l ++ rest ≡ all_left
  flat = simp append_assoc

  abbrev all : List Statement
  all = body_of u s.function

  spread : all ≡ pre ++ all_left
  spread = whole ∙ ap (λ y. pre ++ y) flat

  -- what stands before the second branch, and before the first label
  abbrev second_pre : List Statement
  second_pre = pre ++ (A ++ (B ++ (compare ∷ test ∷ [])))

  abbrev label_pre : List Statement
  label_pre = pre ++ (A ++ (B ++ (compare ∷ test ∷ (D ++ (statements.Move target (d.atom (target + 1)) ∷ statements.Goto end_label ∷ [])))))

  abbrev first_pre : List Statement
  first_pre = pre ++ (A ++ (B ++ (compare ∷ test ∷ (D ++ (statements.Move target (d.atom (target + 1)) ∷ statements.Goto end_label ∷ statements.Label then_label ∷ [])))))

  abbrev end_pre : List Statement
  end_pre = first_pre ++ (C ++ (statements.Move target (c.atom (target + 1 + d.size)) ∷ []))

  second_whole : all ≡ second_pre ++ second_left
  second_whole = spread ∙ sym (simp append_assoc)

  label_whole : all ≡ label_pre ++ statements.Label then_label ∷ first_left
  label_whole = spread ∙ sym (simp append_assoc)

  first_whole : all ≡ first_pre ++ first_left
  first_whole = spread ∙ sym (simp append_assoc)

  end_whole : all ≡ end_pre ++ statements.Label end_label ∷ rest
  end_whole = spread ∙ sym (simp append_assoc)

  -- the labels of each part are below those that follow
  low_tests : LabelsBelow inner (A ++ (B ++ (compare ∷ test ∷ [])))
  low_tests =
      all-append _ A _ (labels-more (l + a.labels) inner A (omega arith) (h1.low k l))
      (all-append _ B _ (h2.low (k + a.size) (l + a.labels)) (tt, (tt, tt)))

  second_low : LabelsBelow inner second_pre
  second_low = all-append _ pre _ (labels-more l inner pre (omega arith) before) low_tests

  low_before : LabelsBelow then_label label_pre
  low_before =
      let part : List Statement = D ++ (statements.Move target (d.atom (target + 1)) ∷ statements.Goto end_label ∷ []) in
      let whole_is : label_pre ≡ second_pre ++ part = sym (simp append_assoc) in
      subst (LabelsBelow then_label) (sym whole_is)
      (all-append _ second_pre part (labels-more inner then_label second_pre (omega arith) second_low)
      (all-append _ D _ (h4.low (target + 1) inner) (tt, (tt, tt))))

  first_low : LabelsBelow (then_label + 1) first_pre
  first_low =
      let whole_is : first_pre ≡ label_pre ++ statements.Label then_label ∷ [] = sym (simp append_assoc) in
      subst (LabelsBelow (then_label + 1)) (sym whole_is)
      (all-append _ label_pre _ (labels-more then_label (then_label + 1) label_pre (omega arith) low_before) (omega arith, tt))

  end_low : LabelsBelow end_label end_pre
  end_low =
      all-append _ first_pre _ (labels-more (then_label + 1) end_label first_pre (omega arith) first_low)
      (all-append _ C _ (h3.low (target + 1 + d.size) (then_label + 1)) (tt, tt))

  -- where the jumps go on
  to_first : after_label then_label all ≡ Some first_left
  to_first = ap (after_label then_label) label_whole ∙ jumps-behind then_label label_pre first_left low_before

  to_end : after_label end_label all ≡ Some rest
  to_end = ap (after_label end_label) end_whole ∙ jumps-behind end_label end_pre rest end_low

  abbrev T : ℤ → source.State → State → Type 0
  T = Valued s k (atoms.Variable target) rest

  -- from the test on
  module _ (v w : ℤ) (τ : source.State) (t : State) (here : At u n fuel ctx t τ) (keeps : Keeps k s t) (tleft : t.left ≡ compare ∷ test ∷ second_left)
      (hv : atom_value t.locals (a.atom k) ≡ Some v) (hw : atom_value t.locals (b.atom (k + a.size)) ≡ Some w) where
    abbrev compared : ℤ → State
    compared z = assigned t target z (test ∷ second_left)

    lt : target < length t.locals
    lt = let size = keeps.size in omega arith

    -- the test has the value z, and the next step leads to some statements
    module _ (z : ℤ) (to : List Statement) (is : fit (result_of (comparison_of q) v w) ≡ Some z) (goes : (machine u).step (compared z) ≡ Moves (moved_to (compared z) to)) where
      tested : Leads u t τ (moved_to (compared z) to) τ
      tested =
          leads-then u t (compared z) (moved_to (compared z) to) τ τ τ
          (leads-silent u t (compared z) τ (operation-step u t target (a.atom k) (comparison_of q) (b.atom (k + a.size)) (test ∷ second_left) v w (Some z) tleft hv hw is) here.meets.low)
          (leads-silent u (compared z) (moved_to (compared z) to) τ goes here.meets.low)

      kept : Keeps k t (moved_to (compared z) to)
      kept = keeps-moved k t (compared z) to (keeps-assigned k target t z (test ∷ second_left) (omega arith))

      at-branch : At u n fuel ctx (moved_to (compared z) to) τ
      at-branch = at-after u n fuel ctx t (moved_to (compared z) to) τ τ k room here tested (meets-moved (compared z) τ to (meets-assigned t τ target z (test ∷ second_left) here.meets)) kept

    set-at : (z : ℤ) → get_or (compared z).locals target None ≡ Some z
    set-at z = get_or-set_same t.locals target (Some z) None lt

    same-body : body_of u t.function ≡ all
    same-body = ap (body_of u) keeps.function

    by-test : (x : Bool) → holds q v w ≡ x → Does u t τ T (if x then m3 ctx τ else m4 ctx τ)
    by-test true e =
        let is = comparison-result q v w true e in
        let goes : (machine u).step (compared (pos 1)) ≡ Moves (moved_to (compared (pos 1)) first_left) =
        if-step u (compared (pos 1)) target then_label second_left (pos 1) refl (set-at (pos 1)) ∙ ap (λ ss. jump (compared (pos 1)) (after_label then_label ss)) same-body ∙ ap (jump (compared (pos 1))) to_first in
        let go = moved_to (compared (pos 1)) first_left in
        let size = (kept (pos 1) first_left is goes).size in
        let size2 = keeps.size in
        does-after u T t go τ τ (m3 ctx τ) (tested (pos 1) first_left is goes)
        (branch-does n m3 c h3 u fuel ctx first_pre k target (target + 1 + d.size) (then_label + 1) first_tail rest s go τ (at-branch (pos 1) first_left is goes)
        (keeps-then k k s t go (omega arith) keeps (kept (pos 1) first_left is goes)) (same-body ∙ first_whole) first_low refl room (omega arith) (omega arith) (omega arith)
        (λ p pf pl. ap (step_at u p) pl))
    by-test false e =
        let is = comparison-result q v w false e in
        let goes : (machine u).step (compared (pos 0)) ≡ Moves (moved_to (compared (pos 0)) second_left) = if-step u (compared (pos 0)) target then_label second_left (pos 0) refl (set-at (pos 0)) in
        let go = moved_to (compared (pos 0)) second_left in
        let size = (kept (pos 0) second_left is goes).size in
        let size2 = keeps.size in
        does-after u T t go τ τ (m4 ctx τ) (tested (pos 0) second_left is goes)
        (branch-does n m4 d h4 u fuel ctx second_pre k target (target + 1) inner second_tail rest s go τ (at-branch (pos 0) second_left is goes)
        (keeps-then k k s t go (omega arith) keeps (kept (pos 0) second_left is goes)) (same-body ∙ second_whole) second_low refl room (omega arith) (omega arith) (omega arith)
        (λ p pf pl. ap (step_at u p) pl ∙ ap (λ ss. jump p (after_label end_label ss)) (ap (body_of u) pf ∙ same-body) ∙ ap (jump p) to_end))

  if-does : Does u s σ T (and_then (m1 ctx σ) (λ v τ. and_then (m2 ctx τ) (λ w. if holds q v w then m3 ctx else m4 ctx)))
  if-does =
      two-operands n m1 m2 a b h1 h2 u fuel ctx pre k l (compare ∷ test ∷ second_left) s σ at spread before (left ∙ flat) room (omega arith) T (λ v w. if holds q v w then m3 ctx else m4 ctx)
      (λ v w τ t here keeps tleft hv hw. choose v w τ t here keeps tleft hv hw (holds q v w) refl)
    where
      choose : (v w : ℤ) (τ : source.State) (t : State) → At u n fuel ctx t τ → Keeps k s t → t.left ≡ compare ∷ test ∷ second_left → atom_value t.locals (a.atom k) ≡ Some v → atom_value t.locals (b.atom (k + a.size)) ≡ Some w → (x : Bool) → holds q v w ≡ x
          → Does u t τ T ((if x then m3 ctx else m4 ctx) τ)
      choose v w τ t here keeps tleft hv hw true e = by-test v w τ t here keeps tleft hv hw true e
      choose v w τ t here keeps tleft hv hw false e = by-test v w τ t here keeps tleft hv hw false e

pub correct-if : (n : Named) (p at : Place) (q : Comparison) (m1 m2 m3 m4 : Meaning) (a b c d : Coded) → Correct n m1 a → Correct n m2 b → Correct n m3 c → Correct n m4 d → Correct n (meaning_of (Expr-F.If p at q m1 m2 m3 m4)) (coded_node (Expr-F.If p at q a b c d))
correct-if n p at q m1 m2 m3 m4 a b c d h1 h2 h3 h4 = record {
  runs = λ u fuel ctx pre k l rest s σ here whole before left room fits. if-does n q m1 m2 m3 m4 a b c d h1 h2 h3 h4 u fuel ctx pre k l rest s σ here whole before left room fits;
  below = λ k room. omega arith;
  low = λ k l.
      let m = l + (a.labels + b.labels + d.labels + 1 + c.labels + 1) in
      let inner = l + a.labels + b.labels in
      let behind = inner + d.labels + 1 in
      let target = k + a.size + b.size in
      let A = a.statements k l in
      let B = b.statements (k + a.size) (l + a.labels) in
      let D = d.statements (target + 1) inner in
      let C = c.statements (target + 1 + d.size) behind in
      let first = labels-more (l + a.labels) m A (omega arith) (h1.low k l) in
      let second = labels-more inner m B (omega arith) (h2.low (k + a.size) (l + a.labels)) in
      let third = labels-more (inner + d.labels) m D (omega arith) (h4.low (target + 1) inner) in
      let fourth = labels-more (behind + c.labels) m C (omega arith) (h3.low (target + 1 + d.size) behind) in
      all-append (LabelBelow m) (operation_code (comparison_of q) a b k l) _
      (all-append (LabelBelow m) A _ first (all-append (LabelBelow m) B _ second (tt, tt))) (
        tt,
        all-append (LabelBelow m) (branch_code d target (target + 1) inner) _ (all-append (LabelBelow m) D _ third (tt, tt))
            (tt, (omega arith, all-append (LabelBelow m) (branch_code c target (target + 1 + d.size) behind) _ (all-append (LabelBelow m) C _ fourth (tt, tt)) (omega arith, tt))),
      );
}
