-- What the measure of the machine is of a text, and of cells with one more on top.
-- For: the clauses `lighter` of the turns
use Rattle.std.proofs.Common.{◌≡◌, ℕ, zero, suc, ◌+◌, ◌*◌, ◌≤◌, ◌<◌, List, [], ◌∷◌, ◌++◌, length, map, sum, Option, Some, None, refl, sym, ap, ◌∙◌, subst, arith}
use Rattle.std.specs.Prelude.{slice_get}
use Rattle.std.specs.List.{IsFirstAndRest}
use Rattle.std.proofs.lemmas.Grind.{common_steps}
use denote.Ref.{Bor}
use Rattle.ps_base.specs.declared.language.PrimName.{PrimName}
use Rattle.byte_store.specs.declared.pointer.Value.{Value}
use Rattle.ps_kernel.specs.declared.expr.CaseKind.{CaseKind}
use Rattle.ps_kernel.specs.declared.expr.Constant.{Constant}
use Rattle.ps_kernel.specs.declared.expr.GroupEntry.{GroupEntry}
use Rattle.ps_kernel.specs.declared.expr.Expr.{Expr}
use Rattle.ps_kernel.specs.declared.expr.ExprKind.{ExprKind, fold-ExprKind}
use Rattle.ps_kernel.specs.declared.expr.ExprKind.TheVariants as kind
use Rattle.ps_kernel.specs.declared.expr.Labelled.{Labelled, fold-Labelled}
use Rattle.ps_kernel.specs.declared.kernel.Lambda.{Lambda}
use Rattle.ps_kernel.proofs.FoldsByNode as trees
use Rattle.ps_slots.specs.declared.cell.Cell.{Cell}
use Rattle.ps_slots.specs.declared.cell.Cell.TheVariants.{Local}
use Rattle.ps_slots.specs.Scope.{Puts}
use Rattle.ps_static_eval.specs.declared.machine.Waiting.{Waiting}
use Rattle.ps_static_eval.specs.InsideMachine.{Cells}
use Rattle.ps_static_eval.specs.InsideWeight.{weight, weight_node, operands_weight, branches_weight, cell_weight, cells_weight, bodies_of}

sum_first_of : (x : ℕ) (xs : List ℕ) → sum (x ∷ xs) ≡ x + sum xs
sum_first_of x xs = grind (arith, common_steps)

-- ---- texts

branches : (bs : List Labelled) → sum (map (fold-Labelled ℕ ℕ ℕ weight_node (λ e. e.kind) (λ b. b.body)) bs) ≡ branches_weight bs
branches [] = refl
branches (b ∷ bs) =
    let i = branches bs in
    let h = trees.fold-branch weight_node (λ e. e.kind) (λ b. b.body) b in
    let s = sum_first_of (fold-Labelled ℕ ℕ ℕ weight_node (λ e. e.kind) (λ b. b.body) b) (map (fold-Labelled ℕ ℕ ℕ weight_node (λ e. e.kind) (λ b. b.body)) bs) in
    omega (arith, i, h, s)

module _ (e : Expr) where
  out : (x : ExprKind) (n : ℕ) → e.kind ≡ x → fold-ExprKind ℕ ℕ ℕ weight_node (λ e. e.kind) (λ b. b.body) x ≡ n → weight e ≡ n
  out x n is means = trees.fold-at weight_node (λ e. e.kind) (λ b. b.body) e ∙ ap (fold-ExprKind ℕ ℕ ℕ weight_node (λ e. e.kind) (λ b. b.body)) is ∙ means

  pub of_constant : (c : Constant) → e.kind ≡ kind.Constant c → weight e ≡ 2
  of_constant c is = out _ _ is (trees.fold-constant weight_node (λ e. e.kind) (λ b. b.body) c)

  pub of_local : (x : ℕ) → e.kind ≡ kind.Local x → weight e ≡ 2
  of_local x is = out _ _ is (trees.fold-local weight_node (λ e. e.kind) (λ b. b.body) x)

  pub of_global : (g : ℕ) → e.kind ≡ kind.Global g → weight e ≡ 2
  of_global g is = out _ _ is (trees.fold-global weight_node (λ e. e.kind) (λ b. b.body) g)

  pub of_lambda : (l : ℕ) → e.kind ≡ kind.Lambda l → weight e ≡ 2
  of_lambda l is = out _ _ is (trees.fold-lambda weight_node (λ e. e.kind) (λ b. b.body) l)

  pub of_if : (a b c : Expr) (w x y : Bor Expr) → e.kind ≡ kind.If a b c → w.now ≡ a → x.now ≡ b → y.now ≡ c → weight e ≡ 1 + weight w.now + weight x.now + weight y.now
  of_if a b c w x y is is_a is_b is_c =
      out _ _ is (trees.fold-if weight_node (λ e. e.kind) (λ b. b.body) a b c)
      ∙ ap (λ z. 1 + weight z + weight b + weight c) (sym is_a) ∙ ap (λ z. 1 + weight w.now + weight z + weight c) (sym is_b) ∙ ap (λ z. 1 + weight w.now + weight x.now + weight z) (sym is_c)

  pub of_let : (l : ℕ) (a b : Expr) (w x : Bor Expr) → e.kind ≡ kind.Let l a b → w.now ≡ a → x.now ≡ b → weight e ≡ 2 + weight w.now + weight x.now
  of_let l a b w x is is_a is_b =
      out _ _ is (trees.fold-let weight_node (λ e. e.kind) (λ b. b.body) l a b)
      ∙ ap (λ z. 2 + weight z + weight b) (sym is_a) ∙ ap (λ z. 2 + weight w.now + weight z) (sym is_b)

  pub of_letrec : (g : List GroupEntry) (b : Expr) (w : Bor Expr) → e.kind ≡ kind.Letrec g b → w.now ≡ b → weight e ≡ 1 + weight w.now
  of_letrec g b w is is_b = out _ _ is (trees.fold-letrec weight_node (λ e. e.kind) (λ b. b.body) g b) ∙ ap (λ z. 1 + weight z) (sym is_b)

  pub of_some_letrec : (g : List GroupEntry) (b : Expr) → e.kind ≡ kind.Letrec g b → 1 ≤ weight e
  of_some_letrec g b is = let i = out _ _ is (trees.fold-letrec weight_node (λ e. e.kind) (λ b. b.body) g b) in omega (arith, i)

  pub of_begin : (es xs : List Expr) → e.kind ≡ kind.Begin es → xs ≡ es → weight e ≡ 3 + sum (map weight xs)
  of_begin es xs is same = out _ _ is (trees.fold-begin weight_node (λ e. e.kind) (λ b. b.body) es) ∙ ap (λ z. 3 + sum (map weight z)) (sym same)

  pub of_set : (g : ℕ) (a : Expr) (w : Bor Expr) → e.kind ≡ kind.SetGlobal g a → w.now ≡ a → weight e ≡ 2 + weight w.now
  of_set g a w is is_a = out _ _ is (trees.fold-set weight_node (λ e. e.kind) (λ b. b.body) g a) ∙ ap (λ z. 2 + weight z) (sym is_a)

  pub of_some_set : (g : ℕ) (a : Expr) → e.kind ≡ kind.SetGlobal g a → 2 ≤ weight e
  of_some_set g a is = let i = out _ _ is (trees.fold-set weight_node (λ e. e.kind) (λ b. b.body) g a) in omega (arith, i)

  pub of_put : (x : ℕ) (a : Expr) (w : Bor Expr) → e.kind ≡ kind.SetLocal x a → w.now ≡ a → weight e ≡ 2 + weight w.now
  of_put x a w is is_a = out _ _ is (trees.fold-set-local weight_node (λ e. e.kind) (λ b. b.body) x a) ∙ ap (λ z. 2 + weight z) (sym is_a)

  pub of_case : (kd : CaseKind) (a : Expr) (bs : List Labelled) (l : Expr) (w x : Bor Expr) (cs : List Labelled) → e.kind ≡ kind.Case kd a bs l → w.now ≡ a → cs ≡ bs → x.now ≡ l
      → weight e ≡ 1 + weight w.now + branches_weight cs + weight x.now
  of_case kd a bs l w x cs is is_a is_bs is_l =
      out _ _ is (trees.fold-case weight_node (λ e. e.kind) (λ b. b.body) kd a bs l)
      ∙ ap (λ z. 1 + weight a + z + weight l) (branches bs)
      ∙ ap (λ z. 1 + weight z + branches_weight bs + weight l) (sym is_a) ∙ ap (λ z. 1 + weight w.now + branches_weight z + weight l) (sym is_bs) ∙ ap (λ z. 1 + weight w.now + branches_weight cs + weight z) (sym is_l)

  pub of_call : (a : Expr) (es xs : List Expr) → e.kind ≡ kind.Call a es → xs ≡ es → weight e ≡ 4 + operands_weight (map weight xs)
  of_call a es xs is same = out _ _ is (trees.fold-call weight_node (λ e. e.kind) (λ b. b.body) a es) ∙ ap (λ z. 4 + operands_weight (map weight z)) (sym same)

  pub of_proper : (a : Expr) (es xs : List Expr) → e.kind ≡ kind.ProperCall a es → xs ≡ es → weight e ≡ 4 + operands_weight (map weight xs)
  of_proper a es xs is same = out _ _ is (trees.fold-proper weight_node (λ e. e.kind) (λ b. b.body) a es) ∙ ap (λ z. 4 + operands_weight (map weight z)) (sym same)

  pub of_primitive : (p : PrimName) (es xs : List Expr) → e.kind ≡ kind.Primitive p es → xs ≡ es → weight e ≡ 4 + operands_weight (map weight xs)
  of_primitive p es xs is same = out _ _ is (trees.fold-primitive weight_node (λ e. e.kind) (λ b. b.body) p es) ∙ ap (λ z. 4 + operands_weight (map weight z)) (sym same)

-- ---- the first of expressions

pub sum_first : (es : List Expr) (e : Expr) (rest : List Expr) → IsFirstAndRest es e rest → sum (map weight es) ≡ weight e + sum (map weight rest)
sum_first es e rest is = ap (λ z. sum (map weight z)) is.0 ∙ sum_first_of (weight e) (map weight rest)

pub operands_first : (es : List Expr) (e : Expr) (rest : List Expr) → IsFirstAndRest es e rest → operands_weight (map weight es) ≡ 1 + weight e + operands_weight (map weight rest)
operands_first es e rest is = ap (λ z. operands_weight (map weight z)) is.0

-- ---- cells

cells_append : (cs ds : Cells) → cells_weight (cs ++ ds) ≡ cells_weight cs + cells_weight ds
cells_append [] ds = omega arith
cells_append (c ∷ cs) ds =
    let i = cells_append cs ds in
    let s = sum_first_of (cell_weight c) (map cell_weight (cs ++ ds)) in
    let t = sum_first_of (cell_weight c) (map cell_weight cs) in
    omega (arith, i, s, t)

pub cells_push : (old new : Cells) (c : Cell Waiting) → new ≡ old ++ c ∷ [] → cells_weight new ≡ cells_weight old + cell_weight c
cells_push old new c is =
    let a = ap cells_weight is ∙ cells_append old (c ∷ []) in
    let s = sum_first_of (cell_weight c) [] in
    omega (arith, a, s)

pub cells_put : (x : ℕ) (v : Value) (old new : Cells) → Puts x v old new → cells_weight new ≡ cells_weight old
cells_put x v old new h =
    let a = ap cells_weight h.is ∙ cells_append h.below (Local x v ∷ h.above) in
    let b = ap cells_weight h.was ∙ cells_append h.below (Local x h.before ∷ h.above) in
    let s = sum_first_of 1 (map cell_weight h.above) in
    omega (arith, a, b, s)

-- ---- entering

pub enter_lighter : (old new b w n k0 k1 k2 : ℕ) → new + 1 ≡ old → n + w ≤ b → k2 ≤ n + k1 → k1 ≤ 1 + k0 → new * (b + 1) + w + k2 < old * (b + 1) + 2 + k0
enter_lighter old new b w n k0 k1 k2 is le bound begun = subst (λ z. new * (b + 1) + w + k2 < z * (b + 1) + 2 + k0) is (grind arith)

abbrev IsGone : Option Lambda → Type 0
IsGone None = Unit {0}
IsGone (Some m) = ⊥

some_of : {A : Type 0} (a b : A) → Some a ≡ Some b → a ≡ b
some_of a b e = search e

pub body_weight : (ls : List Lambda) (i : ℕ) (m : Lambda) → slice_get ls i ≡ Some m → length m.parameters + weight m.body ≤ bodies_of ls
body_weight [] i m is = absurd (subst IsGone is tt)
body_weight (l ∷ ls) zero m is = let e = ap (λ (x : Lambda). length x.parameters + weight x.body) (some_of l m is) in omega (arith, e)
body_weight (l ∷ ls) (suc i) m is = omega (arith, body_weight ls i m is)
