-- The marks of an expression, a node each, and the walk that has stopped.
-- For: the functions of the walk and `is_right`
use Rattle.std.proofs.Common.{◌≡◌, ℕ, ℤ, zero, suc, ◌-◌, Bool, false, List, [], ◌∷◌, ◌++◌, length, refl, sym, ap, ◌∙◌, arith}
use Rattle.std.specs.Prelude.{◌==◌, if◌then◌else◌}
use Rattle.std.specs.List.{fold}
use Rattle.ps_base.specs.declared.language.PrimName.{PrimName}
use Rattle.ps_kernel.specs.declared.expr.CaseKind.{CaseKind}
use Rattle.ps_kernel.specs.declared.expr.Constant.{Constant}
use Rattle.ps_kernel.specs.declared.expr.Labelled.{Labelled}
use Rattle.ps_kernel.specs.declared.expr.GroupEntry.{GroupEntry}
use Rattle.ps_kernel.specs.declared.expr.Expr.{Expr, out-Expr}
use Rattle.ps_kernel.specs.declared.expr.ExprKind.TheVariants as v
use Rattle.ps_kernel.specs.declared.kernel.Kernel.{Kernel}
use Rattle.ps_kernel.specs.declared.validity.walk.Walk.{Walk}
use Rattle.ps_kernel.specs.Marks.{Node, TooDeep, Mentions, Sets, Reads, Assigns, Sequence, Replaces, Performs, Chooses, labels_of, body_of}
use Rattle.ps_kernel.specs.InsideSteps.{Step, Passes, Walking, nowhere, Part, Entire, Branch, SomeLabel, OneLabel, Leaf, branch_of, label_of, constant_steps, sequence_steps, part_steps, if_steps, let_steps, letrec_steps, case_steps, call_steps, lambda_steps, layer_steps, steps, kind_steps}
use Rattle.ps_kernel.specs.InsideWalks.{step, may, behind, stopped}

-- a walk that has stopped goes over no mark
pub stays : (k : Kernel) (s : Walk) (ms : List Step) → s.right ≡ false → fold (step k) s ms ≡ s
unfolding step
stays k s [] h = refl
stays k s (m ∷ ms) h = ap (λ (b : Bool). fold (step k) (if b then (if may k s m then behind k s m else stopped s) else s) ms) h ∙ stays k s ms h

over : (k : Kernel) (w : Walk) (a b : List Step) → fold (step k) w (a ++ b) ≡ fold (step k) (fold (step k) w a) b
over k w [] b = refl
over k w (m ∷ a) b = over k (step k w m) a b

-- a step, two runs of steps, and those behind them
pub over_three : (k : Kernel) (w x y z : Walk) (m : Step) (a b c : List Step) → x ≡ step k w m → y ≡ fold (step k) x a → z ≡ fold (step k) y b → fold (step k) z c ≡ fold (step k) w (m ∷ (a ++ (b ++ c)))
over_three k w x y z m a b c p q r =
    ap (λ (v : Walk). fold (step k) v c) (r ∙ ap (λ (v : Walk). fold (step k) v b) (q ∙ ap (λ (v : Walk). fold (step k) v a) p))
    ∙ sym (over k (step k w m) a (b ++ c) ∙ over k (fold (step k) (step k w m) a) b c)

pub over_two : (k : Kernel) (w x y : Walk) (m : Step) (a b : List Step) → x ≡ step k w m → y ≡ fold (step k) x a → fold (step k) y b ≡ fold (step k) w (m ∷ (a ++ b))
over_two k w x y m a b p q = ap (λ (v : Walk). fold (step k) v b) (q ∙ ap (λ (v : Walk). fold (step k) v a) p) ∙ sym (over k (step k w m) a b)

module _ (k : Kernel) where
  pub of_no_levels : (tail : Bool) (p : Part) → steps k 0 tail p ≡ Passes TooDeep ∷ []
  unfolding steps
  of_no_levels tail p = refl

  pub of_levels : (n : ℕ) (tail : Bool) (e : Expr) → steps k (suc n) tail (Entire e) ≡ Passes (Node nowhere) ∷ kind_steps k n tail (out-Expr e).kind
  unfolding steps kind_steps
  of_levels n tail e = refl

  pub of_some_levels : (n : ℕ) (tail : Bool) (e : Expr) → (n ≡ 0 → ⊥) → steps k n tail (Entire e) ≡ Passes (Node nowhere) ∷ kind_steps k (n - 1) tail (out-Expr e).kind
  of_some_levels zero tail e h = absurd (h refl)
  of_some_levels (suc m) tail e h = let less : suc m - 1 ≡ m = omega arith in of_levels m tail e ∙ ap (λ (n : ℕ). Passes (Node nowhere) ∷ kind_steps k n tail (out-Expr e).kind) (sym less)

  module _ (n : ℕ) (tail : Bool) where
    abbrev inner : Walking
    inner = steps k n

    pub of_constant : (c : Constant) → kind_steps k n tail (v.Constant c) ≡ constant_steps c
    unfolding kind_steps
    of_constant c = ap (layer_steps k inner tail) (v.outs-Constant c)

    pub of_local : (x : ℕ) → kind_steps k n tail (v.Local x) ≡ Passes (Mentions x []) ∷ []
    unfolding kind_steps
    of_local x = ap (layer_steps k inner tail) (v.outs-Local x)

    pub of_global : (x : ℕ) → kind_steps k n tail (v.Global x) ≡ Passes (Reads nowhere x) ∷ []
    unfolding kind_steps
    of_global x = ap (layer_steps k inner tail) (v.outs-Global x)

    pub of_lambda : (l : ℕ) → kind_steps k n tail (v.Lambda l) ≡ lambda_steps k inner l
    unfolding kind_steps
    of_lambda l = ap (layer_steps k inner tail) (v.outs-Lambda l)

    pub of_if : (a b c : Expr) → kind_steps k n tail (v.If a b c) ≡ if_steps inner tail a b c
    unfolding kind_steps
    of_if a b c = ap (layer_steps k inner tail) (v.outs-If a b c)

    pub of_let : (x : ℕ) (a b : Expr) → kind_steps k n tail (v.Let x a b) ≡ let_steps inner tail x a b
    unfolding kind_steps
    of_let x a b = ap (layer_steps k inner tail) (v.outs-Let x a b)

    pub of_letrec : (g : List GroupEntry) (b : Expr) → kind_steps k n tail (v.Letrec g b) ≡ letrec_steps k inner tail g b
    unfolding kind_steps
    of_letrec g b = ap (layer_steps k inner tail) (v.outs-Letrec g b)

    pub of_begin : (es : List Expr) → kind_steps k n tail (v.Begin es) ≡ Passes (Sequence (length es)) ∷ sequence_steps inner tail es
    unfolding kind_steps
    of_begin es = ap (layer_steps k inner tail) (v.outs-Begin es)

    pub of_set : (g : ℕ) (a : Expr) → kind_steps k n tail (v.SetGlobal g a) ≡ Passes (Assigns nowhere g) ∷ steps k n false (Entire a)
    unfolding kind_steps
    of_set g a = ap (layer_steps k inner tail) (v.outs-SetGlobal g a)

    pub of_call : (f : Expr) (es : List Expr) → kind_steps k n tail (v.Call f es) ≡ call_steps inner f es
    unfolding kind_steps
    of_call f es = ap (layer_steps k inner tail) (v.outs-Call f es)

    pub of_proper : (f : Expr) (es : List Expr) → kind_steps k n tail (v.ProperCall f es) ≡ Passes (Replaces tail) ∷ call_steps inner f es
    unfolding kind_steps
    of_proper f es = ap (layer_steps k inner tail) (v.outs-ProperCall f es)

    pub of_primitive : (p : PrimName) (es : List Expr) → kind_steps k n tail (v.Primitive p es) ≡ Passes (Performs nowhere p (length es)) ∷ part_steps inner es
    unfolding kind_steps
    of_primitive p es = ap (layer_steps k inner tail) (v.outs-Primitive p es)

    pub of_set_local : (x : ℕ) (a : Expr) → kind_steps k n tail (v.SetLocal x a) ≡ Passes (Sets x []) ∷ steps k n false (Entire a)
    unfolding kind_steps
    of_set_local x a = ap (layer_steps k inner tail) (v.outs-SetLocal x a)

    pub of_case : (q : CaseKind) (a : Expr) (bs : List Labelled) (e : Expr) → kind_steps k n tail (v.Case q a bs e) ≡ Passes (Chooses q bs) ∷ case_steps inner tail a bs e
    unfolding kind_steps
    of_case q a bs e = ap (layer_steps k inner tail) (v.outs-Case q a bs e)

  -- ---- what a case unfolds to

  pub of_choice : (n : ℕ) (tail : Bool) (b : Labelled) (bs : List Labelled) (e : Expr) → (n ≡ 0 → ⊥) → steps k n tail (Branch b bs e) ≡ Passes (Node nowhere) ∷ (steps k (n - 1) false (label_of (labels_of b)) ++ (steps k (n - 1) tail (Entire (body_of b)) ++ steps k (n - 1) tail (branch_of bs e)))
  unfolding steps
  of_choice zero tail b bs e h = absurd (h refl)
  of_choice (suc m) tail b bs e h = let less : suc m - 1 ≡ m = omega arith in ap (λ (n : ℕ). Passes (Node nowhere) ∷ (steps k n false (label_of (labels_of b)) ++ (steps k n tail (Entire (body_of b)) ++ steps k n tail (branch_of bs e)))) (sym less)

  pub of_labels : (n : ℕ) (tail : Bool) (ls : List ℤ) → (n ≡ 0 → ⊥) → steps k n tail (SomeLabel ls) ≡ Passes (Node nowhere) ∷ (steps k (n - 1) false OneLabel ++ (steps k (n - 1) tail Leaf ++ steps k (n - 1) tail (label_of ls)))
  unfolding steps
  of_labels zero tail ls h = absurd (h refl)
  of_labels (suc m) tail ls h = let less : suc m - 1 ≡ m = omega arith in ap (λ (n : ℕ). Passes (Node nowhere) ∷ (steps k n false OneLabel ++ (steps k n tail Leaf ++ steps k n tail (label_of ls)))) (sym less)

  pub of_label : (n : ℕ) (tail : Bool) → (n ≡ 0 → ⊥) → steps k n tail OneLabel ≡ Passes (Node nowhere) ∷ (steps k (n - 1) false Leaf ++ steps k (n - 1) false Leaf)
  unfolding steps
  of_label zero tail h = absurd (h refl)
  of_label (suc m) tail h = let less : suc m - 1 ≡ m = omega arith in ap (λ (n : ℕ). Passes (Node nowhere) ∷ (steps k n false Leaf ++ steps k n false Leaf)) (sym less)

  -- the first label, where there are more
  pub of_more : (n : ℕ) (tail : Bool) (l m : ℤ) (ls : List ℤ) → (n ≡ 0 → ⊥) → steps k n tail (label_of (l ∷ m ∷ ls)) ≡ Passes (Node nowhere) ∷ (steps k (n - 1) false OneLabel ++ (steps k (n - 1) tail Leaf ++ steps k (n - 1) tail (label_of (m ∷ ls))))
  of_more n tail l m ls h = of_labels n tail (m ∷ ls) h

  pub of_rest : (n : ℕ) (tail : Bool) (xs : List ℤ) (x : ℤ) (rest : List ℤ) → xs ≡ x ∷ rest → (length rest == 0) ≡ false → (n ≡ 0 → ⊥) → steps k n tail (label_of xs) ≡ Passes (Node nowhere) ∷ (steps k (n - 1) false OneLabel ++ (steps k (n - 1) tail Leaf ++ steps k (n - 1) tail (label_of rest)))
  of_rest n tail xs x [] is some h = absurd cc
  of_rest n tail xs x (m ∷ ls) is some h = ap (λ (z : List ℤ). steps k n tail (label_of z)) is ∙ of_more n tail x m ls h

  pub of_leaf : (n : ℕ) (tail : Bool) → (n ≡ 0 → ⊥) → steps k n tail Leaf ≡ Passes (Node nowhere) ∷ []
  unfolding steps
  of_leaf zero tail h = absurd (h refl)
  of_leaf (suc m) tail h = refl
