-- What is read of an expression, a line for each kind.
-- For: the functions of the reading
use Rattle.std.proofs.Common.{◌≡◌, ℕ, zero, suc, ◌-◌, List, [], ◌∷◌, refl, sym, ap, ◌∙◌, arith}
use Rattle.ps_base.specs.declared.faults.Place.{Place}
use Rattle.ps_base.specs.declared.language.PrimName.{PrimName}
use Rattle.ps_kernel.specs.declared.expr.CaseKind.{CaseKind}
use Rattle.ps_kernel.specs.declared.expr.Constant.{Constant}
use Rattle.ps_kernel.specs.declared.expr.Labelled.{Labelled}
use Rattle.ps_kernel.specs.declared.expr.GroupEntry.{GroupEntry}
use Rattle.ps_kernel.specs.declared.expr.Expr.{Expr, out-Expr}
use Rattle.ps_kernel.specs.declared.expr.ExprKind.TheVariants as v
use Rattle.ps_kernel.specs.declared.kernel.Lambda.{Lambda}
use Rattle.ps_kernel.specs.Marks.{body_of}
use Rattle.ps_captured.specs.InsideReading.{Sight, Mentioned, Assigned, Reading, Part, Entire, Branch, branch_of, put, read, read_call, read_case, read_if, read_kind, read_lambda, read_layer, read_let, read_letrec, read_parts}

module _ (ms : List Lambda) where
  pub of_none : (ss : List Sight) (p : Part) → read ms 0 ss p ≡ ss
  unfolding read
  of_none ss p = refl

  of_levels : (n : ℕ) (ss : List Sight) (e : Expr) → read ms (suc n) ss (Entire e) ≡ read_kind ms n ss (out-Expr e).place (out-Expr e).kind
  unfolding read read_kind
  of_levels n ss e = refl

  pub of_some : (n : ℕ) (ss : List Sight) (e : Expr) → (n ≡ 0 → ⊥) → read ms n ss (Entire e) ≡ read_kind ms (n - 1) ss (out-Expr e).place (out-Expr e).kind
  of_some zero ss e h = absurd (h refl)
  of_some (suc m) ss e h = let less : suc m - 1 ≡ m = omega arith in of_levels m ss e ∙ ap (λ (n : ℕ). read_kind ms n ss (out-Expr e).place (out-Expr e).kind) (sym less)

  pub of_branch : (n : ℕ) (ss : List Sight) (b : Labelled) (bs : List Labelled) (e : Expr) → (n ≡ 0 → ⊥) → read ms n ss (Branch b bs e) ≡ read ms (n - 1) (read ms (n - 1) ss (Entire (body_of b))) (branch_of bs e)
  unfolding read
  of_branch zero ss b bs e h = absurd (h refl)
  of_branch (suc m) ss b bs e h = let less : suc m - 1 ≡ m = omega arith in ap (λ (n : ℕ). read ms n (read ms n ss (Entire (body_of b))) (branch_of bs e)) (sym less)

  module _ (n : ℕ) (ss : List Sight) (at : Place) where
    abbrev inner : Reading
    inner = read ms n

    pub of_constant : (c : Constant) → read_kind ms n ss at (v.Constant c) ≡ ss
    unfolding read_kind
    of_constant c = ap (read_layer ms inner ss at) (v.outs-Constant c)

    pub of_local : (x : ℕ) → read_kind ms n ss at (v.Local x) ≡ put ss (Mentioned x)
    unfolding read_kind
    of_local x = ap (read_layer ms inner ss at) (v.outs-Local x)

    pub of_global : (x : ℕ) → read_kind ms n ss at (v.Global x) ≡ ss
    unfolding read_kind
    of_global x = ap (read_layer ms inner ss at) (v.outs-Global x)

    pub of_lambda : (l : ℕ) → read_kind ms n ss at (v.Lambda l) ≡ read_lambda ms inner ss [] l
    unfolding read_kind
    of_lambda l = ap (read_layer ms inner ss at) (v.outs-Lambda l)

    pub of_if : (a b c : Expr) → read_kind ms n ss at (v.If a b c) ≡ read_if inner ss a b c
    unfolding read_kind
    of_if a b c = ap (read_layer ms inner ss at) (v.outs-If a b c)

    pub of_let : (x : ℕ) (a b : Expr) → read_kind ms n ss at (v.Let x a b) ≡ read_let inner ss x a b
    unfolding read_kind
    of_let x a b = ap (read_layer ms inner ss at) (v.outs-Let x a b)

    pub of_letrec : (g : List GroupEntry) (b : Expr) → read_kind ms n ss at (v.Letrec g b) ≡ read_letrec ms inner ss g b
    unfolding read_kind
    of_letrec g b = ap (read_layer ms inner ss at) (v.outs-Letrec g b)

    pub of_begin : (es : List Expr) → read_kind ms n ss at (v.Begin es) ≡ read_parts inner ss es
    unfolding read_kind
    of_begin es = ap (read_layer ms inner ss at) (v.outs-Begin es)

    pub of_set : (g : ℕ) (a : Expr) → read_kind ms n ss at (v.SetGlobal g a) ≡ read ms n ss (Entire a)
    unfolding read_kind
    of_set g a = ap (read_layer ms inner ss at) (v.outs-SetGlobal g a)

    pub of_set_local : (x : ℕ) (a : Expr) → read_kind ms n ss at (v.SetLocal x a) ≡ read ms n (put ss (Assigned at x)) (Entire a)
    unfolding read_kind
    of_set_local x a = ap (read_layer ms inner ss at) (v.outs-SetLocal x a)

    pub of_case : (q : CaseKind) (a : Expr) (bs : List Labelled) (e : Expr) → read_kind ms n ss at (v.Case q a bs e) ≡ read_case inner ss a bs e
    unfolding read_kind
    of_case q a bs e = ap (read_layer ms inner ss at) (v.outs-Case q a bs e)

    pub of_call : (f : Expr) (es : List Expr) → read_kind ms n ss at (v.Call f es) ≡ read_call inner ss f es
    unfolding read_kind
    of_call f es = ap (read_layer ms inner ss at) (v.outs-Call f es)

    pub of_proper : (f : Expr) (es : List Expr) → read_kind ms n ss at (v.ProperCall f es) ≡ read_call inner ss f es
    unfolding read_kind
    of_proper f es = ap (read_layer ms inner ss at) (v.outs-ProperCall f es)

    pub of_primitive : (p : PrimName) (es : List Expr) → read_kind ms n ss at (v.Primitive p es) ≡ read_parts inner ss es
    unfolding read_kind
    of_primitive p es = ap (read_layer ms inner ss at) (v.outs-Primitive p es)

  -- the branches of a case
  pub no_branch : (n : ℕ) (ss : List Sight) (bs : List Labelled) (e : Expr) → n ≡ 0 → ss ≡ read ms n ss (branch_of bs e)
  no_branch n ss bs e none = sym (ap (λ (n : ℕ). read ms n ss (branch_of bs e)) none ∙ of_none ss (branch_of bs e))

  pub some_branch : (n : ℕ) (ss : List Sight) (bs : List Labelled) (b : Labelled) (rest : List Labelled) (e : Expr) → bs ≡ b ∷ rest → (n ≡ 0 → ⊥) → read ms n ss (branch_of bs e) ≡ read ms (n - 1) (read ms (n - 1) ss (Entire (body_of b))) (branch_of rest e)
  some_branch n ss bs b rest e is h = ap (λ (bs : List Labelled). read ms n ss (branch_of bs e)) is ∙ of_branch n ss b rest e h
