-- What an expression binds, by its kind.
-- For: the walk that meets locals
use Rattle.std.proofs.Common.{◌≡◌, ℕ, zero, suc, ◌-◌, List, [], ◌∷◌, ◌++◌, refl, sym, ap, ◌∙◌, arith}
use Rattle.std.specs.Prelude.{slice_get}
use Rattle.std.specs.List.{fold}
use Rattle.ps_base.specs.declared.language.PrimName.{PrimName}
use Rattle.ps_kernel.specs.declared.expr.CaseKind.{CaseKind}
use Rattle.ps_kernel.specs.declared.expr.Constant.{Constant}
use Rattle.ps_kernel.specs.declared.expr.GroupEntry.{GroupEntry}
use Rattle.ps_kernel.specs.declared.expr.Labelled.{Labelled}
use Rattle.ps_kernel.specs.declared.expr.Expr.{Expr, out-Expr}
use Rattle.ps_kernel.specs.declared.expr.ExprKind.TheVariants as v
use Rattle.ps_kernel.specs.declared.kernel.Kernel.{Kernel}
use Rattle.ps_show.specs.Bindings.{Reading, met, binds, kind_binds, lambda_binds, group_binds, branches_bind, all_bind}
use Rattle.ps_show.specs.InsideForms.{kind_bound}

pub met_over : (seen a b : List ℕ) → fold met seen (a ++ b) ≡ fold met (fold met seen a) b
met_over seen [] b = refl
met_over seen (x ∷ a) b = met_over (met seen x) a b

module _ (k : Kernel) where
  pub of_no_levels : (n : ℕ) (e : Expr) → n ≡ 0 → binds k n e ≡ []
  unfolding binds
  of_no_levels zero e h = refl
  of_no_levels (suc n) e h = absurd (omega arith)

  pub of_levels : (n : ℕ) (e : Expr) → (n ≡ 0 → ⊥) → binds k n e ≡ kind_bound k (n - 1) (out-Expr e).kind
  unfolding binds kind_bound
  of_levels zero e h = absurd (h refl)
  of_levels (suc n) e h = let less : suc n - 1 ≡ n = omega arith in ap (λ (m : ℕ). kind_bound k m (out-Expr e).kind) (sym less)

  module _ (n : ℕ) where
    abbrev inner : Reading
    inner = binds k n

    pub of_constant : (c : Constant) → kind_bound k n (v.Constant c) ≡ []
    unfolding kind_bound
    of_constant c = ap (kind_binds k inner) (v.outs-Constant c)

    pub of_local : (x : ℕ) → kind_bound k n (v.Local x) ≡ []
    unfolding kind_bound
    of_local x = ap (kind_binds k inner) (v.outs-Local x)

    pub of_global : (x : ℕ) → kind_bound k n (v.Global x) ≡ []
    unfolding kind_bound
    of_global x = ap (kind_binds k inner) (v.outs-Global x)

    pub of_lambda : (l : ℕ) → kind_bound k n (v.Lambda l) ≡ lambda_binds inner (slice_get k.lambdas l)
    unfolding kind_bound
    of_lambda l = ap (kind_binds k inner) (v.outs-Lambda l)

    pub of_if : (a b c : Expr) → kind_bound k n (v.If a b c) ≡ inner a ++ (inner b ++ inner c)
    unfolding kind_bound
    of_if a b c = ap (kind_binds k inner) (v.outs-If a b c)

    pub of_let : (x : ℕ) (a b : Expr) → kind_bound k n (v.Let x a b) ≡ x ∷ (inner a ++ inner b)
    unfolding kind_bound
    of_let x a b = ap (kind_binds k inner) (v.outs-Let x a b)

    pub of_letrec : (g : List GroupEntry) (b : Expr) → kind_bound k n (v.Letrec g b) ≡ group_binds k inner g ++ inner b
    unfolding kind_bound
    of_letrec g b = ap (kind_binds k inner) (v.outs-Letrec g b)

    pub of_begin : (es : List Expr) → kind_bound k n (v.Begin es) ≡ all_bind inner es
    unfolding kind_bound
    of_begin es = ap (kind_binds k inner) (v.outs-Begin es)

    pub of_set : (g : ℕ) (a : Expr) → kind_bound k n (v.SetGlobal g a) ≡ inner a
    unfolding kind_bound
    of_set g a = ap (kind_binds k inner) (v.outs-SetGlobal g a)

    pub of_set_local : (x : ℕ) (a : Expr) → kind_bound k n (v.SetLocal x a) ≡ inner a
    unfolding kind_bound
    of_set_local x a = ap (kind_binds k inner) (v.outs-SetLocal x a)

    pub of_case : (kind : CaseKind) (a : Expr) (bs : List Labelled) (e : Expr) → kind_bound k n (v.Case kind a bs e) ≡ inner a ++ (branches_bind inner bs ++ inner e)
    unfolding kind_bound
    of_case kind a bs e = ap (kind_binds k inner) (v.outs-Case kind a bs e)

    pub of_call : (f : Expr) (es : List Expr) → kind_bound k n (v.Call f es) ≡ inner f ++ all_bind inner es
    unfolding kind_bound
    of_call f es = ap (kind_binds k inner) (v.outs-Call f es)

    pub of_proper : (f : Expr) (es : List Expr) → kind_bound k n (v.ProperCall f es) ≡ inner f ++ all_bind inner es
    unfolding kind_bound
    of_proper f es = ap (kind_binds k inner) (v.outs-ProperCall f es)

    pub of_primitive : (p : PrimName) (es : List Expr) → kind_bound k n (v.Primitive p es) ≡ all_bind inner es
    unfolding kind_bound
    of_primitive p es = ap (kind_binds k inner) (v.outs-Primitive p es)

-- one part, and then another
pub met_two : (s t u a b : List ℕ) → t ≡ fold met s a → u ≡ fold met t b → u ≡ fold met s (a ++ b)
met_two s t u a b p q = q ∙ ap (λ (x : List ℕ). fold met x b) p ∙ sym (met_over s a b)

pub met_three : (s t u w a b c : List ℕ) → t ≡ fold met s a → u ≡ fold met t b → w ≡ fold met u c → w ≡ fold met s (a ++ (b ++ c))
met_three s t u w a b c p q r = met_two s t w a (b ++ c) p (met_two t u w b c q r)

-- a local, and then two parts
pub met_let : (s r t u : List ℕ) (x : ℕ) (a b : List ℕ) → r ≡ met s x → t ≡ fold met r a → u ≡ fold met t b → u ≡ fold met s (x ∷ (a ++ b))
met_let s r t u x a b o p q = met_two r t u a b p q ∙ ap (λ (y : List ℕ). fold met y (a ++ b)) o
