-- What stands where in the kernel of a program.
-- For: `forms_do_nothing` and `kernels_do_the_same`
use Rattle.std.proofs.Common.{◌≡◌, ℕ, ℤ, zero, suc, ◌+◌, ◌<◌, ◌≤◌, ◌≢◌, ◌⊎◌, inl, inr, List, [], ◌∷◌, ◌++◌, length, Option, Some, None, refl, sym, ap, ◌∙◌, arith}
use Rattle.std.specs.Prelude.{Bool, true, false, if◌then◌else◌, nat_eq, slice_get, replicate, filter}
use Rattle.std.specs.Option.{option_map}
use Rattle.std.proofs.lemmas.Bool.{ne_eqb, eq-eqb}
use Rattle.std.proofs.lemmas.Bool.Decides.{eqb_tells}
use Rattle.ps_base.specs.declared.faults.Place.{Place}
use Rattle.ps_base.specs.declared.names.Name.{Name}
use Rattle.ps_kernel.specs.declared.expr.ExprKind.TheVariants as kinds
use Rattle.ps_kernel.specs.declared.expr.GroupEntry.{GroupEntry}
use Rattle.ps_kernel.specs.declared.kernel.Kernel.{Kernel}
use Rattle.ps_kernel.specs.declared.kernel.Lambda.{Lambda}
use Rattle.ps_kernel.specs.Lists.{stands_in}
use Rattle.ps_kernel.specs.Texts.{expr_at, lambda_node, lambda_in, defined_by, procedure_of, named, lambda_text}
use Rattle.ps_kernel.proofs.FoldsByNode.{fold-expr, fold-lambda}
use Rattle.ps_runs.specs.Runs.{Env}
use Rattle.ps_runs.specs.Locals.{found, push_all}
use Rattle.ps_runs.specs.Effects.{value_in, defined_in}
use Rattle.ps_meaning.specs.declared.values.RunValue.{RunValue}
use Rattle.ps_meaning.specs.declared.values.RunValue.TheVariants.{Procedure}
use Rattle.ps_meaning.specs.Eval.{fitting, lambda_of as lambda_with, group_pairs, entered}
use Rattle.ps_meaning.specs.Source.{run_global, run_globals}
use Rattle.ps_plain.specs.declared.program.Procedure.{Procedure as PlainProcedure}
use Rattle.ps_plain.specs.declared.program.Program.{Program as PlainProgram}
use Rattle.ps_plain.specs.Meaning.{taking}
use Rattle.ps_convert.specs.Kernels.{numbers_from, lambda_of, forms_from, kernel_of}
use Rattle.ps_convert.proofs.Steps.{int, ints}
use Rattle.ps_convert.proofs.LambdasStandAlone.{offset, lambda_at, no_group}

-- ---- the locals of a body that is entered

-- the parameters of a body, numbered from this local on, in front of others
abbrev pub arguments_in : ℕ → List ℤ → Env RunValue → Env RunValue
arguments_in first vs env = push_all (numbers_from first (length vs)) (ints vs) env

-- a local of a lower number is what it was
below : (first : ℕ) (vs : List ℤ) (env : Env RunValue) (x : ℕ) → x < first → found x (arguments_in first vs env) ≡ found x env
below first [] env x low = refl
below first (v ∷ vs) env x low =
    below (suc first) vs ((first, int v) ∷ env) x (omega arith) ∙ ap (λ b. if b then Some (int v) else found x env) (ne_eqb x first (λ e. omega arith))

above : (first : ℕ) (vs : List ℤ) (env : Env RunValue) (j : ℕ) → ((i : ℕ) → found (first + i) env ≡ None) → found (first + j) (arguments_in first vs env) ≡ option_map int (slice_get vs j)
above first [] env j none = none j
above first (v ∷ vs) env zero none =
    let same : first + 0 ≡ first = omega arith in
    below (suc first) vs ((first, int v) ∷ env) (first + 0) (omega arith) ∙ ap (λ b. if b then Some (int v) else found (first + 0) env) (eq-eqb (first + 0) first same)
above first (v ∷ vs) env (suc j) none =
    let moved : first + suc j ≡ suc first + j = omega arith in
    ap (λ x. found x (arguments_in (suc first) vs ((first, int v) ∷ env))) moved ∙ above (suc first) vs ((first, int v) ∷ env) j still
  where
    still : (i : ℕ) → found (suc first + i) ((first, int v) ∷ env) ≡ None
    still i =
        let moved : suc first + i ≡ first + suc i = omega arith in
        ap (λ b. if b then Some (int v) else found (suc first + i) env) (ne_eqb (suc first + i) first (λ e. omega arith)) ∙ ap (λ x. found x env) moved ∙ none (suc i)

-- each parameter has its argument
pub argument : (first : ℕ) (vs : List ℤ) (j : ℕ) → found (first + j) (arguments_in first vs []) ≡ option_map int (slice_get vs j)
argument first vs j = above first vs [] j (λ i. refl)

module _ (structure : Name) (p : PlainProgram) where
  abbrev k : Kernel
  k = kernel_of structure p

  -- there is no group, and the procedure keeps nothing
  pub entered_is : (l : ℕ) (m : Lambda) (vs : List RunValue) → entered k (record { lambda = l; kept = [] }) m vs ≡ push_all m.parameters vs []
  entered_is l m vs = ap (λ g. push_all m.parameters vs (group_pairs k (filter (λ (e : GroupEntry). stands_in e.local (named (lambda_text k l))) g) [] ++ [])) (no_group structure p l)

  -- ---- the lambdas

  length_numbers : (first n : ℕ) → length (numbers_from first n) ≡ n
  length_numbers first zero = refl
  length_numbers first (suc n) = ap suc (length_numbers (suc first) n)

  fits_alike : (first n : ℕ) (o : Option PlainProcedure) → fitting k n (option_map (lambda_of first) o) ≡ option_map (lambda_of first) (taking n o)
  fits_alike first n None = refl
  fits_alike first n (Some q) = ap (λ m. if nat_eq m n then Some (lambda_of first q) else None) (length_numbers first q.parameters) ∙ either (nat_eq q.parameters n)
    where
      either : (b : Bool) → (if b then Some (lambda_of first q) else None) ≡ option_map (lambda_of first) (if b then Some q else None)
      either true = refl
      either false = refl

  pub lambda_is : (n f : ℕ) → lambda_with k n f ≡ option_map (lambda_of (offset 0 p.procedures f)) (taking n (slice_get p.procedures f))
  lambda_is n f = ap (fitting k n) (lambda_at 0 p.procedures f) ∙ fits_alike (offset 0 p.procedures f) n (slice_get p.procedures f)

  -- ---- the definitions

  pub lambda_here : (at : Place) (l : ℕ) → lambda_in (expr_at at (kinds.Lambda l)) ≡ Some l
  lambda_here at l = fold-expr lambda_node (λ e. e.kind) (λ b. b.body) at (kinds.Lambda l) ∙ fold-lambda lambda_node (λ e. e.kind) (λ b. b.body) l

  defined_by_one : (g n : ℕ) (q : PlainProcedure) (qs : List PlainProcedure) → (g ≢ n → defined_by g (forms_from (suc n) qs) ≡ Some g)
      → ((nat_eq g n ≡ true) × (g ≡ n)) ⊎ ((nat_eq g n ≡ false) × (g ≢ n)) → (if nat_eq g n then lambda_in (expr_at q.place (kinds.Lambda n)) else defined_by g (forms_from (suc n) qs)) ≡ Some g
  defined_by_one g n q qs later (inl is) = ap (λ b. if b then lambda_in (expr_at q.place (kinds.Lambda n)) else defined_by g (forms_from (suc n) qs)) is.0 ∙ lambda_here q.place n ∙ ap Some (sym is.1)
  defined_by_one g n q qs later (inr is) = ap (λ b. if b then lambda_in (expr_at q.place (kinds.Lambda n)) else defined_by g (forms_from (suc n) qs)) is.0 ∙ later is.1

  defined_here : (g n : ℕ) (qs : List PlainProcedure) → n ≤ g → g < n + length qs → defined_by g (forms_from n qs) ≡ Some g
  defined_here g n [] low high = absurd (omega arith)
  defined_here g n (q ∷ qs) low high = defined_by_one g n q qs (λ other. defined_here g (suc n) qs (omega arith) (omega arith)) (eqb_tells g n)

  pub procedure_is : (g : ℕ) → g < length p.procedures → procedure_of k g ≡ Some g
  procedure_is g few = defined_here g 0 p.procedures (omega arith) (omega arith)

  globals_at : (n m g : ℕ) → g < m → value_in (slice_get (run_globals k n (replicate m None)) g) ≡ run_global (procedure_of k (n + g)) None
  globals_at n zero g few = absurd (omega arith)
  globals_at n (suc m) zero few = let same : n ≡ n + 0 = omega arith in ap (λ x. run_global (procedure_of k x) None) same
  globals_at n (suc m) (suc g) few = let moved : suc n + g ≡ n + suc g = omega arith in globals_at (suc n) m g (omega arith) ∙ ap (λ x. run_global (procedure_of k x) None) moved

  pub defined_is : (g : ℕ) → g < length p.procedures → defined_in g (run_globals k 0 (replicate (length p.procedures) None)) ≡ Some (Procedure g [])
  defined_is g few =
      let same : 0 + g ≡ g = omega arith in
      globals_at 0 (length p.procedures) g few ∙ ap (λ x. run_global (procedure_of k x) None) same ∙ ap (λ o. run_global o None) (procedure_is g few)
