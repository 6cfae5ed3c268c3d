-- What a form does, and the forms behind it.
-- For: `run_form` and `run_forms`
use Rattle.std.proofs.Common.{◌≡◌, ℕ, zero, suc, ◌+◌, ◌<◌, ◌≤◌, List, [], ◌∷◌, drop, length, get_or, Option, Some, None, refl, sym, ap, ◌∙◌, arith}
use Rattle.std.specs.Prelude.{slice_set}
use Rattle.byte_store.specs.declared.pointer.Value.{Value}
use Rattle.ps_kernel.specs.declared.expr.Expr.{Expr}
use Rattle.ps_kernel.specs.declared.kernel.Form.{Form}
use Rattle.ps_kernel.specs.declared.kernel.Form.TheVariants.{Define, Do}
use Rattle.ps_kernel.specs.declared.kernel.Kernel.{Kernel}
use Rattle.ps_kernel.specs.Texts.{lambda_in}
use Rattle.ps_runs.specs.Runs.{Goes, Stops, and_then, ◌>>=◌, pure}
use Rattle.ps_runs.specs.Effects.{get_globals, put_globals}
use Rattle.ps_meaning.specs.Source.{define, form, all_forms}
use Rattle.ps_static_eval.specs.declared.machine.Ending.TheVariants as ending
use Rattle.ps_static_eval.specs.declared.machine.Halt.{Halt}
use Rattle.ps_static_eval.specs.InsideMachine.{Left, at, halt_of, EndsSo, FormEnds, enters}

module _ (k : Kernel) (f : Form) where
  -- the form of a procedure definition
  pub nothing_done : (g l : ℕ) (e : Expr) (o : Option ℕ) (m : Left) → f ≡ Define g e → o ≡ lambda_in e → o ≡ Some l → FormEnds k f m None m
  nothing_done g l e o m is names some = λ n le. let enter = enters k n in ap (λ z. form k enter z (at m [])) is ∙ ap (λ z. define k enter g e z (at m [])) (sym names ∙ some)

  -- any other definition
  pub defined : (g : ℕ) (e : Expr) (o : Option ℕ) (v : Value) (m m' : Left) (gs : List (Option Value)) → f ≡ Define g e → o ≡ lambda_in e → o ≡ None → EndsSo k e m (ending.Gave v) m' → gs ≡ slice_set m'.globals g (Some v)
      → FormEnds k f m None (record m' { globals = gs })
  defined g e o v m m' gs is names none ends set = λ n le.
      let enter = enters k n in
      ap (λ z. form k enter z (at m [])) is
      ∙ ap (λ z. define k enter g e z (at m [])) (sym names ∙ none)
      ∙ ap (λ z. and_then z (λ v. get_globals >>= (λ globals. put_globals (slice_set globals g (Some v))))) (ends n le)
      ∙ ap (λ (z : List (Option Value)). Goes tt (at (record m' { globals = z }) [])) (sym set)

  pub define_halts : (g : ℕ) (e : Expr) (o : Option ℕ) (h : Halt) (m m' : Left) → f ≡ Define g e → o ≡ lambda_in e → o ≡ None → EndsSo k e m (ending.Halted h) m' → FormEnds k f m (Some h) m'
  define_halts g e o h m m' is names none ends = λ n le.
      let enter = enters k n in
      ap (λ z. form k enter z (at m [])) is
      ∙ ap (λ z. define k enter g e z (at m [])) (sym names ∙ none)
      ∙ ap (λ z. and_then z (λ v. get_globals >>= (λ globals. put_globals (slice_set globals g (Some v))))) (ends n le)

  pub done : (e : Expr) (v : Value) (m m' : Left) → f ≡ Do e → EndsSo k e m (ending.Gave v) m' → FormEnds k f m None m'
  done e v m m' is ends = λ n le.
      let enter = enters k n in
      ap (λ z. form k enter z (at m [])) is ∙ ap (λ z. and_then z (λ v. pure tt)) (ends n le)

  pub do_halts : (e : Expr) (h : Halt) (m m' : Left) → f ≡ Do e → EndsSo k e m (ending.Halted h) m' → FormEnds k f m (Some h) m'
  do_halts e h m m' is ends = λ n le.
      let enter = enters k n in
      ap (λ z. form k enter z (at m [])) is ∙ ap (λ z. and_then z (λ v. pure tt)) (ends n le)

-- ---- the forms behind

drop_here : (fs : List Form) (i : ℕ) (f : Form) → i < length fs → f ≡ get_or fs i f → drop i fs ≡ f ∷ drop (i + 1) fs
drop_here [] i f lt is = absurd (omega (arith, lt))
drop_here (x ∷ fs) zero f lt is = ap (λ z. z ∷ fs) (sym is)
drop_here (x ∷ fs) (suc i) f lt is = drop_here fs i f (omega (arith, lt)) is ∙ (let e : suc (i + 1) ≡ suc i + 1 = omega arith in ap (λ z. f ∷ drop z (x ∷ fs)) e)

pub forms_follow : (k : Kernel) (n : ℕ) (fs : List Form) (i : ℕ) (f : Form) (m m' : Left) → i < length fs → f ≡ get_or fs i f → m.calls ≤ n → FormEnds k f m None m'
    → all_forms k (enters k n) (drop i fs) (at m []) ≡ all_forms k (enters k n) (drop (i + 1) fs) (at m' [])
forms_follow k n fs i f m m' lt is le ends =
    ap (λ z. all_forms k (enters k n) z (at m [])) (drop_here fs i f lt is)
    ∙ ap (λ z. and_then z (λ u. all_forms k (enters k n) (drop (i + 1) fs))) (ends n le)

pub forms_halt : (k : Kernel) (n : ℕ) (fs : List Form) (i : ℕ) (f : Form) (h : Halt) (m m' : Left) → i < length fs → f ≡ get_or fs i f → m.calls ≤ n → FormEnds k f m (Some h) m'
    → all_forms k (enters k n) (drop i fs) (at m []) ≡ Stops (halt_of h) (at m' [])
forms_halt k n fs i f h m m' lt is le ends =
    ap (λ z. all_forms k (enters k n) z (at m [])) (drop_here fs i f lt is)
    ∙ ap (λ z. and_then z (λ u. all_forms k (enters k n) (drop (i + 1) fs))) (ends n le)

drop_all : (fs : List Form) (i : ℕ) → length fs ≤ i → drop i fs ≡ []
drop_all [] zero le = refl
drop_all [] (suc i) le = refl
drop_all (x ∷ fs) zero le = absurd (omega (arith, le))
drop_all (x ∷ fs) (suc i) le = drop_all fs i (omega (arith, le))

pub forms_over : (k : Kernel) (n : ℕ) (fs : List Form) (i : ℕ) (m : Left) → length fs ≤ i → all_forms k (enters k n) (drop i fs) (at m []) ≡ Goes tt (at m [])
forms_over k n fs i m le = ap (λ z. all_forms k (enters k n) z (at m [])) (drop_all fs i le)
