-- What a call does that is made whatever the depth: it enters its procedure, and what a run with depths does.
-- For: `take_waiting` and `evaluate`
use Rattle.std.proofs.Common.{◌≡◌, ℕ, zero, suc, ◌≤◌, List, [], length, Option, Some, None, refl, ap, ◌∙◌, arith}
use Rattle.std.specs.Prelude.{Bool, true, false, nat_le, ◌-◌, if◌then◌else◌}
use Rattle.ps_base.specs.declared.faults.Place.{Place}
use Rattle.byte_store.specs.Outcome.{Running, StoppedAtCells}
use Rattle.byte_store.specs.declared.pointer.Value.{Value}
use Rattle.ps_kernel.specs.declared.kernel.Form.{Form}
use Rattle.ps_kernel.specs.declared.kernel.Kernel.{Kernel}
use Rattle.ps_prims.specs.Rows.{Scene, Performed, Answers}
use Rattle.ps_prims.specs.Rows as rows
use Rattle.ps_runs.specs.Runs.{State, Ends, Step, Goes, Stops, Run, and_then, ◌>>=◌, stop}
use Rattle.ps_runs.specs.Locals.{push_all}
use Rattle.ps_runs.specs.Effects.{take_one, take_call, at_depth, pay, take_cells, get_scene, came, performing}
use Rattle.ps_runs.proofs.WordsKeep.{Keeps, KeepsLocals, wrongs, within_related}
use Rattle.ps_runs.proofs.FewCallsAreSame.{Same, then_same, looser, take_call_same, at_depth_same, same_keeps, same_keeps_locals}
use Rattle.ps_meaning.specs.Eval.{CompileEnter, compile, compile_entering, compile_enters, lambda_of}
use Rattle.ps_meaning.specs.Source.{all_forms}
use Rattle.ps_meaning.proofs.CompileTimeKeeps as at_compile
use Rattle.ps_static_eval.specs.InsideMachine.{Calling, anywhere, entering, enters, enters_within}
use Rattle.ps_static_eval.proofs.ExpressionsForgetDepths as forgetting

-- ---- a call enters its procedure

abbrev SameWithin : ℕ → Calling → Calling → Type 0
SameWithin n f g = at_compile.Enters (Same n n) (anywhere f) (anywhere g)

entering_same : (k : Kernel) (n : ℕ) (f g : Calling) → SameWithin n f g → SameWithin (suc n) (entering k f) (entering k g)
entering_same k n f g enter = record {
  by = λ d at l vs.
      then_same (suc n) (suc n) (suc n) (wrongs (Same (suc n) (suc n)) (same_keeps (suc n)) at (lambda_of k (length vs) l)) (λ m. looser (suc n) n (suc n) (omega arith)
      (then_same (suc n) n n (take_call_same n) (λ u. then_same n n n (at_depth_same n 0) (λ t. within_related (Same n n) (same_keeps_locals n) (push_all m.parameters vs []) (compile k (anywhere f) m.body 0) (compile k (anywhere g) m.body 0) ((at_compile.compile_related (Same n n) (same_keeps_locals n) k (anywhere f) (anywhere g) enter m.body).by 0)))));
}

abbrev none : Calling
none = λ at l vs. stop (Ends Running)

-- no state has fewer than none left
same_at_none : (f g : Calling) → SameWithin 0 f g
same_at_none f g = record { by = λ d at l vs. record { is = λ s few. absurd (omega arith); leaves = λ s few. absurd (omega arith) } }

same_within : (k : Kernel) (n : ℕ) → SameWithin (suc n) (enters_within k n) (enters_within k (suc n))
same_within k zero = entering_same k 0 none (enters_within k zero) (same_at_none none (enters_within k zero))
same_within k (suc n) = entering_same k (suc n) (enters_within k n) (enters_within k (suc n)) (same_within k n)

pub unrolled : (k : Kernel) (n : ℕ) (at : Place) (l : ℕ) (vs : List Value) (s : State Value) → s.calls ≤ n → enters_within k n at l vs s ≡ entering k (enters_within k n) at l vs s
unrolled k n at l vs s few = ((same_within k n).by 0 at l vs).is s (omega arith)

-- ---- the same but for the depth

abbrev pub forget : State Value → State Value
forget s = record s { deepest = 0 }

abbrev pub forgets : {A : Type 0} → Step Value A → Step Value A
forgets (Goes a s) = Goes a (forget s)
forgets (Stops h s) = Stops h (forget s)

pub record Unseen (A : Type 0) (p q : Run Value A) : Type 0 where
  pub same : (s : State Value) → q (forget s) ≡ forgets (p s)

then_forgets : {A B : Type 0} (f g : A → Run Value B) (r : Step Value A) → ((a : A) → Unseen B (f a) (g a)) → and_then (forgets r) g ≡ forgets (and_then r f)
then_forgets f g (Goes a s) h = (h a).same s
then_forgets f g (Stops e s) h = refl

then_unseen : {A B : Type 0} {p q : Run Value A} {f g : A → Run Value B} → Unseen A p q → ((a : A) → Unseen B (f a) (g a)) → Unseen B (p >>= f) (q >>= g)
then_unseen {p = p} {q = q} {f = f} {g = g} l h = record { same = λ s. ap (λ r. and_then r g) (l.same s) ∙ then_forgets f g (p s) h }

one_call : (n : ℕ) (s : State Value) → take_one n (forget s) ≡ forgets (take_one n s)
one_call zero s = refl
one_call (suc n) s = refl

call_unseen : Unseen (Unit {0}) take_call take_call
call_unseen = record { same = λ s. one_call s.calls s }

depth_unseen : (d : ℕ) → Unseen (Unit {0}) (at_depth d) (at_depth 0)
depth_unseen d = record { same = λ s. refl }

paid_unseen : (b : Bool) (left : ℕ) (s : State Value)
    → (if b then (λ s. Goes tt (record s { cells = Some left })) else stop {A = Unit {0}} (Ends StoppedAtCells)) (forget s)
    ≡ forgets ((if b then (λ s. Goes tt (record s { cells = Some left })) else stop {A = Unit {0}} (Ends StoppedAtCells)) s)
paid_unseen true left s = refl
paid_unseen false left s = refl

pay_unseen : (n : ℕ) (o : Option ℕ) (s : State Value) → pay n o (forget s) ≡ forgets (pay n o s)
pay_unseen n None s = refl
pay_unseen n (Some left) s = paid_unseen (nat_le n left) (left - n) s

came_unseen : (at : Place) (r : Performed Value) → Unseen Value (came at r) (came at r)
came_unseen at (Answers d) = record { same = λ s. refl }
came_unseen at (rows.Undefined op) = record { same = λ s. refl }
came_unseen at rows.Wrong = record { same = λ s. refl }

performs_unseen : (at : Place) (asks : Scene Value → ℕ) (act : Scene Value → Performed Value) → Unseen Value (performing at asks act) (performing at asks act)
performs_unseen at asks act =
    then_unseen {p = get_scene} {q = get_scene} (record { same = λ s. refl }) (λ scene. then_unseen {p = take_cells (asks scene)} {q = take_cells (asks scene)} (record { same = λ s. pay_unseen (asks scene) s.cells s }) (λ u. came_unseen at (act scene)))

unseen_keeps : Keeps Value Unseen
unseen_keeps = record {
  pures = λ a. record { same = λ s. refl };
  stops = λ h. record { same = λ s. refl };
  globals = record { same = λ s. refl };
  puts_globals = λ globals. record { same = λ s. refl };
  performs = performs_unseen;
  thens = λ l h. then_unseen l h;
}

unseen_keeps_locals : KeepsLocals Value Unseen
unseen_keeps_locals = record { words = unseen_keeps; locals = record { same = λ s. refl }; puts_locals = λ env. record { same = λ s. refl } }

enters_unseen : (k : Kernel) (f : CompileEnter) (g : Calling) → forgetting.Enters Unseen f g → forgetting.Enters Unseen (compile_entering k f) (entering k g)
enters_unseen k f g enter = record { by = λ d at l vs. forgetting.entering_related Unseen unseen_keeps_locals k f g enter d at l vs call_unseen (depth_unseen d) }

within_unseen : (k : Kernel) (n : ℕ) → forgetting.Enters Unseen (compile_enters k n) (enters_within k n)
within_unseen k zero = enters_unseen k (λ d at l vs. stop (Ends Running)) none (record { by = λ d at l vs. record { same = λ s. refl } })
within_unseen k (suc n) = enters_unseen k (compile_enters k n) (enters_within k n) (within_unseen k n)

-- the forms come to the same
pub forms_unseen : (k : Kernel) (n : ℕ) (fs : List Form) (s : State Value) → all_forms k (enters k n) fs (forget s) ≡ forgets (all_forms k (compile_enters k n) fs s)
forms_unseen k n fs s = (forgetting.forms_related Unseen unseen_keeps_locals k (compile_enters k n) (enters_within k n) (within_unseen k n) fs).same s
