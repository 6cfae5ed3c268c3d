-- What sees its operands alone neither changes nor shows anything, and answers what its row says.
-- For: the functions of plain.rt
use Rattle.std.proofs.Common.{◌≡◌, ℕ, ℤ, List, [], ◌∷◌, Bool, false, Option, Some, None, Result, Ok, Err, refl, sym, subst, ap, ◌∙◌}
use Rattle.ps_base.specs.declared.faults.Op.{Op}
use Rattle.ps_base.specs.declared.language.PrimName.TheVariants as prims
use Rattle.byte_store.specs.declared.event.Event.{Event}
use Rattle.byte_store.specs.declared.pointer.Value.{Value}
use Rattle.byte_store.specs.declared.pointer.Value.TheVariants as value
use Rattle.ps_prims.specs.declared.outcome.PrimOut.{PrimOut}
use Rattle.ps_prims.specs.declared.outcome.PrimOut.TheVariants as out
use Rattle.ps_prims.specs.declared.stages.Stage.{Stage}
use Rattle.ps_prims.specs.declared.stages.Stage.TheVariants.{Compile, Run}
use Rattle.ps_prims.specs.Sorts.{Integer, Meant, answered, applied, first_order, fits}
use Rattle.ps_prims.specs.Rows.{char_of, row, arithmetic, comparison, test, Row, Scene, Act, Answers, answers, gives, perform_row, performed, at_scene, seen_at}
use Rattle.ps_prims.specs.InsidePerforming.{Quiet}
use Rattle.ps_prims.specs.Inside.{number_out, char_out}
use Rattle.ps_prims.proofs.OtherNumbersFitNoRow.{applied_none}

pub nothing_seen : (stage : Stage) → seen_at stage [] ≡ []
nothing_seen Compile = refl
nothing_seen Run = refl

module _ (r : Row Value) (vs : List Value) where
  row_is : (found : Option (Act Value (Meant Value r.answer))) → applied first_order r.operands r.does vs ≡ found → (stage : Stage) (s : Scene Value) →
      perform_row first_order r vs stage s ≡ performed (answered first_order r.answer) stage (at_scene stage s found)
  row_is found is stage s = ap (λ f. performed (answered first_order r.answer) stage (at_scene stage s f)) is

  pub quiet_wrong : fits first_order r.operands vs ≡ false → Quiet out.Wrong (perform_row first_order r vs)
  quiet_wrong other = λ stage s. row_is None (applied_none first_order r.operands r.does vs other) stage s

  pub quiet_gives : (x : Meant Value r.answer) → applied first_order r.operands r.does vs ≡ Some (gives x) → Quiet (out.Value (answered first_order r.answer x)) (perform_row first_order r vs)
  quiet_gives x is = λ stage s. row_is (Some (gives x)) is stage s ∙ ap (λ (es : List Event). Answers (record { answer = answered first_order r.answer x; memory = s.memory; world = s.world; events = es })) (nothing_seen stage)

  pub quiet_ok : (x : Meant Value r.answer) (a : Result (Meant Value r.answer) Op) → applied first_order r.operands r.does vs ≡ Some (answers a) → a ≡ Ok x → Quiet (out.Value (answered first_order r.answer x)) (perform_row first_order r vs)
  quiet_ok x a is ok = λ stage s. row_is (Some (answers (Ok x))) (is ∙ ap (λ b. Some (answers b)) ok) stage s ∙ ap (λ (es : List Event). Answers (record { answer = answered first_order r.answer x; memory = s.memory; world = s.world; events = es })) (nothing_seen stage)

  pub quiet_err : (op : Op) (a : Result (Meant Value r.answer) Op) → applied first_order r.operands r.does vs ≡ Some (answers a) → a ≡ Err op → Quiet (out.Undefined op) (perform_row first_order r vs)
  quiet_err op a is err = λ stage s. row_is (Some (answers (Err op))) (is ∙ ap (λ b. Some (answers b)) err) stage s

-- ---- rows of integers

pub quiet_arithmetic : (f : ℤ → ℤ → Result ℤ Op) (vs : List Value) (i j : ℤ) (o : PrimOut) → vs ≡ value.Integer i ∷ value.Integer j ∷ [] → o ≡ number_out (f i j) → Quiet o (perform_row first_order (arithmetic first_order f) vs)
quiet_arithmetic f vs i j o is told = subst (λ p. Quiet p (perform_row first_order (arithmetic first_order f) vs)) (sym told) (go (f i j) refl)
  where
    go : (a : Result ℤ Op) → f i j ≡ a → Quiet (number_out a) (perform_row first_order (arithmetic first_order f) vs)
    go (Ok n) e = quiet_ok (arithmetic first_order f) vs n (f i j) (ap (applied first_order (Integer ∷ Integer ∷ []) (λ i j. answers (f i j))) is) e
    go (Err op) e = quiet_err (arithmetic first_order f) vs op (f i j) (ap (applied first_order (Integer ∷ Integer ∷ []) (λ i j. answers (f i j))) is) e

pub quiet_comparison : (f : ℤ → ℤ → Bool) (vs : List Value) (i j : ℤ) (b : Bool) → vs ≡ value.Integer i ∷ value.Integer j ∷ [] → b ≡ f i j → Quiet (out.Value (value.Boolean b)) (perform_row first_order (comparison first_order f) vs)
quiet_comparison f vs i j b is told = subst (λ c. Quiet (out.Value (value.Boolean c)) (perform_row first_order (comparison first_order f) vs)) (sym told) (quiet_gives (comparison first_order f) vs (f i j) (ap (applied first_order (Integer ∷ Integer ∷ []) (λ i j. gives (f i j))) is))

pub quiet_test : (f : ℤ → Bool) (vs : List Value) (i : ℤ) (b : Bool) → vs ≡ value.Integer i ∷ [] → b ≡ f i → Quiet (out.Value (value.Boolean b)) (perform_row first_order (test first_order f) vs)
quiet_test f vs i b is told = subst (λ c. Quiet (out.Value (value.Boolean c)) (perform_row first_order (test first_order f) vs)) (sym told) (quiet_gives (test first_order f) vs (f i) (ap (applied first_order (Integer ∷ []) (λ i. gives (f i))) is))

pub quiet_ascii : (vs : List Value) (i : ℤ) (o : PrimOut) → vs ≡ value.Integer i ∷ [] → o ≡ char_out (char_of i) → Quiet o (perform_row first_order (row first_order [] prims.AsciiToChar) vs)
quiet_ascii vs i o is told = subst (λ p. Quiet p (perform_row first_order (row first_order [] prims.AsciiToChar) vs)) (sym told) (go (char_of i) refl)
  where
    go : (a : Result ℕ Op) → char_of i ≡ a → Quiet (char_out a) (perform_row first_order (row first_order [] prims.AsciiToChar) vs)
    go (Ok n) e = quiet_ok (row first_order [] prims.AsciiToChar) vs n (char_of i) (ap (applied first_order (Integer ∷ []) (λ i. answers (char_of i))) is) e
    go (Err op) e = quiet_err (row first_order [] prims.AsciiToChar) vs op (char_of i) (ap (applied first_order (Integer ∷ []) (λ i. answers (char_of i))) is) e
