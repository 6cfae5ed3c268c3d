-- Lines, fields and forms, one after another.
-- For: put_kinds, put_fields, put_forms
use Rattle.std.proofs.Common.{◌≡◌, ℕ, suc, ◌+◌, ◌<◌, List, [], ◌∷◌, length, drop, get_or, refl, sym, ap, ◌∙◌, arith, drop-cons, add-one}
use Rattle.std.proofs.lemmas.List.{length-drop}
use Rattle.ps_types.specs.declared.types.Ty.{Ty}
use Rattle.ps_types.specs.declared.types.RecordKind.{RecordKind}
use Rattle.ps_kernel.specs.declared.kernel.Form.{Form}
use Rattle.ps_kernel.specs.declared.kernel.Kernel.{Kernel}
use Rattle.ps_show.specs.declared.page.Page.{Page}
use Rattle.ps_show.specs.Shown.{Text, ◌⋄◌}
use Rattle.std.specs.Prelude.{codes, None}
use Rattle.ps_kernel.specs.declared.expr.Labelled.{Labelled}
use Rattle.ps_kernel.specs.declared.expr.ExprKind.TheOpen.{ExprKind-F}
use Rattle.ps_kernel.specs.declared.kernel.Form.TheVariants as forms
use Rattle.ps_kernel.specs.declared.expr.Expr.{Expr, out-Expr}
use Rattle.ps_kernel.specs.declared.expr.ExprKind.{ExprKind, out-ExprKind, roll-ExprKind, roll-out-ExprKind}
use Rattle.ps_kernel.specs.declared.expr.ExprKind.TheVariants as v
use Rattle.ps_show.specs.Bindings.{order_of}
use Rattle.ps_show.specs.ShowText.{Whole, field_text, fields_text, kind_text, kind_lines, shown, operands_text, do_text, sequence_of, form_text, form_lines, kernel_text}
use Rattle.ps_show.specs.InsidePages.{Adds}
use Rattle.ps_show.proofs.PagesAreJoined.{adds_then, adds_text, adds_nothing}

from_place : {A : Type 0} (i : ℕ) (xs : List A) (x : A) → i < length xs → x ≡ get_or xs i x → drop i xs ≡ x ∷ drop (i + 1) xs
from_place i xs x lt e = drop-cons xs i x lt ∙ ap (λ y. y ∷ drop (suc i) xs) (sym e) ∙ ap (λ (n : ℕ). x ∷ drop n xs) (sym (add-one i))

-- ---- kinds

kinds_cons : (i j : ℕ) (xs ys : List RecordKind) (x : RecordKind) → xs ≡ x ∷ ys → j ≡ suc i → kind_lines i xs ≡ kind_text i x ⋄ (Text (10 ∷ []) ⋄ kind_lines j ys)
unfolding kind_lines
kinds_cons i j xs ys x e h = rw (e, h) refl

kinds_none : (i : ℕ) (xs : List RecordKind) → length xs ≡ 0 → kind_lines i xs ≡ Text []
unfolding kind_lines
kinds_none i [] e = refl
kinds_none i (x ∷ xs) e = absurd (omega arith)

pub adds_kind : (r s t u : Page) (i : ℕ) (xs : List RecordKind) (x : RecordKind) → i < length xs → x ≡ get_or xs i x
    → Adds r s (kind_text i x) → Adds s t (Text (10 ∷ [])) → Adds t u (kind_lines (i + 1) (drop (i + 1) xs)) → Adds r u (kind_lines i (drop i xs))
adds_kind r s t u i xs x lt e g h k = adds_text r u _ _ (sym (kinds_cons i (i + 1) (drop i xs) (drop (i + 1) xs) x (from_place i xs x lt e) (add-one i))) (adds_then r s u _ _ g (adds_then s t u _ _ h k))

pub adds_no_kind : (s : Page) (i : ℕ) (xs : List RecordKind) → i ≡ length xs → Adds s s (kind_lines i (drop i xs))
adds_no_kind s i xs e = adds_text s s _ _ (sym (kinds_none i (drop i xs) (omega (arith, length-drop i xs)))) (adds_nothing s)

-- ---- fields

fields_cons : (k i j : ℕ) (xs ys : List Ty) (x : Ty) → xs ≡ x ∷ ys → j ≡ suc i → fields_text k i xs ≡ field_text k i x ⋄ fields_text k j ys
unfolding fields_text
fields_cons k i j xs ys x e h = rw (e, h) refl

fields_none : (k i : ℕ) (xs : List Ty) → length xs ≡ 0 → fields_text k i xs ≡ Text []
unfolding fields_text
fields_none k i [] e = refl
fields_none k i (x ∷ xs) e = absurd (omega arith)

pub adds_field : (r s u : Page) (k i : ℕ) (xs : List Ty) (x : Ty) → i < length xs → x ≡ get_or xs i x
    → Adds r s (field_text k i x) → Adds s u (fields_text k (i + 1) (drop (i + 1) xs)) → Adds r u (fields_text k i (drop i xs))
adds_field r s u k i xs x lt e g h = adds_text r u _ _ (sym (fields_cons k i (i + 1) (drop i xs) (drop (i + 1) xs) x (from_place i xs x lt e) (add-one i))) (adds_then r s u _ _ g h)

pub adds_no_field : (s : Page) (k i : ℕ) (xs : List Ty) → i ≡ length xs → Adds s s (fields_text k i (drop i xs))
adds_no_field s k i xs e = adds_text s s _ _ (sym (fields_none k i (drop i xs) (omega (arith, length-drop i xs)))) (adds_nothing s)

-- ---- forms

-- what is no sequence has no parts of one
no_sequence : (x : ExprKind) (y : ExprKind-F ExprKind Expr Labelled) → out-ExprKind x ≡ y → ((es : List Expr) → x ≡ v.Begin es → ⊥) → sequence_of y ≡ None
no_sequence x (ExprKind-F.Begin es) e h = absurd (h es (sym (roll-out-ExprKind x) ∙ ap roll-ExprKind e ∙ v.rolls-Begin es))
no_sequence x y e h = refl

module _ (k : Kernel) (names : List (List ℕ)) (order : List ℕ) where
  forms_cons : (xs ys : List Form) (x : Form) → xs ≡ x ∷ ys → form_lines k names order xs ≡ form_text k names order x ⋄ (Text (10 ∷ []) ⋄ form_lines k names order ys)
  unfolding form_lines
  forms_cons xs ys x e = ap (form_lines k names order) e

  forms_none : (xs : List Form) → length xs ≡ 0 → form_lines k names order xs ≡ Text []
  unfolding form_lines
  forms_none [] e = refl
  forms_none (x ∷ xs) e = absurd (omega arith)

  pub adds_form : (r s t u : Page) (i : ℕ) (xs : List Form) (x : Form) → i < length xs → x ≡ get_or xs i x
      → Adds r s (form_text k names order x) → Adds s t (Text (10 ∷ [])) → Adds t u (form_lines k names order (drop (i + 1) xs)) → Adds r u (form_lines k names order (drop i xs))
  adds_form r s t u i xs x lt e g h j = adds_text r u _ _ (sym (forms_cons (drop i xs) (drop (i + 1) xs) x (from_place i xs x lt e))) (adds_then r s u _ _ g (adds_then s t u _ _ h j))

  pub adds_no_form : (s : Page) (i : ℕ) (xs : List Form) → i ≡ length xs → Adds s s (form_lines k names order (drop i xs))
  adds_no_form s i xs e = adds_text s s _ _ (sym (forms_none (drop i xs) (omega (arith, length-drop i xs)))) (adds_nothing s)

  -- an expression at top level
  pub do_sequence : (e : Expr) (es : List Expr) → (out-Expr e).kind ≡ v.Begin es → Text (codes "(let ()") ⋄ (operands_text (shown k names order 199) es ⋄ Text (codes ")")) ≡ form_text k names order (forms.Do e)
  unfolding form_text
  do_sequence e es h = sym (ap (λ x. do_text k names order e (sequence_of x)) (ap out-ExprKind h ∙ v.outs-Begin es))

  pub do_other : (e : Expr) → ((es : List Expr) → (out-Expr e).kind ≡ v.Begin es → ⊥) → shown k names order 200 (Whole e) ≡ form_text k names order (forms.Do e)
  unfolding form_text
  do_other e h = sym (ap (do_text k names order e) (no_sequence (out-Expr e).kind (out-ExprKind (out-Expr e).kind) refl h))

-- the whole text
pub all_lines : (k : Kernel) (names : List (List ℕ)) (order : List ℕ) → order ≡ order_of k → kind_lines 0 k.kinds ⋄ form_lines k names order k.forms ≡ kernel_text k names
unfolding kernel_text
all_lines k names order e = ap (λ (xs : List ℕ). kind_lines 0 k.kinds ⋄ form_lines k names xs k.forms) e
