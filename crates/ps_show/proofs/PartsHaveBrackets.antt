-- The text of a part, by what it is and by how many levels may be opened.
-- For: the functions that write expressions
use Rattle.std.proofs.Common.{◌≡◌, ℕ, zero, suc, ◌-◌, List, [], refl, sym, ap, ◌∙◌, arith}
use Rattle.std.specs.Prelude.{codes, Bool, true, false, Option, Some, None, slice_get, if◌then◌else◌}
use Rattle.ps_base.specs.declared.faults.Place.{Place}
use Rattle.ps_base.specs.declared.language.PrimName.{PrimName}
use Rattle.ps_kernel.specs.declared.expr.CaseKind.{CaseKind}
use Rattle.ps_kernel.specs.declared.expr.Constant.{Constant}
use Rattle.ps_kernel.specs.declared.expr.GroupEntry.{GroupEntry}
use Rattle.ps_kernel.specs.declared.expr.Labelled.{Labelled}
use Rattle.ps_kernel.specs.declared.expr.Expr.{Expr, out-Expr}
use Rattle.ps_kernel.specs.declared.expr.ExprKind.{out-ExprKind}
use Rattle.ps_kernel.specs.declared.expr.ExprKind.TheVariants as v
use Rattle.ps_kernel.specs.declared.kernel.Kernel.{Kernel}
use Rattle.ps_kernel.specs.declared.kernel.Lambda.{Lambda}
use Rattle.ps_show.specs.Shown.{Shown, Text, Deep, ◌⋄◌, bracket}
use Rattle.ps_show.specs.Words.{global_word, local_word, prim_word}
use Rattle.ps_show.specs.ShowText.{Part, Writing, Whole, Quoted, Procedure, Parameters, Bindings, Binding, Group, Entry, Branch, LabelList, Else, is_bare, is_unit, literal_text, bare_text, node_text, inside, place_in, part_text, shown, operands_text, other_text, branches_text, last_text, procedure_text, constant_text}
use Rattle.ps_show.specs.InsideForms as forms
use Rattle.ps_show.specs.declared.nodes.Showing.{Showing}

-- a part that has brackets whatever it is
abbrev pub encloses : Part → Bool
encloses (Whole e) = false
encloses (Quoted at q) = false
encloses p = true

module _ (k : Kernel) (names : List (List ℕ)) (order : List ℕ) where
  bracket_none : (at : Place) (f : Writing → Shown) → bracket at None f ≡ Deep at
  unfolding bracket
  bracket_none at f = refl

  bracket_some : (at : Place) (inner : Writing) (f : Writing → Shown) → bracket at (Some inner) f ≡ Text (codes "(") ⋄ (f inner ⋄ Text (codes ")"))
  unfolding bracket
  bracket_some at inner f = refl

  part_is : (n : ℕ) (room : Option Writing) (p : Part) → encloses p ≡ true → part_text k names order n room p ≡ bracket (place_in p) room (λ inner. inside k names order inner p)
  part_is n room (Whole e) h = absurd (let clash : false ≡ true = h in cc)
  part_is n room (Quoted at q) h = absurd (let clash : false ≡ true = h in cc)
  part_is n room (Procedure at l) h = refl
  part_is n room (Parameters at xs) h = refl
  part_is n room (Bindings at x a) h = refl
  part_is n room (Binding at x a) h = refl
  part_is n room (Group at g) h = refl
  part_is n room (Entry at e) h = refl
  part_is n room (Branch at kind b) h = refl
  part_is n room (LabelList at kind ls) h = refl
  part_is n room (Else at e) h = refl

  whole_is : (n : ℕ) (room : Option Writing) (e : Expr) → is_bare k (out-ExprKind (out-Expr e).kind) ≡ false
      → part_text k names order n room (Whole e) ≡ bracket (out-Expr e).place room (λ inner. inside k names order inner (Whole e))
  whole_is n room e h = ap (λ (b : Bool). if b then bare_text k names order (out-ExprKind (out-Expr e).kind) else bracket (out-Expr e).place room (λ inner. inside k names order inner (Whole e))) h

  shown_zero : (p : Part) → shown k names order 0 p ≡ part_text k names order 0 None p
  unfolding shown
  shown_zero p = refl

  shown_suc : (n : ℕ) (p : Part) → shown k names order (suc n) p ≡ part_text k names order (suc n) (Some (shown k names order n)) p
  unfolding shown
  shown_suc n p = refl

  -- where no level is left, a part with brackets is too deep
  pub deep_part : (n : ℕ) (p : Part) → encloses p ≡ true → n ≡ 0 → Deep (place_in p) ≡ shown k names order n p
  deep_part zero p h z = sym (shown_zero p ∙ part_is 0 None p h ∙ bracket_none (place_in p) (λ inner. inside k names order inner p))
  deep_part (suc n) p h z = absurd (omega arith)

  pub deep_whole : (n : ℕ) (e : Expr) → is_bare k (out-ExprKind (out-Expr e).kind) ≡ false → n ≡ 0 → Deep (out-Expr e).place ≡ shown k names order n (Whole e)
  deep_whole zero e h z = sym (shown_zero (Whole e) ∙ whole_is 0 None e h ∙ bracket_none (out-Expr e).place (λ inner. inside k names order inner (Whole e)))
  deep_whole (suc n) e h z = absurd (omega arith)

  -- else it stands in brackets, one level deeper
  pub enclosed_part : (n : ℕ) (p : Part) → encloses p ≡ true → (n ≡ 0 → ⊥)
      → Text (codes "(") ⋄ (inside k names order (shown k names order (n - 1)) p ⋄ Text (codes ")")) ≡ shown k names order n p
  enclosed_part zero p h z = absurd (z refl)
  enclosed_part (suc n) p h z =
      let less : suc n - 1 ≡ n = omega arith in
      ap (λ (m : ℕ). Text (codes "(") ⋄ (inside k names order (shown k names order m) p ⋄ Text (codes ")"))) less
      ∙ sym (shown_suc n p ∙ part_is (suc n) (Some (shown k names order n)) p h ∙ bracket_some (place_in p) (shown k names order n) (λ inner. inside k names order inner p))

  pub enclosed_whole : (n : ℕ) (e : Expr) → is_bare k (out-ExprKind (out-Expr e).kind) ≡ false → (n ≡ 0 → ⊥)
      → Text (codes "(") ⋄ (node_text k names order (shown k names order (n - 1)) (out-Expr e).place (out-ExprKind (out-Expr e).kind) ⋄ Text (codes ")")) ≡ shown k names order n (Whole e)
  enclosed_whole zero e h z = absurd (z refl)
  enclosed_whole (suc n) e h z =
      let less : suc n - 1 ≡ n = omega arith in
      ap (λ (m : ℕ). Text (codes "(") ⋄ (inside k names order (shown k names order m) (Whole e) ⋄ Text (codes ")"))) less
      ∙ sym (shown_suc n (Whole e) ∙ whole_is (suc n) (Some (shown k names order n)) e h ∙ bracket_some (out-Expr e).place (shown k names order n) (λ inner. inside k names order inner (Whole e)))

  -- an expression without brackets
  pub bare_whole : (n : ℕ) (e : Expr) → is_bare k (out-ExprKind (out-Expr e).kind) ≡ true → bare_text k names order (out-ExprKind (out-Expr e).kind) ≡ shown k names order n (Whole e)
  bare_whole zero e h = sym (shown_zero (Whole e) ∙ ap (λ (b : Bool). if b then bare_text k names order (out-ExprKind (out-Expr e).kind) else bracket (out-Expr e).place None (λ inner. inside k names order inner (Whole e))) h)
  bare_whole (suc n) e h = sym (shown_suc n (Whole e) ∙ ap (λ (b : Bool). if b then bare_text k names order (out-ExprKind (out-Expr e).kind) else bracket (out-Expr e).place (Some (shown k names order n)) (λ inner. inside k names order inner (Whole e))) h)

-- ---- what stands in brackets, a kind of expression each

module _ (s : Showing) (n : ℕ) (at : Place) where
  abbrev inner : Writing
  inner = forms.part s n

  abbrev word : ℕ → Shown
  word = local_word s.locals.now

  abbrev global : ℕ → Shown
  global = global_word s.kernel.now.main

  pub of_constant : (c : Constant) → forms.node s n at (v.Constant c) ≡ constant_text inner at c
  unfolding forms.node
  of_constant c = ap (node_text s.kernel.now s.names.now s.locals.now inner at) (v.outs-Constant c)

  pub of_local : (x : ℕ) → forms.node s n at (v.Local x) ≡ Text []
  unfolding forms.node
  of_local x = ap (node_text s.kernel.now s.names.now s.locals.now inner at) (v.outs-Local x)

  pub of_global : (x : ℕ) → forms.node s n at (v.Global x) ≡ Text []
  unfolding forms.node
  of_global x = ap (node_text s.kernel.now s.names.now s.locals.now inner at) (v.outs-Global x)

  pub of_lambda : (l : ℕ) → forms.node s n at (v.Lambda l) ≡ forms.procedure s n at l
  unfolding forms.node
  of_lambda l = ap (node_text s.kernel.now s.names.now s.locals.now inner at) (v.outs-Lambda l)

  pub of_if : (a b c : Expr) → forms.node s n at (v.If a b c) ≡ Text (codes "if ") ⋄ (inner (Whole a) ⋄ (Text (codes " ") ⋄ (inner (Whole b) ⋄ other_text inner c)))
  unfolding forms.node
  of_if a b c = ap (node_text s.kernel.now s.names.now s.locals.now inner at) (v.outs-If a b c)

  pub of_let : (x : ℕ) (a b : Expr) → forms.node s n at (v.Let x a b) ≡ Text (codes "let ") ⋄ (inner (Bindings at x a) ⋄ (Text (codes " ") ⋄ inner (Whole b)))
  unfolding forms.node
  of_let x a b = ap (node_text s.kernel.now s.names.now s.locals.now inner at) (v.outs-Let x a b)

  pub of_letrec : (g : List GroupEntry) (b : Expr) → forms.node s n at (v.Letrec g b) ≡ Text (codes "letrec ") ⋄ (inner (Group at g) ⋄ (Text (codes " ") ⋄ inner (Whole b)))
  unfolding forms.node
  of_letrec g b = ap (node_text s.kernel.now s.names.now s.locals.now inner at) (v.outs-Letrec g b)

  pub of_begin : (es : List Expr) → forms.node s n at (v.Begin es) ≡ Text (codes "begin") ⋄ operands_text inner es
  unfolding forms.node
  of_begin es = ap (node_text s.kernel.now s.names.now s.locals.now inner at) (v.outs-Begin es)

  pub of_set : (g : ℕ) (a : Expr) → forms.node s n at (v.SetGlobal g a) ≡ Text (codes "set! ") ⋄ (global g ⋄ (Text (codes " ") ⋄ inner (Whole a)))
  unfolding forms.node
  of_set g a = ap (node_text s.kernel.now s.names.now s.locals.now inner at) (v.outs-SetGlobal g a)

  pub of_set_local : (x : ℕ) (a : Expr) → forms.node s n at (v.SetLocal x a) ≡ Text (codes "set! ") ⋄ (word x ⋄ (Text (codes " ") ⋄ inner (Whole a)))
  unfolding forms.node
  of_set_local x a = ap (node_text s.kernel.now s.names.now s.locals.now inner at) (v.outs-SetLocal x a)

  pub of_case : (kind : CaseKind) (a : Expr) (bs : List Labelled) (e : Expr) → forms.node s n at (v.Case kind a bs e) ≡ Text (codes "case ") ⋄ (inner (Whole a) ⋄ (branches_text inner at kind bs ⋄ last_text inner at e))
  unfolding forms.node
  of_case kind a bs e = ap (node_text s.kernel.now s.names.now s.locals.now inner at) (v.outs-Case kind a bs e)

  pub of_call : (f : Expr) (es : List Expr) → forms.node s n at (v.Call f es) ≡ inner (Whole f) ⋄ operands_text inner es
  unfolding forms.node
  of_call f es = ap (node_text s.kernel.now s.names.now s.locals.now inner at) (v.outs-Call f es)

  pub of_proper : (f : Expr) (es : List Expr) → forms.node s n at (v.ProperCall f es) ≡ Text (codes "goto ") ⋄ (inner (Whole f) ⋄ operands_text inner es)
  unfolding forms.node
  of_proper f es = ap (node_text s.kernel.now s.names.now s.locals.now inner at) (v.outs-ProperCall f es)

  pub of_primitive : (p : PrimName) (es : List Expr) → forms.node s n at (v.Primitive p es) ≡ prim_word p ⋄ operands_text inner es
  unfolding forms.node
  of_primitive p es = ap (node_text s.kernel.now s.names.now s.locals.now inner at) (v.outs-Primitive p es)

-- ---- last expressions

pub no_other : (inner : Writing) (e : Expr) → is_unit e ≡ true → other_text inner e ≡ Text []
unfolding other_text
no_other inner e h = ap (λ (b : Bool). if b then Text [] else (Text (codes " ") ⋄ inner (Whole e))) h

pub some_other : (inner : Writing) (e : Expr) → is_unit e ≡ false → other_text inner e ≡ Text (codes " ") ⋄ inner (Whole e)
unfolding other_text
some_other inner e h = ap (λ (b : Bool). if b then Text [] else (Text (codes " ") ⋄ inner (Whole e))) h

pub no_last : (inner : Writing) (at : Place) (e : Expr) → is_unit e ≡ true → last_text inner at e ≡ Text []
unfolding last_text
no_last inner at e h = ap (λ (b : Bool). if b then Text [] else (Text (codes " ") ⋄ inner (Else at e))) h

pub some_last : (inner : Writing) (at : Place) (e : Expr) → is_unit e ≡ false → last_text inner at e ≡ Text (codes " ") ⋄ inner (Else at e)
unfolding last_text
some_last inner at e h = ap (λ (b : Bool). if b then Text [] else (Text (codes " ") ⋄ inner (Else at e))) h

-- ---- lambdas

pub procedure_there : (inner : Writing) (at : Place) (o : Option Lambda) (m : Lambda) → o ≡ Some m → procedure_text inner at o ≡ Text (codes "lambda ") ⋄ (inner (Parameters at m.parameters) ⋄ (Text (codes " ") ⋄ inner (Whole m.body)))
unfolding procedure_text
procedure_there inner at o m e = ap (procedure_text inner at) e

pub procedure_absent : (inner : Writing) (at : Place) (o : Option Lambda) → o ≡ None → procedure_text inner at o ≡ Text (codes "lambda")
unfolding procedure_text
procedure_absent inner at o e = ap (procedure_text inner at) e

-- ---- a quoted literal

pub quoted_part : (k : Kernel) (names : List (List ℕ)) (order : List ℕ) (n : ℕ) (at : Place) (q : ℕ) → literal_text names at n (slice_get k.literals q) ≡ shown k names order n (Quoted at q)
unfolding shown
quoted_part k names order zero at q = refl
quoted_part k names order (suc n) at q = refl
