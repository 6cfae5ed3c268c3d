-- A case does what it unfolds to.
-- For: `cases_do_what_they_unfold_to`
use Rattle.std.proofs.Common.{◌≡◌, ℕ, zero, suc, ℤ, pos, negsuc, ◌-◌, ◌≤◌, List, [], ◌∷◌, ◌++◌, map, length, drop, Option, Some, None, refl, sym, ap, ◌∙◌, subst, arith}
use Rattle.std.specs.Prelude.{Bool, true, false, not, nat_eq, nat_lt, nat_le, nat_abs, ◌&&◌, ◌||◌, if◌then◌else◌, is_some}
use Rattle.std.specs.Ordering.{int_eq}
use Rattle.std.specs.List.{list_all}
use Rattle.std.specs.Option.{option_map}
use Rattle.std.proofs.lemmas.Bool.{and_parts, le-leb, eq-eqb, true≢false, false≢true}
use Rattle.std.proofs.lemmas.List.{append-nil}
use Rattle.std.proofs.lemmas.Bool.Decides.{Decides-eqb, Decides-int_eq}
use Rattle.ps_base.specs.declared.faults.Place.{Place}
use Rattle.ps_base.specs.declared.language.PrimName.{PrimName}
use Rattle.ps_base.specs.declared.language.PrimName.TheVariants as prims
use Rattle.byte_store.specs.declared.event.Event.{Event}
use Rattle.byte_store.specs.declared.pointer.Value.{Value}
use Rattle.byte_store.specs.declared.pointer.Value.TheVariants as value
use Rattle.byte_store.specs.Outcome.{Wrong, StoppedAtCells}
use Rattle.byte_store.specs.Worlds.{next_grant}
use Rattle.ps_prims.specs.declared.stages.Stage.{Stage}
use Rattle.ps_prims.specs.declared.stages.Stage.TheVariants.{Compile, Run as AtRun}
use Rattle.ps_prims.specs.declared.stages.Stages.{Stages}
use Rattle.ps_prims.specs.declared.stages.Stages.TheVariants.{Both}
use Rattle.ps_prims.specs.declared.sorts.Sort.{Sort}
use Rattle.ps_prims.specs.declared.sorts.Sort.TheVariants.{Integer, Boolean, Char}
use Rattle.ps_prims.specs.Sorts.{Values, Meant, Taking, first_order, and_seen, as_integer, as_char, as_boolean, read, answered, applied, and_takes}
use Rattle.ps_prims.specs.Rows.{Scene, Performed, Answers, perform, performed, at_scene, row, seen_at}
use Rattle.ps_prims.specs.Rows as rows
use Rattle.ps_prims.specs.Cells.{asks, asked, asked_at, counted}
use Rattle.ps_kernel.specs.declared.expr.CaseKind.{CaseKind}
use Rattle.ps_kernel.specs.declared.expr.CaseKind.TheVariants as kinds
use Rattle.ps_kernel.specs.declared.expr.Constant.TheVariants as constants
use Rattle.ps_kernel.specs.declared.expr.GroupEntry.{GroupEntry}
use Rattle.ps_kernel.specs.declared.expr.Expr.{Expr}
use Rattle.ps_kernel.specs.declared.expr.ExprKind.{ExprKind, fold-ExprKind}
use Rattle.ps_kernel.specs.declared.expr.ExprKind.TheVariants as v
use Rattle.ps_kernel.specs.declared.expr.Labelled.{Labelled, fold-Labelled}
use Rattle.ps_kernel.specs.declared.kernel.Kernel.{Kernel}
use Rattle.ps_kernel.specs.Marks.{labels_of, body_of}
use Rattle.ps_kernel.specs.Rules.{is_among, is_label, is_branch, are_branches}
use Rattle.ps_kernel.specs.Texts.{entry_of, expr_at}
use Rattle.ps_kernel.specs.Unfold.{comparison, constant_of, equals, is_one, unfolded}
use Rattle.ps_kernel.specs.Unfold as branches
use Rattle.ps_kernel.proofs.FoldsByNode.{fold-expr, fold-branch, fold-constant, fold-local, fold-if, fold-let, fold-case, fold-primitive}
use Rattle.ps_runs.specs.Runs.{State, Step, Goes, Stops, Run, Halt, Ends, and_then, ◌>>=◌, ◌>>◌, pure, stop, stopped, or_wrong}
use Rattle.ps_runs.specs.Locals.{found, get_locals, put_locals, local, binding}
use Rattle.ps_runs.specs.Effects.{pay, take_cells, performing, came}
use Rattle.ps_runs.proofs.HiddenLocals.{Moved, Hidden}
use Rattle.ps_meaning.specs.Values.{RunValue, Plain, run_values, seen_of}
use Rattle.ps_meaning.specs.declared.values.RunValue.TheVariants.{outs-Plain}
use Rattle.ps_meaning.specs.Eval.{Meaning, RunMeaning, CompileMeaning, Part, Choice, belongs, misplaced, chosen, each, either, branch, let_in, label_of, case_of, operation, primitive, unless, run_node, run, run_enters, compile_node, compile, compile_enters}
use Rattle.ps_meaning.specs.Unfolds.{lacks, IsHidden, CasesDoWhatTheyUnfoldTo}
use Rattle.ps_meaning.proofs.HiddenLocalStays.{run_stays, run_enters_hidden, compile_stays, compile_enters_hidden}

-- two parts that go on alike from each value and state do the same
pub then_same : {V A B : Type 0} (p : Run V A) (f g : A → Run V B) (s : State V) → ((a : A) (t : State V) → f a t ≡ g a t) → (p >>= f) s ≡ (p >>= g) s
then_same {V} {A} {B} p f g s h = one (p s)
  where
    one : (r : Step V A) → and_then r f ≡ and_then r g
    one (Goes a t) = h a t
    one (Stops i t) = refl

-- ---- comparing a key with a label, at either stage

-- the value of a label
abbrev label_value : CaseKind → ℤ → Value
label_value kinds.Integer l = value.Integer l
label_value kinds.Char l = value.Char (nat_abs l)

seen_nothing : (stage : Stage) → seen_at stage [] ≡ []
seen_nothing Compile = refl
seen_nothing AtRun = refl

abbrev number_or_0 : Option ℤ → ℤ
number_or_0 None = pos 0
number_or_0 (Some i) = i

char_label : (o : Option ℕ) (i : ℤ) → option_map pos o ≡ Some i → (c : ℕ) × (o ≡ Some c) × (i ≡ pos c)
char_label None i h = absurd (false≢true (ap is_some h))
char_label (Some c) i h = (c, refl, sym (ap number_or_0 h))

char_none : (o : Option ℕ) → option_map pos o ≡ None → o ≡ None
char_none None h = refl
char_none (Some c) h = absurd (true≢false (ap is_some h))

same_codes : (c n : ℕ) → nat_eq c n ≡ int_eq (pos c) (pos n)
same_codes c n = one (nat_eq c n) (int_eq (pos c) (pos n)) refl refl
  where
    one : (a b : Bool) → nat_eq c n ≡ a → int_eq (pos c) (pos n) ≡ b → a ≡ b
    one true true ha hb = refl
    one false false ha hb = refl
    one true false ha hb = absurd (false≢true (sym hb ∙ (Decides-int_eq (pos c) (pos n)).1 (ap pos ((Decides-eqb c n).0 ha))))
    one false true ha hb = absurd (false≢true (sym ha ∙ (Decides-eqb c n).1 (ap nat_abs ((Decides-int_eq (pos c) (pos n)).0 hb))))

or_false : (b : Bool) → (b || false) ≡ b
or_false true = refl
or_false false = refl

module _ {V : Type 0} (k : Kernel) (stage : Stage) (values : Values V) (sees : (u : Value) → values.seen (values.of u) ≡ Some u) where
  abbrev scene : State V → Scene V
  scene s = record { memory = s.memory; world = s.world }

  paid : (left : Option ℕ) (s : State V) → s.cells ≡ left → pay 0 left s ≡ Goes tt s
  paid None s is = refl
  paid (Some n) s is =
      let none : 0 ≤ n = omega arith in
      let rest : n - 0 ≡ n = omega arith in
      ap (λ (b : Bool). (if b then (λ (t : State V). Goes tt (record t { cells = Some (n - 0) })) else stop {A = Unit {0}} (Ends StoppedAtCells)) s) (le-leb 0 n none) ∙
      ap (λ z. Goes tt (record s { cells = Some z })) rest ∙ ap (λ c. Goes tt (record s { cells = c })) (sym is)

  -- what asks for no cells comes as it is performed
  asks_none : (at : Place) (asks : Scene V → ℕ) (act : Scene V → Performed V) (s : State V) → asks (scene s) ≡ 0 → performing at asks act s ≡ came at (act (scene s)) s
  asks_none at asks act s none =
      ap (λ n. and_then (take_cells n s) (λ u. came at (act (scene s)))) none ∙ ap (λ r. and_then r (λ u. came at (act (scene s)))) (paid s.cells s refl)

  -- what neither changes nor shows anything
  abbrev quiet : V → Scene V → Performed V
  quiet a sc = Answers (record { answer = a; memory = sc.memory; world = sc.world; events = [] })

  leaves_nothing : (at : Place) (a : V) (s : State V) (r : Performed V) → r ≡ quiet a (scene s) → came at r s ≡ Goes a s
  leaves_nothing at a s r is = ap (λ z. came at z s) is ∙ ap (λ es. Goes a (record s { events = es })) (append-nil s.events)

  module _ (sort : Sort) (u w : V) where
    two : {R : Type 0} (f : Taking V (sort ∷ sort ∷ []) R) (a b : Meant V sort) → read values sort u ≡ Some a → read values sort w ≡ Some b → applied values (sort ∷ sort ∷ []) f (u ∷ w ∷ []) ≡ Some (f a b)
    two f a b ha hb =
        ap (λ o. and_takes values o (λ x. and_takes values (read values sort w) (λ y. applied values [] (f x y) []))) ha ∙ ap (λ o. and_takes values o (λ y. applied values [] (f a y) [])) hb

    not_one : {R : Type 0} (f : Taking V (sort ∷ sort ∷ []) R) → read values sort u ≡ None → applied values (sort ∷ sort ∷ []) f (u ∷ w ∷ []) ≡ None
    not_one f ha = ap (λ o. and_takes values o (λ x. and_takes values (read values sort w) (λ y. applied values [] (f x y) []))) ha

  asked_none : (p : PrimName) (vs : List V) (sc : Scene V) → asked values k.kinds p vs sc.memory ≡ 0 → asked_at values k.kinds p vs stage sc ≡ 0
  asked_none p vs sc is = at_stage stage
    where
      refused : (b : Bool) → (if b then asked values k.kinds p vs sc.memory else 0) ≡ 0
      refused true = is
      refused false = refl

      at_stage : (stage : Stage) → asked_at values k.kinds p vs stage sc ≡ 0
      at_stage Compile = is
      at_stage AtRun = refused (next_grant sc.world.grants)

  -- ---- a key and a label

  -- what a comparison of two of a sort comes to, whatever it compares
  compares : (at : Place) (s : State V) (p : PrimName) (vs : List V) (answer : Bool)
      → (row values k.kinds p).stages ≡ Both
      → asked values k.kinds p vs s.memory ≡ 0
      → perform values k.kinds p vs stage (scene s) ≡ quiet (values.of (value.Boolean answer)) (scene s)
      → operation k stage values at p vs s ≡ Goes (values.of (value.Boolean answer)) s
  compares at s p vs answer both none is =
      ap (λ (st : Stages). (if belongs st stage then performing at (asked_at values k.kinds p vs stage) (perform values k.kinds p vs stage) else stop (misplaced stage at)) s) both ∙
      asks_none at (asked_at values k.kinds p vs stage) (perform values k.kinds p vs stage) s (asked_none p vs (scene s) none) ∙
      leaves_nothing at (values.of (value.Boolean answer)) s (perform values k.kinds p vs stage (scene s)) is

  wrongly : (at : Place) (s : State V) (p : PrimName) (vs : List V)
      → (row values k.kinds p).stages ≡ Both
      → asked values k.kinds p vs s.memory ≡ 0
      → perform values k.kinds p vs stage (scene s) ≡ rows.Wrong
      → operation k stage values at p vs s ≡ Stops (Ends (Wrong at)) (stopped s)
  wrongly at s p vs both none is =
      ap (λ (st : Stages). (if belongs st stage then performing at (asked_at values k.kinds p vs stage) (perform values k.kinds p vs stage) else stop (misplaced stage at)) s) both ∙
      asks_none at (asked_at values k.kinds p vs stage) (perform values k.kinds p vs stage) s (asked_none p vs (scene s) none) ∙ ap (λ z. came at z s) is

  -- a quiet answer of this boolean
  abbrev told : Bool → State V → List Event → Performed V
  told b s es = Answers (record { answer = values.of (value.Boolean b); memory = s.memory; world = s.world; events = es })

  integers_compare : (at : Place) (s : State V) (v : V) (i l : ℤ) → and_seen values (values.seen v) as_integer ≡ Some i
      → operation k stage values at prims.Equal (v ∷ values.of (value.Integer l) ∷ []) s ≡ Goes (values.of (value.Boolean (int_eq i l))) s
  integers_compare at s v i l is =
      let w = values.of (value.Integer l) in
      let other : read values Integer w ≡ Some l = ap (λ o. and_seen values o as_integer) (sees (value.Integer l)) in
      compares at s prims.Equal (v ∷ w ∷ []) (int_eq i l) refl
      (ap (λ o. counted o s.memory) (two Integer v w (asks values k.kinds prims.Equal) i l is other))
      (ap (λ o. performed (answered values Boolean) stage (at_scene stage (scene s) o)) (two Integer v w (row values k.kinds prims.Equal).does i l is other) ∙ ap (told (int_eq i l) s) (seen_nothing stage))

  integers_wrong : (at : Place) (s : State V) (v : V) (l : ℤ) → and_seen values (values.seen v) as_integer ≡ None
      → operation k stage values at prims.Equal (v ∷ values.of (value.Integer l) ∷ []) s ≡ Stops (Ends (Wrong at)) (stopped s)
  integers_wrong at s v l is =
      let w = values.of (value.Integer l) in
      wrongly at s prims.Equal (v ∷ w ∷ []) refl
      (ap (λ o. counted o s.memory) (not_one Integer v w (asks values k.kinds prims.Equal) is))
      (ap (λ o. performed (answered values Boolean) stage (at_scene stage (scene s) o)) (not_one Integer v w (row values k.kinds prims.Equal).does is))

  chars_compare : (at : Place) (s : State V) (v : V) (c n : ℕ) → and_seen values (values.seen v) as_char ≡ Some c
      → operation k stage values at prims.CharEqual (v ∷ values.of (value.Char n) ∷ []) s ≡ Goes (values.of (value.Boolean (nat_eq c n))) s
  chars_compare at s v c n is =
      let w = values.of (value.Char n) in
      let other : read values Char w ≡ Some n = ap (λ o. and_seen values o as_char) (sees (value.Char n)) in
      compares at s prims.CharEqual (v ∷ w ∷ []) (nat_eq c n) refl
      (ap (λ o. counted o s.memory) (two Char v w (asks values k.kinds prims.CharEqual) c n is other))
      (ap (λ o. performed (answered values Boolean) stage (at_scene stage (scene s) o)) (two Char v w (row values k.kinds prims.CharEqual).does c n is other) ∙ ap (told (nat_eq c n) s) (seen_nothing stage))

  chars_wrong : (at : Place) (s : State V) (v : V) (n : ℕ) → and_seen values (values.seen v) as_char ≡ None
      → operation k stage values at prims.CharEqual (v ∷ values.of (value.Char n) ∷ []) s ≡ Stops (Ends (Wrong at)) (stopped s)
  chars_wrong at s v n is =
      let w = values.of (value.Char n) in
      wrongly at s prims.CharEqual (v ∷ w ∷ []) refl
      (ap (λ o. counted o s.memory) (not_one Char v w (asks values k.kinds prims.CharEqual) is))
      (ap (λ o. performed (answered values Boolean) stage (at_scene stage (scene s) o)) (not_one Char v w (row values k.kinds prims.CharEqual).does is))

  -- a key that is a label compares as its number, and one that is none is Wrong
  keys_compare : (at : Place) (s : State V) (kind : CaseKind) (v : V) (i l : ℤ) → is_label kind l ≡ true → label_of k stage values kind v ≡ Some i
      → operation k stage values at (comparison kind) (v ∷ values.of (label_value kind l) ∷ []) s ≡ Goes (values.of (value.Boolean (int_eq i l))) s
  keys_compare at s kinds.Integer v i l ok is = integers_compare at s v i l is
  keys_compare at s kinds.Char v i (pos n) ok is =
      let c = char_label (and_seen values (values.seen v) as_char) i is in
      chars_compare at s v c.0 n c.1 ∙ ap (λ b. Goes (values.of (value.Boolean b)) s) (same_codes c.0 n ∙ ap (λ z. int_eq z (pos n)) (sym c.2))
  keys_compare at s kinds.Char v i (negsuc n) ok is = absurd (false≢true ok)

  keys_wrong : (at : Place) (s : State V) (kind : CaseKind) (v : V) (l : ℤ) → is_label kind l ≡ true → label_of k stage values kind v ≡ None
      → operation k stage values at (comparison kind) (v ∷ values.of (label_value kind l) ∷ []) s ≡ Stops (Ends (Wrong at)) (stopped s)
  keys_wrong at s kinds.Integer v l ok is = integers_wrong at s v l is
  keys_wrong at s kinds.Char v l ok is = chars_wrong at s v (nat_abs l) (char_none (and_seen values (values.seen v) as_char) is)

-- ---- a stage, whatever its expressions do otherwise

module _ {V : Type 0} (k : Kernel) (stage : Stage) (values : Values V) (x : ℕ) where
  abbrev choice : (Expr → Meaning V) → Labelled → Choice V
  choice does b = record { labels = labels_of b; does = does (body_of b) }

  -- what expressions do, as far as a case and what it unfolds to need it
  pub record Does (does : Expr → Meaning V) : Type 0 where
    pub sees : (u : Value) → values.seen (values.of u) ≡ Some u
    pub lets : (at : Place) (a b : Expr) → does (expr_at at (v.Let x a b)) ≡ let_in k stage values x (does a) (does b)
    pub ifs : (at : Place) (a b c : Expr) → does (expr_at at (v.If a b c)) ≡ branch k stage values at (does a) (does b) (does c)
    pub cases : (at : Place) (kind : CaseKind) (a : Expr) (bs : List Labelled) (e : Expr)
        → does (expr_at at (v.Case kind a bs e)) ≡ case_of k stage values at kind (does a) (map (choice does) bs) (does e)
    pub compares : (at : Place) (p : PrimName) (a b : Expr) → does (expr_at at (v.Primitive p (a ∷ b ∷ []))) ≡ primitive k stage values at p (does a ∷ does b ∷ [])
    pub local : (at : Place) → does (expr_at at (v.Local x)) ≡ (λ d. local at x)
    pub boolean : (at : Place) (b : Bool) → does (expr_at at (v.Constant (constants.Boolean b))) ≡ (λ d. pure (values.of (value.Boolean b)))
    pub label : (at : Place) (kind : CaseKind) (l : ℤ) → does (expr_at at (v.Constant (constant_of kind l))) ≡ (λ d. pure (values.of (label_value kind l)))
    pub stays : (w : V) (e : Expr) → lacks k x e ≡ true → (d : ℕ) → Hidden x w V (does e d) (does e d)

  module _ (does : Expr → Meaning V) (known : Does does) (at : Place) (kind : CaseKind) (w : V) (d : ℕ) where
    -- the hidden local is bound to the key
    abbrev push : State V → State V
    push t = record t { locals = (x, w) ∷ t.locals }

    abbrev test : List ℤ → Meaning V
    test ls = does (is_one at kind x ls)

    key_at : (t : State V) → found x ((x, w) ∷ t.locals) ≡ Some w
    key_at t = ap (λ (b : Bool). if b then Some w else found x t.locals) (eq-eqb x x refl)

    -- the comparison with a label, where the key is bound
    abbrev compared : ℤ → State V → Step V V
    compared l t = operation k stage values at (comparison kind) (w ∷ values.of (label_value kind l) ∷ []) t

    equals_does : (l : ℤ) (t : State V) → does (equals at kind x l) d (push t) ≡ compared l (push t)
    equals_does l t =
        ap (λ (m : Meaning V). m d (push t)) (known.compares at (comparison kind) (expr_at at (v.Local x)) (expr_at at (v.Constant (constant_of kind l)))) ∙
        ap (λ (m : Meaning V). primitive k stage values at (comparison kind) (m ∷ does (expr_at at (v.Constant (constant_of kind l))) ∷ []) d (push t)) (known.local at) ∙
        ap (λ (m : Meaning V). primitive k stage values at (comparison kind) ((λ d. local at x) ∷ m ∷ []) d (push t)) (known.label at kind l) ∙
        ap (λ o. ((or_wrong at o >>= (λ a. each k stage values ((λ d. pure (values.of (label_value kind l))) ∷ []) d >>= (λ vs. pure (a ∷ vs)))) >>= (λ vs. operation k stage values at (comparison kind) vs)) (push t)) (key_at t)

    decided : (a b c : Meaning V) (s : State V) (z : Bool) → a d s ≡ Goes (values.of (value.Boolean z)) s → branch k stage values at a b c d s ≡ either k stage values z (b d) (c d) s
    decided a b c s z is =
        ap (λ r. and_then r (λ u. or_wrong at (and_seen values (values.seen u) as_boolean) >>= (λ t. either k stage values t (b d) (c d)))) is ∙
        ap (λ o. and_then (or_wrong at (and_seen values o as_boolean) s) (λ t. either k stage values t (b d) (c d))) (known.sees (value.Boolean z))

    halts : (a b c : Meaning V) (s u : State V) (h : Halt) → a d s ≡ Stops h u → branch k stage values at a b c d s ≡ Stops h u
    halts a b c s u h is = ap (λ r. and_then r (λ u. or_wrong at (and_seen values (values.seen u) as_boolean) >>= (λ t. either k stage values t (b d) (c d)))) is

    module _ (i : ℤ) (is : label_of k stage values kind w ≡ Some i) where
      equals_is : (l : ℤ) → is_label kind l ≡ true → (t : State V) → does (equals at kind x l) d (push t) ≡ Goes (values.of (value.Boolean (int_eq i l))) (push t)
      equals_is l ok t = equals_does l t ∙ keys_compare k stage values known.sees at (push t) kind w i l ok is

      or_rest : (z : Bool) (ls : List ℤ) (t : State V) → test ls d (push t) ≡ Goes (values.of (value.Boolean (is_among i ls))) (push t)
          → either k stage values z (does (expr_at at (v.Constant (constants.Boolean true))) d) (test ls d) (push t) ≡ Goes (values.of (value.Boolean (z || is_among i ls))) (push t)
      or_rest true ls t h = ap (λ (m : Meaning V). m d (push t)) (known.boolean at true)
      or_rest false ls t h = h

      -- the test of a branch tells whether the key is one of its labels
      test_is : (ls : List ℤ) → list_all (is_label kind) ls ≡ true → (t : State V) → test ls d (push t) ≡ Goes (values.of (value.Boolean (is_among i ls))) (push t)
      test_is [] ok t = ap (λ (m : Meaning V). m d (push t)) (known.boolean at false)
      test_is (l ∷ []) ok t = equals_is l (and_parts (is_label kind l) true ok).0 t ∙ ap (λ b. Goes (values.of (value.Boolean b)) (push t)) (sym (or_false (int_eq i l)))
      test_is (l ∷ m ∷ ls) ok t =
          let parts = and_parts (is_label kind l) (list_all (is_label kind) (m ∷ ls)) ok in
          ap (λ (n : Meaning V). n d (push t)) (known.ifs at (equals at kind x l) (expr_at at (v.Constant (constants.Boolean true))) (is_one at kind x (m ∷ ls))) ∙
          decided (does (equals at kind x l)) (does (expr_at at (v.Constant (constants.Boolean true)))) (test (m ∷ ls)) (push t) (int_eq i l) (equals_is l parts.0 t) ∙
          or_rest (int_eq i l) (m ∷ ls) t (test_is (m ∷ ls) parts.1 t)

      -- what is done where the key is bound, without it
      abbrev bound_to : Run V V → Run V V
      bound_to p = binding x w p

      unbinds : (p : Run V V) → Hidden x w V p p → (t : State V) → bound_to p t ≡ p t
      unbinds p h t = one (p t) (p (push t)) (h.by 0 t (omega arith))
        where
          one : (r r' : Step V V) → Moved x w 0 r r' → and_then r' (λ a. get_locals >>= (λ later. put_locals (drop 1 later) >> pure a)) ≡ r
          one (Goes a s) r' m = ap (λ z. and_then z (λ a. get_locals >>= (λ later. put_locals (drop 1 later) >> pure a))) m.1
          one (Stops g s) r' m = ap (λ z. and_then z (λ a. get_locals >>= (λ later. put_locals (drop 1 later) >> pure a))) m

      picks : (z : Bool) (b : Expr) (rest : Meaning V) (after : Meaning V) → lacks k x b ≡ true → (t : State V) → bound_to (rest d) t ≡ after d t
          → bound_to (either k stage values z (does b d) (rest d)) t ≡ (if z then does b else after) d t
      picks true b rest after ok t h = unbinds (does b d) (known.stays w b ok d) t
      picks false b rest after ok t h = h

      -- the ifs of the branches choose the first that has the key
      ifs_choose : (bs : List Labelled) (e : Expr) → list_all (is_branch kind) bs ≡ true → list_all (λ b. lacks k x (body_of b)) bs ≡ true → lacks k x e ≡ true → (t : State V)
          → bound_to (does (branches.ifs at kind x bs e) d) t ≡ chosen i (map (choice does) bs) (does e) d t
      ifs_choose [] e ok lack last t = unbinds (does e d) (known.stays w e last d) t
      ifs_choose (b ∷ bs) e ok lack last t =
          let ours = and_parts (is_branch kind b) (list_all (is_branch kind) bs) ok in
          let labels = and_parts (nat_lt 0 (length (labels_of b))) (list_all (is_label kind) (labels_of b)) ours.0 in
          let lacks' = and_parts (lacks k x (body_of b)) (list_all (λ b. lacks k x (body_of b)) bs) lack in
          let rest = does (branches.ifs at kind x bs e) in
          ap (λ (m : Meaning V). bound_to (m d) t) (known.ifs at (is_one at kind x (labels_of b)) (body_of b) (branches.ifs at kind x bs e)) ∙
          ap (λ r. and_then r (λ a. get_locals >>= (λ later. put_locals (drop 1 later) >> pure a))) (decided (test (labels_of b)) (does (body_of b)) rest (push t) (is_among i (labels_of b)) (test_is (labels_of b) labels.1 t)) ∙
          picks (is_among i (labels_of b)) (body_of b) rest (chosen i (map (choice does) bs) (does e)) lacks'.0 t (ifs_choose bs e ours.1 lacks'.1 last t)

    module _ (is : label_of k stage values kind w ≡ None) where
      equals_wrong : (l : ℤ) → is_label kind l ≡ true → (t : State V) → does (equals at kind x l) d (push t) ≡ Stops (Ends (Wrong at)) (stopped t)
      equals_wrong l ok t = equals_does l t ∙ keys_wrong k stage values known.sees at (push t) kind w l ok is

      test_wrong : (ls : List ℤ) → nat_lt 0 (length ls) ≡ true → list_all (is_label kind) ls ≡ true → (t : State V) → test ls d (push t) ≡ Stops (Ends (Wrong at)) (stopped t)
      test_wrong [] some ok t = absurd (false≢true some)
      test_wrong (l ∷ []) some ok t = equals_wrong l (and_parts (is_label kind l) true ok).0 t
      test_wrong (l ∷ m ∷ ls) some ok t =
          ap (λ (n : Meaning V). n d (push t)) (known.ifs at (equals at kind x l) (expr_at at (v.Constant (constants.Boolean true))) (is_one at kind x (m ∷ ls))) ∙
          halts (does (equals at kind x l)) (does (expr_at at (v.Constant (constants.Boolean true)))) (test (m ∷ ls)) (push t) (stopped t) (Ends (Wrong at)) (equals_wrong l (and_parts (is_label kind l) (list_all (is_label kind) (m ∷ ls)) ok).0 t)

      ifs_wrong : (bs : List Labelled) (e : Expr) → nat_lt 0 (length bs) ≡ true → list_all (is_branch kind) bs ≡ true → (t : State V) → binding x w (does (branches.ifs at kind x bs e) d) t ≡ Stops (Ends (Wrong at)) (stopped t)
      ifs_wrong [] e some ok t = absurd (false≢true some)
      ifs_wrong (b ∷ bs) e some ok t =
          let ours = and_parts (is_branch kind b) (list_all (is_branch kind) bs) ok in
          let labels = and_parts (nat_lt 0 (length (labels_of b))) (list_all (is_label kind) (labels_of b)) ours.0 in
          let rest = does (branches.ifs at kind x bs e) in
          ap (λ (m : Meaning V). binding x w (m d) t) (known.ifs at (is_one at kind x (labels_of b)) (body_of b) (branches.ifs at kind x bs e)) ∙
          ap (λ r. and_then r (λ a. get_locals >>= (λ later. put_locals (drop 1 later) >> pure a))) (halts (test (labels_of b)) (does (body_of b)) rest (push t) (stopped t) (Ends (Wrong at)) (test_wrong (labels_of b) labels.0 labels.1 t))

  -- ---- a case

  module _ (does : Expr → Meaning V) (known : Does does) (at : Place) (kind : CaseKind) (a : Expr) (bs : List Labelled) (e : Expr)
      (right : are_branches kind bs ≡ true) (hidden : IsHidden k x bs e) (d : ℕ) where
    some_branch : nat_lt 0 (length bs) ≡ true
    some_branch = (and_parts (nat_lt 0 (length bs)) _ right).0

    each_branch : list_all (is_branch kind) bs ≡ true
    each_branch = (and_parts (list_all (is_branch kind) bs) _ (and_parts (nat_lt 0 (length bs)) _ right).1).0

    -- what follows the key
    follows : (w : V) (t : State V) (o : Option ℤ) → label_of k stage values kind w ≡ o
        → (or_wrong at o >>= (λ i. chosen i (map (choice does) bs) (does e) d)) t ≡ binding x w (does (branches.ifs at kind x bs e) d) t
    follows w t None is = sym (ifs_wrong does known at kind w d is bs e some_branch each_branch t)
    follows w t (Some i) is = sym (ifs_choose does known at kind w d i is bs e each_branch hidden.branches hidden.last t)

    pub case_does : (s : State V) → does (expr_at at (v.Case kind a bs e)) d s ≡ does (unfolded at kind x a bs e) d s
    case_does s =
        ap (λ (m : Meaning V). m d s) (known.cases at kind a bs e) ∙
        then_same (does a d) (λ w. or_wrong at (label_of k stage values kind w) >>= (λ i. chosen i (map (choice does) bs) (does e) d)) (λ w. binding x w (does (branches.ifs at kind x bs e) d)) s (λ w t. follows w t (label_of k stage values kind w) refl) ∙
        ap (λ (m : Meaning V). m d s) (sym (known.lets at a (branches.ifs at kind x bs e)))

-- ---- run time

module _ (k : Kernel) (n : ℕ) where
  abbrev run_does : Expr → RunMeaning
  run_does = run k (run_enters k n)

  abbrev run_kind : ExprKind → Place → RunMeaning
  run_kind = fold-ExprKind (Place → RunMeaning) RunMeaning (Choice RunValue) (run_node k (run_enters k n)) (λ e. e.kind e.place) (λ b. record { labels = b.labels; does = b.body })

  run_by : (at : Place) (y : ExprKind) (m : Place → RunMeaning) → run_kind y ≡ m → run_does (expr_at at y) ≡ m at
  run_by at y m is =
      fold-expr (run_node k (run_enters k n)) (λ e. e.kind e.place) (λ b. record { labels = b.labels; does = b.body }) at y ∙ ap (λ (g : Place → RunMeaning). g at) is

  run_choices : (bs : List Labelled) → map (fold-Labelled (Place → RunMeaning) RunMeaning (Choice RunValue) (run_node k (run_enters k n)) (λ e. e.kind e.place) (λ b. record { labels = b.labels; does = b.body })) bs ≡ map (choice k AtRun run_values 0 run_does) bs
  run_choices [] = refl
  run_choices (b ∷ bs) =
      ap (λ c. c ∷ map (fold-Labelled (Place → RunMeaning) RunMeaning (Choice RunValue) (run_node k (run_enters k n)) (λ e. e.kind e.place) (λ b. record { labels = b.labels; does = b.body })) bs)
      (fold-branch (run_node k (run_enters k n)) (λ e. e.kind e.place) (λ b. record { labels = b.labels; does = b.body }) b) ∙ ap (λ cs. choice k AtRun run_values 0 run_does b ∷ cs) (run_choices bs)

  run_label : (at : Place) (kind : CaseKind) (l : ℤ) → run_does (expr_at at (v.Constant (constant_of kind l))) ≡ (λ d. pure (Plain (label_value kind l)))
  run_label at kinds.Integer l = run_by at (v.Constant (constants.Integer l)) _ (fold-constant (run_node k (run_enters k n)) (λ e. e.kind e.place) (λ b. record { labels = b.labels; does = b.body }) (constants.Integer l))
  run_label at kinds.Char l = run_by at (v.Constant (constants.Char (nat_abs l))) _ (fold-constant (run_node k (run_enters k n)) (λ e. e.kind e.place) (λ b. record { labels = b.labels; does = b.body }) (constants.Char (nat_abs l)))

  run_known : (x : ℕ) → Does k AtRun run_values x run_does
  run_known x = record {
    sees = λ u. ap seen_of (outs-Plain u);
    lets = λ at a b. run_by at (v.Let x a b) _ (fold-let (run_node k (run_enters k n)) (λ e. e.kind e.place) (λ b. record { labels = b.labels; does = b.body }) x a b);
    ifs = λ at a b c. run_by at (v.If a b c) _ (fold-if (run_node k (run_enters k n)) (λ e. e.kind e.place) (λ b. record { labels = b.labels; does = b.body }) a b c);
    cases = λ at kind a bs e. run_by at (v.Case kind a bs e) _ (fold-case (run_node k (run_enters k n)) (λ e. e.kind e.place) (λ b. record { labels = b.labels; does = b.body }) kind a bs e) ∙ ap (λ cs. case_of k AtRun run_values at kind (run_does a) cs (run_does e)) (run_choices bs);
    compares = λ at p a b. run_by at (v.Primitive p (a ∷ b ∷ [])) _ (fold-primitive (run_node k (run_enters k n)) (λ e. e.kind e.place) (λ b. record { labels = b.labels; does = b.body }) p (a ∷ b ∷ []));
    local = λ at. run_by at (v.Local x) _ (fold-local (run_node k (run_enters k n)) (λ e. e.kind e.place) (λ b. record { labels = b.labels; does = b.body }) x);
    boolean = λ at b. run_by at (v.Constant (constants.Boolean b)) _ (fold-constant (run_node k (run_enters k n)) (λ e. e.kind e.place) (λ b. record { labels = b.labels; does = b.body }) (constants.Boolean b));
    label = run_label;
    stays = λ w e h d. (run_stays k x w (run_enters k n) (run_enters_hidden k x w n) e h).by d;
  }

-- ---- compile time

module _ (k : Kernel) (n : ℕ) where
  abbrev compile_does : Expr → CompileMeaning
  compile_does = compile k (compile_enters k n)

  abbrev part_kind : ExprKind → Place → Part
  part_kind = fold-ExprKind (Place → Part) Part (Choice Value) (compile_node k (compile_enters k n)) (λ e. e.kind e.place) (λ b. record { labels = b.labels; does = b.body.does })

  compile_by : (at : Place) (y : ExprKind) (m : Place → Part) → part_kind y ≡ m → compile_does (expr_at at y) ≡ (m at).does
  compile_by at y m is =
      ap (λ (p : Part). p.does) (fold-expr (compile_node k (compile_enters k n)) (λ e. e.kind e.place) (λ b. record { labels = b.labels; does = b.body.does }) at y) ∙ ap (λ (g : Place → Part). (g at).does) is

  compile_choices : (bs : List Labelled) → map (fold-Labelled (Place → Part) Part (Choice Value) (compile_node k (compile_enters k n)) (λ e. e.kind e.place) (λ b. record { labels = b.labels; does = b.body.does })) bs ≡ map (choice k Compile first_order 0 compile_does) bs
  compile_choices [] = refl
  compile_choices (b ∷ bs) =
      ap (λ c. c ∷ map (fold-Labelled (Place → Part) Part (Choice Value) (compile_node k (compile_enters k n)) (λ e. e.kind e.place) (λ b. record { labels = b.labels; does = b.body.does })) bs)
      (fold-branch (compile_node k (compile_enters k n)) (λ e. e.kind e.place) (λ b. record { labels = b.labels; does = b.body.does }) b) ∙ ap (λ cs. choice k Compile first_order 0 compile_does b ∷ cs) (compile_choices bs)

  compile_label : (at : Place) (kind : CaseKind) (l : ℤ) → compile_does (expr_at at (v.Constant (constant_of kind l))) ≡ (λ d. pure (label_value kind l))
  compile_label at kinds.Integer l = compile_by at (v.Constant (constants.Integer l)) _ (fold-constant (compile_node k (compile_enters k n)) (λ e. e.kind e.place) (λ b. record { labels = b.labels; does = b.body.does }) (constants.Integer l))
  compile_label at kinds.Char l = compile_by at (v.Constant (constants.Char (nat_abs l))) _ (fold-constant (compile_node k (compile_enters k n)) (λ e. e.kind e.place) (λ b. record { labels = b.labels; does = b.body.does }) (constants.Char (nat_abs l)))

  compile_known : (x : ℕ) → entry_of k x ≡ None → Does k Compile first_order x compile_does
  compile_known x free = record {
    sees = λ u. refl;
    lets = λ at a b. compile_by at (v.Let x a b) _ (fold-let (compile_node k (compile_enters k n)) (λ e. e.kind e.place) (λ b. record { labels = b.labels; does = b.body.does }) x a b);
    ifs = λ at a b c. compile_by at (v.If a b c) _ (fold-if (compile_node k (compile_enters k n)) (λ e. e.kind e.place) (λ b. record { labels = b.labels; does = b.body.does }) a b c);
    cases = λ at kind a bs e. compile_by at (v.Case kind a bs e) _ (fold-case (compile_node k (compile_enters k n)) (λ e. e.kind e.place) (λ b. record { labels = b.labels; does = b.body.does }) kind a bs e) ∙ ap (λ cs. case_of k Compile first_order at kind (compile_does a) cs (compile_does e)) (compile_choices bs);
    compares = λ at p a b. compile_by at (v.Primitive p (a ∷ b ∷ [])) _ (fold-primitive (compile_node k (compile_enters k n)) (λ e. e.kind e.place) (λ b. record { labels = b.labels; does = b.body.does }) p (a ∷ b ∷ []));
    local = λ at. compile_by at (v.Local x) _ (fold-local (compile_node k (compile_enters k n)) (λ e. e.kind e.place) (λ b. record { labels = b.labels; does = b.body.does }) x) ∙
        ap (λ o. unless k (is_some (option_map (λ (e : GroupEntry). e.lambda) o)) at (λ d. local at x)) free;
    boolean = λ at b. compile_by at (v.Constant (constants.Boolean b)) _ (fold-constant (compile_node k (compile_enters k n)) (λ e. e.kind e.place) (λ b. record { labels = b.labels; does = b.body.does }) (constants.Boolean b));
    label = compile_label;
    stays = λ w e h d. (compile_stays k x w (compile_enters k n) (compile_enters_hidden k x w n) e h).by d;
  }

pub cases_do : CasesDoWhatTheyUnfoldTo
cases_do k at kind x a bs e right hidden = (
  λ n d s. case_does k AtRun run_values x (run_does k n) (run_known k n x) at kind a bs e right hidden d s,
  λ n d s. case_does k Compile first_order x (compile_does k n) (compile_known k n x hidden.no_entry) at kind a bs e right hidden d s,
)
