-- The entries of the text of an expression, by those of its parts.
-- For: the functions of `texts`
use Rattle.std.proofs.Common.{◌≡◌, ◌≢◌, ℕ, ℤ, zero, suc, ◌+◌, ◌-◌, ◌<◌, ◌==◌, Bool, true, false, List, [], ◌∷◌, ◌++◌, length, map, take, get_or, Some, None, refl, sym, ap, subst, ◌∙◌, append_assoc, append-nil, arith}
use Rattle.std.specs.Prelude.{slice_get, if◌then◌else◌}
use Rattle.std.specs.List.{flat_map}
use Rattle.ps_base.specs.declared.faults.Place.{Place}
use Rattle.ps_base.specs.declared.language.PrimName.{PrimName}
use Rattle.ps_kernel.specs.declared.expr.CaseKind.{CaseKind}
use Rattle.ps_kernel.specs.declared.expr.Constant.{Constant}
use Rattle.ps_kernel.specs.declared.expr.Constant.TheVariants as c
use Rattle.ps_kernel.specs.declared.expr.Expr.{Expr, out-Expr}
use Rattle.ps_kernel.specs.declared.expr.ExprKind.{ExprKind, out-ExprKind}
use Rattle.ps_kernel.specs.declared.expr.ExprKind.TheOpen.{ExprKind-F}
use Rattle.ps_kernel.specs.declared.expr.ExprKind.TheVariants as v
use Rattle.ps_kernel.specs.declared.expr.GroupEntry.{GroupEntry}
use Rattle.ps_kernel.specs.declared.expr.Labelled.{Labelled}
use Rattle.ps_kernel.specs.declared.kernel.Form.{Form}
use Rattle.ps_kernel.specs.declared.kernel.Kernel.{Kernel}
use Rattle.ps_kernel.specs.declared.kernel.Lambda.{Lambda}
use Rattle.ps_kernel.specs.Marks.{Mark, Node, TooDeep, Stands, BindsParameter, BindsLet, BindsEntry, Mentions, Sets, Reads, Assigns, Quotes, Sequence, Replaces, Performs, Chooses, Whole, Same, Atom, body_of, labels_of, choice_of, test_of, marks, constant_marks, part_marks, sequence_marks, body_marks, lambda_marks, group_marks, kind_marks}
use Rattle.ps_kernel.specs.Most.{most_depth}
use Rattle.ps_kernel.specs.Texts.{entry_in, entry_of, expr_of, form_marks, text}
use Rattle.ps_static_tables.specs.InsideTexts.{told, entry_among, Adds, Tells, TellsEach, TellsBranches, TellsLambda, TellsGroup}
use Rattle.ps_static_tables.proofs.Lists.{take_more}

-- ---- marks

told_append : (ms ns : List Mark) → told (ms ++ ns) ≡ told ms ++ told ns
told_append [] ns = refl
told_append (Node at ∷ ms) ns = told_append ms ns
told_append (TooDeep ∷ ms) ns = told_append ms ns
told_append (Stands n g ∷ ms) ns = told_append ms ns
told_append (BindsParameter x ∷ ms) ns = told_append ms ns
told_append (BindsLet x ∷ ms) ns = told_append ms ns
told_append (BindsEntry e ∷ ms) ns = ap (λ z. e ∷ z) (told_append ms ns)
told_append (Mentions x scope ∷ ms) ns = told_append ms ns
told_append (Sets x scope ∷ ms) ns = told_append ms ns
told_append (Reads at g ∷ ms) ns = told_append ms ns
told_append (Assigns at g ∷ ms) ns = told_append ms ns
told_append (Quotes at q ∷ ms) ns = told_append ms ns
told_append (Sequence n ∷ ms) ns = told_append ms ns
told_append (Replaces tail ∷ ms) ns = told_append ms ns
told_append (Performs at p n ∷ ms) ns = told_append ms ns
told_append (Chooses kind bs ∷ ms) ns = told_append ms ns

entry_told : (x : ℕ) (ms : List Mark) → entry_among x (told ms) ≡ entry_in x ms
entry_told x [] = refl
entry_told x (Node at ∷ ms) = entry_told x ms
entry_told x (TooDeep ∷ ms) = entry_told x ms
entry_told x (Stands n g ∷ ms) = entry_told x ms
entry_told x (BindsParameter y ∷ ms) = entry_told x ms
entry_told x (BindsLet y ∷ ms) = entry_told x ms
entry_told x (BindsEntry e ∷ ms) = ap (λ z. if x == e.local then Some e else z) (entry_told x ms)
entry_told x (Mentions y scope ∷ ms) = entry_told x ms
entry_told x (Sets y scope ∷ ms) = entry_told x ms
entry_told x (Reads at g ∷ ms) = entry_told x ms
entry_told x (Assigns at g ∷ ms) = entry_told x ms
entry_told x (Quotes at q ∷ ms) = entry_told x ms
entry_told x (Sequence n ∷ ms) = entry_told x ms
entry_told x (Replaces tail ∷ ms) = entry_told x ms
entry_told x (Performs at p n ∷ ms) = entry_told x ms
entry_told x (Chooses kind bs ∷ ms) = entry_told x ms

pub entry_is_told : (k : Kernel) (x : ℕ) → entry_among x (told (text k)) ≡ entry_of k x
unfolding entry_of
entry_is_told k x = entry_told x (text k)

-- ---- what is added

adds_then : (a b : List Mark) (old mid new : List GroupEntry) → Adds a old mid → Adds b mid new → Adds (a ++ b) old new
adds_then a b old mid new first second =
    second ∙ ap (λ z. z ++ told b) first ∙ append_assoc old (told a) (told b) ∙ ap (λ z. old ++ z) (sym (told_append a b))

silent_append : (a b : List Mark) → told a ≡ [] → told b ≡ [] → told (a ++ b) ≡ []
silent_append a b first second = told_append a b ∙ ap (λ z. z ++ told b) first ∙ second

adds_silent : (a b : List Mark) (old new : List GroupEntry) → told a ≡ [] → Adds b old new → Adds (a ++ b) old new
adds_silent a b old new silent h = h ∙ ap (λ z. old ++ (z ++ told b)) (sym silent) ∙ ap (λ z. old ++ z) (sym (told_append a b))

parameters_silent : (xs : List ℕ) → told (map BindsParameter xs) ≡ []
parameters_silent [] = refl
parameters_silent (x ∷ xs) = parameters_silent xs

entries_told : (g : List GroupEntry) → told (map BindsEntry g) ≡ g
entries_told [] = refl
entries_told (e ∷ g) = ap (λ z. e ∷ z) (entries_told g)

constant_silent : (at : Place) (x : Constant) → told (constant_marks at x) ≡ []
constant_silent at (c.Integer i) = refl
constant_silent at (c.Boolean b) = refl
constant_silent at (c.Char b) = refl
constant_silent at c.Unit = refl
constant_silent at c.NullAddress = refl
constant_silent at (c.Quoted q) = refl

flat_append : {X A : Type 0} (f : X → List A) (xs : List X) (x : X) → flat_map f (xs ++ x ∷ []) ≡ flat_map f xs ++ f x
flat_append f [] x = append-nil (f x)
flat_append f (y ∷ ys) x = ap (λ z. f y ++ z) (flat_append f ys x) ∙ sym (append_assoc (f y) (flat_map f ys) (f x))

flat_more : {X A : Type 0} (f : X → List A) (xs : List X) (i : ℕ) (x : X) → i < length xs → x ≡ get_or xs i x → flat_map f (take (i + 1) xs) ≡ flat_map f (take i xs) ++ f x
flat_more f xs i x lt is = ap (flat_map f) (take_more xs i x lt ∙ ap (λ z. take i xs ++ z ∷ []) (sym is)) ∙ flat_append f (take i xs) x

-- ---- the tests of branches name nothing

module _ (k : Kernel) where
  atom_silent : (n : ℕ) (tail : Bool) (scope : List ℕ) (at : Place) → told (marks k n tail scope (Atom at)) ≡ []
  unfolding marks
  atom_silent zero tail scope at = refl
  atom_silent (suc n) tail scope at = refl

  same_silent : (n : ℕ) (tail : Bool) (scope : List ℕ) (at : Place) → told (marks k n tail scope (Same at)) ≡ []
  unfolding marks
  same_silent zero tail scope at = refl
  same_silent (suc n) tail scope at = silent_append (marks k n false scope (Atom at)) (marks k n false scope (Atom at)) (atom_silent n false scope at) (atom_silent n false scope at)

  test_silent : (n : ℕ) (tail : Bool) (scope : List ℕ) (at : Place) (ls : List ℤ) → told (marks k n tail scope (test_of at ls)) ≡ []
  unfolding marks
  test_silent zero tail scope at ls = refl
  test_silent (suc n) tail scope at [] = refl
  test_silent (suc n) tail scope at (l ∷ []) = same_silent (suc n) tail scope at
  test_silent (suc n) tail scope at (l ∷ m ∷ ls) =
      silent_append (marks k n false scope (Same at)) (marks k n tail scope (Atom at) ++ marks k n tail scope (test_of at (m ∷ ls))) (same_silent n false scope at)
      (silent_append (marks k n tail scope (Atom at)) (marks k n tail scope (test_of at (m ∷ ls))) (atom_silent n tail scope at) (test_silent n tail scope at (m ∷ ls)))

  -- ---- levels

  pub no_levels : (n : ℕ) (e : Expr) (old : List GroupEntry) → n ≡ 0 → Tells k n e old old
  unfolding marks
  no_levels zero e old is = λ tail scope. sym (append-nil old)
  no_levels (suc n) e old is = absurd (omega (arith, is))

  level : (n : ℕ) (tail : Bool) (scope : List ℕ) (e : Expr) (y : ExprKind-F ExprKind Expr Labelled) → n ≢ 0 → out-ExprKind (out-Expr e).kind ≡ y
      → told (marks k n tail scope (Whole e)) ≡ told (kind_marks k (marks k (n - 1)) tail scope (out-Expr e).place y)
  unfolding marks
  level zero tail scope e y some is = absurd (some refl)
  level (suc n) tail scope e y some is =
      let less : suc n - 1 ≡ n = omega arith in
      ap (λ z. told (kind_marks k (marks k n) tail scope (out-Expr e).place z)) is
      ∙ ap (λ n. told (kind_marks k (marks k n) tail scope (out-Expr e).place y)) (sym less)

  -- ---- lists of parts

  each_parts : (n : ℕ) (es : List Expr) (old new : List GroupEntry) (scope : List ℕ) → TellsEach k n es old new → Adds (part_marks (marks k n) scope es) old new
  each_parts n [] old new scope h = h ∙ sym (append-nil old)
  each_parts n (e ∷ es) old new scope h =
      adds_then (marks k n false scope (Whole e)) (part_marks (marks k n) scope es) old h.0 new (h.1 false scope) (each_parts n es h.0 new scope h.2)

  each_sequence : (n : ℕ) (es : List Expr) (old new : List GroupEntry) (tail : Bool) (scope : List ℕ) → TellsEach k n es old new → Adds (sequence_marks (marks k n) tail scope es) old new
  each_sequence n [] old new tail scope h = h ∙ sym (append-nil old)
  each_sequence n (e ∷ []) old new tail scope h = h.2 ∙ h.1 tail scope
  each_sequence n (e ∷ f ∷ es) old new tail scope h =
      adds_then (marks k n false scope (Whole e)) (sequence_marks (marks k n) tail scope (f ∷ es)) old h.0 new (h.1 false scope) (each_sequence n (f ∷ es) h.0 new tail scope h.2)

  each_snoc : (n : ℕ) (es : List Expr) (e : Expr) (old mid new : List GroupEntry) → TellsEach k n es old mid → Tells k n e mid new → TellsEach k n (es ++ e ∷ []) old new
  each_snoc n [] e old mid new h t = (new, subst (λ z. Tells k n e z new) h t, refl)
  each_snoc n (x ∷ es) e old mid new h t = (h.0, h.1, each_snoc n es e h.0 mid new h.2 t)

  pub each_more : (n : ℕ) (es : List Expr) (i : ℕ) (e : Expr) (old mid new : List GroupEntry) → i < length es → e ≡ get_or es i e
      → TellsEach k n (take i es) old mid → Tells k n e mid new → TellsEach k n (take (i + 1) es) old new
  each_more n es i e old mid new lt is h t =
      subst (λ z. TellsEach k n z old new) (sym (take_more es i e lt ∙ ap (λ z. take i es ++ z ∷ []) (sym is))) (each_snoc n (take i es) e old mid new h t)

  pub group_more : (n : ℕ) (g es : List GroupEntry) (i : ℕ) (e : GroupEntry) (old mid new : List GroupEntry) → i < length es → e ≡ get_or es i e
      → TellsGroup k n g (take i es) old mid → TellsLambda k n g e.lambda mid new → TellsGroup k n g (take (i + 1) es) old new
  group_more n g es i e old mid new lt is h t =
      λ scope.
      let F : GroupEntry → List Mark = λ (x : GroupEntry). lambda_marks k (marks k n) scope g x.lambda in
      subst (λ z. Adds z old new) (sym (flat_more F es i e lt is)) (adds_then (flat_map F (take i es)) (F e) old mid new (h scope) (t scope))

  -- ---- lambdas and branches

  pub lambda_missing : (n : ℕ) (g : List GroupEntry) (l : ℕ) (old new : List GroupEntry) → slice_get k.lambdas l ≡ None → new ≡ old → TellsLambda k n g l old new
  lambda_missing n g l old new is pushed = λ scope. pushed ∙ sym (append-nil old) ∙ ap (λ o. old ++ told (Stands l g ∷ body_marks (marks k n) scope o)) (sym is)

  pub lambda_there : (n : ℕ) (g : List GroupEntry) (l : ℕ) (m : Lambda) (old mid new : List GroupEntry) → slice_get k.lambdas l ≡ Some m → mid ≡ old → Tells k n m.body mid new
      → TellsLambda k n g l old new
  lambda_there n g l m old mid new is pushed h =
      λ scope.
      subst (λ o. Adds (Stands l g ∷ body_marks (marks k n) scope o) old new) (sym is)
      (adds_then (Stands l g ∷ []) (body_marks (marks k n) scope (Some m)) old mid new (pushed ∙ sym (append-nil old))
      (adds_silent (map BindsParameter m.parameters) (marks k n true (m.parameters ++ scope) (Whole m.body)) mid new (parameters_silent m.parameters) (h true (m.parameters ++ scope))))

  pub branches_over : (n : ℕ) (bs : List Labelled) (e : Expr) (old new : List GroupEntry) → bs ≡ [] → Tells k n e old new → TellsBranches k n bs e old new
  branches_over n bs e old new is h = λ at tail scope. subst (λ z. Adds (marks k n tail scope (choice_of at z e)) old new) (sym is) (h tail scope)

  pub branches_deep : (n : ℕ) (bs : List Labelled) (e : Expr) (old : List GroupEntry) → n ≡ 0 → TellsBranches k n bs e old old
  unfolding marks
  branches_deep zero bs e old is = λ at tail scope. sym (append-nil old)
  branches_deep (suc n) bs e old is = absurd (omega (arith, is))

  branches_level : (n : ℕ) (b : Labelled) (bs : List Labelled) (e : Expr) (old mid new : List GroupEntry) → Tells k n (body_of b) old mid → TellsBranches k n bs e mid new → TellsBranches k (suc n) (b ∷ bs) e old new
  unfolding marks
  branches_level n b bs e old mid new first others =
      λ at tail scope.
      adds_silent (marks k n false scope (test_of at (labels_of b))) (marks k n tail scope (Whole (body_of b)) ++ marks k n tail scope (choice_of at bs e)) old new (test_silent n false scope at (labels_of b))
      (adds_then (marks k n tail scope (Whole (body_of b))) (marks k n tail scope (choice_of at bs e)) old mid new (first tail scope) (others at tail scope))

  pub branches_more : (n : ℕ) (all : List Labelled) (b : Labelled) (bs : List Labelled) (e : Expr) (old mid new : List GroupEntry) → n ≢ 0 → all ≡ b ∷ bs
      → Tells k (n - 1) (body_of b) old mid → TellsBranches k (n - 1) bs e mid new → TellsBranches k n all e old new
  branches_more zero all b bs e old mid new some is first others = absurd (some refl)
  branches_more (suc n) all b bs e old mid new some is first others =
      let less : suc n - 1 ≡ n = omega arith in
      subst (λ z. TellsBranches k (suc n) z e old new) (sym is)
      (branches_level n b bs e old mid new (subst (λ (m : ℕ). Tells k m (body_of b) old mid) less first) (subst (λ (m : ℕ). TellsBranches k m bs e mid new) less others))

  -- ---- an expression

  module _ (n : ℕ) (e : Expr) (old : List GroupEntry) (some : n ≢ 0) where
    adds : (x : ExprKind) (y : ExprKind-F ExprKind Expr Labelled) (new : List GroupEntry) → e.kind ≡ x → out-ExprKind x ≡ y
        → ((tail : Bool) (scope : List ℕ) → Adds (kind_marks k (marks k (n - 1)) tail scope (out-Expr e).place y) old new) → Tells k n e old new
    adds x y new is outs h = λ tail scope. h tail scope ∙ ap (λ z. old ++ z) (sym (level n tail scope e y some (ap out-ExprKind is ∙ outs)))

    pub tells_constant : (x : Constant) → e.kind ≡ v.Constant x → Tells k n e old old
    tells_constant x is = adds _ _ old is (v.outs-Constant x) (λ tail scope. sym (append-nil old) ∙ ap (λ z. old ++ z) (sym (constant_silent (out-Expr e).place x)))

    pub tells_local : (x : ℕ) → e.kind ≡ v.Local x → Tells k n e old old
    tells_local x is = adds _ _ old is (v.outs-Local x) (λ tail scope. sym (append-nil old))

    pub tells_global : (g : ℕ) → e.kind ≡ v.Global g → Tells k n e old old
    tells_global g is = adds _ _ old is (v.outs-Global g) (λ tail scope. sym (append-nil old))

    pub tells_lambda : (l : ℕ) (g : List GroupEntry) (new : List GroupEntry) → e.kind ≡ v.Lambda l → g ≡ [] → TellsLambda k (n - 1) g l old new → Tells k n e old new
    tells_lambda l g new is alone h = adds _ _ new is (v.outs-Lambda l) (λ tail scope. subst (λ z. TellsLambda k (n - 1) z l old new) alone h scope)

    pub tells_if : (a b c : Expr) (x y new : List GroupEntry) → e.kind ≡ v.If a b c → Tells k (n - 1) a old x → Tells k (n - 1) b x y → Tells k (n - 1) c y new → Tells k n e old new
    tells_if a b c x y new is p q r =
        adds _ _ new is (v.outs-If a b c) (λ tail scope.
        adds_then (marks k (n - 1) false scope (Whole a)) (marks k (n - 1) tail scope (Whole b) ++ marks k (n - 1) tail scope (Whole c)) old x new (p false scope)
        (adds_then (marks k (n - 1) tail scope (Whole b)) (marks k (n - 1) tail scope (Whole c)) x y new (q tail scope) (r tail scope)))

    pub tells_let : (l : ℕ) (a b : Expr) (x new : List GroupEntry) → e.kind ≡ v.Let l a b → Tells k (n - 1) a old x → Tells k (n - 1) b x new → Tells k n e old new
    tells_let l a b x new is p q =
        adds _ _ new is (v.outs-Let l a b) (λ tail scope.
        adds_then (marks k (n - 1) false scope (Whole a)) (BindsLet l ∷ marks k (n - 1) tail (l ∷ scope) (Whole b)) old x new (p false scope) (q tail (l ∷ scope)))

    pub tells_letrec : (g : List GroupEntry) (b : Expr) (x y new : List GroupEntry) → e.kind ≡ v.Letrec g b → x ≡ old ++ g → TellsGroup k (n - 1) g g x y → Tells k (n - 1) b y new → Tells k n e old new
    tells_letrec g b x y new is pushed p q =
        adds _ _ new is (v.outs-Letrec g b) (λ tail scope.
        let inside : List ℕ = map (λ (y : GroupEntry). y.local) g ++ scope in
        adds_then (map BindsEntry g) (group_marks k (marks k (n - 1)) inside g g ++ marks k (n - 1) tail inside (Whole b)) old x new (pushed ∙ ap (λ z. old ++ z) (sym (entries_told g)))
        (adds_then (group_marks k (marks k (n - 1)) inside g g) (marks k (n - 1) tail inside (Whole b)) x y new (p inside) (q tail inside)))

    pub tells_begin : (es : List Expr) (new : List GroupEntry) → e.kind ≡ v.Begin es → TellsEach k (n - 1) es old new → Tells k n e old new
    tells_begin es new is h = adds _ _ new is (v.outs-Begin es) (λ tail scope. each_sequence (n - 1) es old new tail scope h)

    pub tells_set : (g : ℕ) (a : Expr) (new : List GroupEntry) → e.kind ≡ v.SetGlobal g a → Tells k (n - 1) a old new → Tells k n e old new
    tells_set g a new is h = adds _ _ new is (v.outs-SetGlobal g a) (λ tail scope. h false scope)

    pub tells_put : (l : ℕ) (a : Expr) (new : List GroupEntry) → e.kind ≡ v.SetLocal l a → Tells k (n - 1) a old new → Tells k n e old new
    tells_put l a new is h = adds _ _ new is (v.outs-SetLocal l a) (λ tail scope. h false scope)

    pub tells_case : (kind : CaseKind) (a : Expr) (bs : List Labelled) (l : Expr) (x new : List GroupEntry) → e.kind ≡ v.Case kind a bs l → Tells k (n - 1) a old x → TellsBranches k (n - 1) bs l x new → Tells k n e old new
    tells_case kind a bs l x new is p q =
        adds _ _ new is (v.outs-Case kind a bs l) (λ tail scope.
        adds_then (marks k (n - 1) false scope (Whole a)) (marks k (n - 1) tail scope (choice_of (out-Expr e).place bs l)) old x new (p false scope) (q (out-Expr e).place tail scope))

    pub tells_call : (f : Expr) (es : List Expr) (x new : List GroupEntry) → e.kind ≡ v.Call f es → Tells k (n - 1) f old x → TellsEach k (n - 1) es x new → Tells k n e old new
    tells_call f es x new is p q =
        adds _ _ new is (v.outs-Call f es) (λ tail scope.
        adds_then (marks k (n - 1) false scope (Whole f)) (part_marks (marks k (n - 1)) scope es) old x new (p false scope) (each_parts (n - 1) es x new scope q))

    pub tells_proper : (f : Expr) (es : List Expr) (x new : List GroupEntry) → e.kind ≡ v.ProperCall f es → Tells k (n - 1) f old x → TellsEach k (n - 1) es x new → Tells k n e old new
    tells_proper f es x new is p q =
        adds _ _ new is (v.outs-ProperCall f es) (λ tail scope.
        adds_then (marks k (n - 1) false scope (Whole f)) (part_marks (marks k (n - 1)) scope es) old x new (p false scope) (each_parts (n - 1) es x new scope q))

    pub tells_primitive : (p : PrimName) (es : List Expr) (new : List GroupEntry) → e.kind ≡ v.Primitive p es → TellsEach k (n - 1) es old new → Tells k n e old new
    tells_primitive p es new is h = adds _ _ new is (v.outs-Primitive p es) (λ tail scope. each_parts (n - 1) es old new scope h)

  -- ---- texts

  pub form_more : (fs : List Form) (i : ℕ) (f : Form) (x : Expr) (old new : List GroupEntry) → i < length fs → f ≡ get_or fs i f → x ≡ expr_of f
      → old ≡ told (form_marks k most_depth (take i fs)) → Tells k most_depth x old new → new ≡ told (form_marks k most_depth (take (i + 1) fs))
  form_more fs i f x old new lt is of so_far h =
      let F : Form → List Mark = λ (g : Form). marks k most_depth false [] (Whole (expr_of g)) in
      h false []
      ∙ ap (λ z. z ++ told (marks k most_depth false [] (Whole x))) so_far
      ∙ ap (λ z. told (flat_map F (take i fs)) ++ told (marks k most_depth false [] (Whole z))) of
      ∙ sym (told_append (flat_map F (take i fs)) (F f))
      ∙ ap told (sym (flat_more F fs i f lt is))

  pub whole_text : (fs : List Form) (ts : List GroupEntry) → fs ≡ k.forms → ts ≡ told (form_marks k most_depth fs) → ts ≡ told (text k)
  unfolding text
  whole_text fs ts is h = h ∙ ap (λ z. told (form_marks k most_depth z)) is
