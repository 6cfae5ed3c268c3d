-- Where a lambda is reached, so is each lambda of its group: they all stand at one letrec.
-- For: `survivors_run_alike`
use Rattle.std.proofs.Common.{◌≡◌, ℕ, List, [], ◌∷◌, ◌++◌, map, Bool, true, false, Option, Some, None, refl, sym, ap, ◌∙◌, subst, inl, inr, ⊎_elim}
use Rattle.std.specs.Prelude.{◌&&◌, ◌==◌, slice_get, if◌then◌else◌, filter}
use Rattle.std.specs.List.{list_all}
use Rattle.ps_base.proofs.Choices.{and_left, and_rest, and_both}
use Rattle.ps_base.specs.declared.faults.Place.{Place}
use Rattle.byte_store.specs.declared.pointer.Base.TheVariants.{Fixed, Made}
use Rattle.byte_store.specs.declared.pointer.Pointer.{Pointer}
use Rattle.byte_store.specs.declared.pointer.Pointer.TheVariants.{Null, At}
use Rattle.byte_store.specs.declared.pointer.Value.{Value}
use Rattle.byte_store.specs.declared.pointer.Value.TheVariants as value
use Rattle.byte_store.specs.Blocks.{Block, Bytes, Cells, Freed, find}
use Rattle.ps_kernel.specs.declared.expr.Constant.{Constant}
use Rattle.ps_kernel.specs.declared.expr.Constant.TheVariants as constants
use Rattle.ps_kernel.specs.declared.expr.GroupEntry.{GroupEntry}
use Rattle.ps_kernel.specs.declared.expr.Expr.{Expr}
use Rattle.ps_kernel.specs.declared.expr.ExprKind.{map-ExprKind}
use Rattle.ps_kernel.specs.declared.expr.ExprKind.TheOpen.{ExprKind-F}
use Rattle.ps_kernel.specs.declared.kernel.Form.{Form}
use Rattle.ps_kernel.specs.declared.kernel.Form.TheVariants.{Define, Do}
use Rattle.ps_kernel.specs.declared.kernel.Lambda.{Lambda}
use Rattle.ps_kernel.specs.Lists.{Among, Each, stands_in}
use Rattle.ps_kernel.specs.Marks.{locals_of}
use Rattle.ps_kernel.specs.Texts.{named, lambda_text, group_of, lambda_node, lambda_in, defined_by, procedure_of}
use Rattle.ps_kernel.specs.Scoped.{Scoping, each_scoped, same_group, stands_right, scoped_node, scoped, mentioned, IsScopedForm, AreScoped}
use Rattle.ps_kernel.proofs.FoldsAreRelated.{Both, related}
use Rattle.ps_kernel.proofs.BodiesNameWhatTheyMay.{same_groups}
use Rattle.ps_meaning.specs.Eval.{literal}
use Rattle.ps_meaning.specs.Source.{Program}
use Rattle.ps_survive.specs.declared.steps.Mark.{Mark}
use Rattle.ps_survive.specs.declared.steps.Mark.TheVariants as marks
use Rattle.ps_survive.specs.declared.steps.Marked.{Marked}
use Rattle.ps_survive.specs.declared.steps.Node.{Node}
use Rattle.ps_survive.specs.declared.steps.Node.TheVariants as nodes
use Rattle.ps_survive.specs.declared.steps.Step.{Step}
use Rattle.ps_survive.specs.declared.steps.Step.TheVariants as steps
use Rattle.ps_survive.specs.Bodies.{marked, joined, constant_marks, group_marks, kind_marks, marks_of}
use Rattle.ps_survive.specs.Steps.{has, if_there, steps_of, global_steps, value_steps, body_steps, block_steps, cell_steps, pointer_names, value_names, literal_names, mark_names, names}
use Rattle.ps_survive.specs.Walk.{Reaches, main, onward}
use Rattle.ps_survive.specs.Closed.{reached_by, in_set, named_in}
use Rattle.ps_survive.specs.Laws.{IsWhole}
use Rattle.ps_survive.proofs.NodesInLists.{in_left, in_right, in_either}
use Rattle.ps_surviving.proofs.ChangesPutOne.{none_some, some_same}
use Rattle.ps_surviving.proofs.ValuesStayInside.{entries_in}
use Rattle.ps_surviving.proofs.BodiesDoTheSame.{blocks, lambdas}

module _ (p : Program) where
  abbrev Group : ℕ → List GroupEntry
  Group l = group_of p.kernel l

  -- a lambda is marked
  record Marks (n : ℕ) (ms : List Marked) : Type 0 where
    at : Place
    there : Among (marked at (marks.Stands n)) ms

  -- with each lambda that is marked its group is
  record Together (ms : List Marked) : Type 0 where
    group : (d : Marked) (l : ℕ) (e : GroupEntry) → Among d ms → d.mark ≡ marks.Stands l → Among e (Group l) → Marks e.lambda ms

  none_together : Together []
  none_together = record { group = λ d l e there is among. absurd there }

  marks_left : (xs ys : List Marked) (n : ℕ) → Marks n xs → Marks n (xs ++ ys)
  marks_left xs ys n m = record { at = m.at; there = in_left xs ys (marked m.at (marks.Stands n)) m.there }

  marks_right : (xs ys : List Marked) (n : ℕ) → Marks n ys → Marks n (xs ++ ys)
  marks_right xs ys n m = record { at = m.at; there = in_right xs ys (marked m.at (marks.Stands n)) m.there }

  both_together : (xs ys : List Marked) → Together xs → Together ys → Together (xs ++ ys)
  both_together xs ys h l = record {
    group = λ d n e there is among.
        ⊎_elim (λ (q : Among d xs). marks_left xs ys e.lambda (h.group d n e q is among)) (λ (q : Among d ys). marks_right xs ys e.lambda (l.group d n e q is among)) (in_either xs ys d there);
  }

  -- a mark of no lambda
  abbrev Another : Mark → Type 0
  Another x = (l : ℕ) → x ≡ marks.Stands l → ⊥

  one_together : (at : Place) (x : Mark) → Another x → Together (marked at x ∷ [])
  one_together at x other = record { group = λ d l e there is among. absurd (⊎_elim (λ (q : d ≡ marked at x). other l (ap (λ (m : Marked). m.mark) (sym q) ∙ is)) (λ (q : ⊥). q) there) }

  more_together : (at : Place) (x : Mark) (ms : List Marked) → Another x → Together ms → Together (marked at x ∷ ms)
  more_together at x ms other h = both_together (marked at x ∷ []) ms (one_together at x other) h

  reads_not : (g : ℕ) → Another (marks.Reads g)
  reads_not g l e = cc

  assigns_not : (g : ℕ) → Another (marks.Assigns g)
  assigns_not g l e = cc

  quotes_not : (q : ℕ) → Another (marks.Quotes q)
  quotes_not q l e = cc

  stands_same : (l n : ℕ) → marks.Stands l ≡ marks.Stands n → l ≡ n
  stands_same l n e = cc

  -- ---- a lambda by itself, and those of a letrec

  lone_together : (at : Place) (l : ℕ) → Group l ≡ [] → Together (marked at (marks.Stands l) ∷ [])
  lone_together at l none = record {
    group = λ d n e there is among.
        ⊎_elim
        (λ (q : d ≡ marked at (marks.Stands l)).
        let same : l ≡ n = stands_same l n (ap (λ (m : Marked). m.mark) (sym q) ∙ is) in
        absurd (subst (Among e) none (subst (λ z. Among e (Group z)) (sym same) among)))
        (λ (q : ⊥). absurd q)
        there;
  }

  -- each entry of a list has this group
  abbrev AllHave : List GroupEntry → List GroupEntry → Type 0
  AllHave g [] = Unit {0}
  AllHave g (e ∷ es) = (Group e.lambda ≡ g) × AllHave g es

  all_have : (g : List GroupEntry) (own kept : List ℕ) (es : List GroupEntry) → list_all (λ (e : GroupEntry). stands_right p.kernel e.lambda g own kept) es ≡ true → AllHave g es
  all_have g own kept [] h = tt
  all_have g own kept (e ∷ es) h =
      (same_groups (Group e.lambda) g (and_left (same_group (Group e.lambda) g) _ (and_left (stands_right p.kernel e.lambda g own kept) _ h)), all_have g own kept es (and_rest (stands_right p.kernel e.lambda g own kept) _ h))

  entry_marks : (at : Place) (es : List GroupEntry) (e : GroupEntry) → Among e es → Marks e.lambda (group_marks at es)
  entry_marks at [] e h = absurd h
  entry_marks at (x ∷ es) e h =
      ⊎_elim
      (λ (q : e ≡ x). record { at = at; there = inl (ap (λ (z : GroupEntry). marked at (marks.Stands z.lambda)) q) })
      (λ (q : Among e es). let m = entry_marks at es e q in record { at = m.at; there = inr m.there })
      h

  has_group : (at : Place) (g es : List GroupEntry) → AllHave g es → (d : Marked) (l : ℕ) → Among d (group_marks at es) → d.mark ≡ marks.Stands l → Group l ≡ g
  has_group at g [] h d l there is = absurd there
  has_group at g (x ∷ es) h d l there is =
      ⊎_elim
      (λ (q : d ≡ marked at (marks.Stands x.lambda)). ap Group (sym (stands_same x.lambda l (ap (λ (m : Marked). m.mark) (sym q) ∙ is))) ∙ h.0)
      (λ (q : Among d (group_marks at es)). has_group at g es h.1 d l q is)
      there

  group_together : (at : Place) (g : List GroupEntry) → AllHave g g → Together (group_marks at g)
  group_together at g h = record { group = λ d l e there is among. entry_marks at g e (subst (Among e) (has_group at g g h d l there is) among) }

  -- ---- bodies

  abbrev R : Scoping → (Place → List Marked) → Type 0
  R s f = (own kept : List ℕ) → s own kept ≡ true → (at : Place) → Together (f at)

  abbrev R' : Scoping → List Marked → Type 0
  R' s ms = (own kept : List ℕ) → s own kept ≡ true → Together ms

  parts_together : (es : List (Both R')) (own kept : List ℕ) → each_scoped (map (λ e. e.0) es) own kept ≡ true → Together (joined (map (λ e. e.1) es))
  parts_together [] own kept h = none_together
  parts_together (e ∷ es) own kept h =
      both_together e.1 (joined (map (λ e. e.1) es)) (e.2 own kept (and_left (e.0 own kept) _ h)) (parts_together es own kept (and_rest (e.0 own kept) (each_scoped (map (λ e. e.0) es) own kept) h))

  constant_together : (at : Place) (c : Constant) → Together (constant_marks at c)
  constant_together at (constants.Integer i) = none_together
  constant_together at (constants.Boolean b) = none_together
  constant_together at (constants.Char c) = none_together
  constant_together at constants.Unit = none_together
  constant_together at constants.NullAddress = none_together
  constant_together at (constants.Quoted q) = one_together at (marks.Quotes q) (quotes_not q)

  call_together : (f : Both R') (es : List (Both R')) (own kept : List ℕ) → (f.0 own kept && each_scoped (map (λ e. e.0) es) own kept) ≡ true → Together (f.1 ++ joined (map (λ e. e.1) es))
  call_together f es own kept h =
      both_together f.1 (joined (map (λ e. e.1) es)) (f.2 own kept (and_left (f.0 own kept) _ h)) (parts_together es own kept (and_rest (f.0 own kept) (each_scoped (map (λ e. e.0) es) own kept) h))

  node_together : (y : ExprKind-F (Both R) (Both R') (Both R'))
      → R
      (scoped_node p.kernel (map-ExprKind (Both R) (Both R') (Both R') Scoping Scoping Scoping (λ e. e.0) (λ e. e.0) (λ e. e.0) y))
      (kind_marks (map-ExprKind (Both R) (Both R') (Both R') (Place → List Marked) (List Marked) (List Marked) (λ e. e.1) (λ e. e.1) (λ e. e.1) y))
  node_together (ExprKind-F.Constant c) own kept h at = constant_together at c
  node_together (ExprKind-F.Local x) own kept h at = none_together
  node_together (ExprKind-F.Global g) own kept h at = one_together at (marks.Reads g) (reads_not g)
  node_together (ExprKind-F.Lambda l) own kept h at = lone_together at l (same_groups (Group l) [] (and_left (same_group (Group l) []) _ h))
  node_together (ExprKind-F.If a b c) own kept h at =
      let rest = and_rest (a.0 own kept) (b.0 own kept && c.0 own kept) h in
      both_together a.1 (b.1 ++ c.1) (a.2 own kept (and_left (a.0 own kept) _ h)) (both_together b.1 c.1 (b.2 own kept (and_left (b.0 own kept) _ rest)) (c.2 own kept (and_rest (b.0 own kept) (c.0 own kept) rest)))
  node_together (ExprKind-F.Let x a b) own kept h at = both_together a.1 b.1 (a.2 own kept (and_left (a.0 own kept) _ h)) (b.2 (x ∷ own) kept (and_rest (a.0 own kept) (b.0 (x ∷ own) kept) h))
  node_together (ExprKind-F.Letrec g b) own kept h at =
      both_together (group_marks at g) b.1 (group_together at g (all_have g own kept g (and_left (list_all (λ (e : GroupEntry). stands_right p.kernel e.lambda g own kept) g) _ h)))
      (b.2 own (locals_of g ++ kept) (and_rest (list_all (λ (e : GroupEntry). stands_right p.kernel e.lambda g own kept) g) (b.0 own (locals_of g ++ kept)) h))
  node_together (ExprKind-F.Begin es) own kept h at = parts_together es own kept h
  node_together (ExprKind-F.SetGlobal g a) own kept h at = more_together at (marks.Assigns g) a.1 (assigns_not g) (a.2 own kept h)
  node_together (ExprKind-F.SetLocal x a) own kept h at = a.2 own kept (and_rest (stands_in x own) (a.0 own kept) h)
  node_together (ExprKind-F.Case kind a bs e) own kept h at =
      let parts : List Marked = joined (map (λ b. b.1) bs) in
      let rest = and_rest (a.0 own kept) (each_scoped (map (λ b. b.0) bs) own kept && e.0 own kept) h in
      both_together a.1 (parts ++ e.1) (a.2 own kept (and_left (a.0 own kept) _ h)) (both_together parts e.1 (parts_together bs own kept (and_left (each_scoped (map (λ b. b.0) bs) own kept) _ rest)) (e.2 own kept (and_rest (each_scoped (map (λ b. b.0) bs) own kept) (e.0 own kept) rest)))
  node_together (ExprKind-F.Call f es) own kept h at = call_together f es own kept h
  node_together (ExprKind-F.ProperCall f es) own kept h at = call_together f es own kept h
  node_together (ExprKind-F.Primitive o es) own kept h at = more_together at (marks.Performs o) (joined (map (λ e. e.1) es)) (λ l e. cc) (parts_together es own kept h)

  body_together : (e : Expr) → R' (scoped p.kernel e) (marks_of e)
  body_together =
      related R R' R' (scoped_node p.kernel) (λ e. e.kind) (λ b. b.body) kind_marks (λ e. e.kind e.place) (λ b. b.body) node_together (λ y own kept h. y.kind.2 own kept h y.place) (λ b own kept h. b.body.2 own kept h)

  -- ---- procedure definitions

  abbrev T : Scoping → Option ℕ → Type 0
  T s o = (own kept : List ℕ) → s own kept ≡ true → (l : ℕ) → o ≡ Some l → Group l ≡ []

  node_alone : (y : ExprKind-F (Both T) (Both T) (Both T))
      → T
      (scoped_node p.kernel (map-ExprKind (Both T) (Both T) (Both T) Scoping Scoping Scoping (λ e. e.0) (λ e. e.0) (λ e. e.0) y))
      (lambda_node (map-ExprKind (Both T) (Both T) (Both T) (Option ℕ) (Option ℕ) (Option ℕ) (λ e. e.1) (λ e. e.1) (λ e. e.1) y))
  node_alone (ExprKind-F.Lambda n) own kept h l e = ap Group (sym (some_same n l e)) ∙ same_groups (Group n) [] (and_left (same_group (Group n) []) _ h)
  node_alone (ExprKind-F.Constant c) own kept h l e = absurd (none_some l e)
  node_alone (ExprKind-F.Local x) own kept h l e = absurd (none_some l e)
  node_alone (ExprKind-F.Global g) own kept h l e = absurd (none_some l e)
  node_alone (ExprKind-F.If a b c) own kept h l e = absurd (none_some l e)
  node_alone (ExprKind-F.Let x a b) own kept h l e = absurd (none_some l e)
  node_alone (ExprKind-F.Letrec g b) own kept h l e = absurd (none_some l e)
  node_alone (ExprKind-F.Begin es) own kept h l e = absurd (none_some l e)
  node_alone (ExprKind-F.SetGlobal g a) own kept h l e = absurd (none_some l e)
  node_alone (ExprKind-F.SetLocal x a) own kept h l e = absurd (none_some l e)
  node_alone (ExprKind-F.Case kind a bs z) own kept h l e = absurd (none_some l e)
  node_alone (ExprKind-F.Call f es) own kept h l e = absurd (none_some l e)
  node_alone (ExprKind-F.ProperCall f es) own kept h l e = absurd (none_some l e)
  node_alone (ExprKind-F.Primitive o es) own kept h l e = absurd (none_some l e)

  alone : (e : Expr) → T (scoped p.kernel e) (lambda_in e)
  alone = related T T T (scoped_node p.kernel) (λ e. e.kind) (λ b. b.body) lambda_node (λ e. e.kind) (λ b. b.body) node_alone (λ y. y.kind.2) (λ b. b.body.2)

  defined_alone : (g l : ℕ) (fs : List Form) → Each (IsScopedForm p.kernel) fs → defined_by g fs ≡ Some l → Group l ≡ []
  defined_alone g l [] h e = absurd (none_some l e)
  defined_alone g l (Define d x ∷ fs) h e = go (g == d) (λ is. defined_alone g l fs h.1 is) e
    where
      go : (c : Bool) → (defined_by g fs ≡ Some l → Group l ≡ []) → (if c then lambda_in x else defined_by g fs) ≡ Some l → Group l ≡ []
      go true later is = alone x [] [] h.0 l is
      go false later is = later is
  defined_alone g l (Do x ∷ fs) h e = defined_alone g l fs h.1 e

  -- ---- what is reached

  module _ (found : List Node) (w : IsWhole p found) (scopes : AreScoped p.kernel) where
    abbrev L : ℕ → Type 0
    L l = lambdas p (reached_by found) l ≡ true

    -- each lambda of its group is reached
    abbrev GroupReached : ℕ → Type 0
    GroupReached l = (e : GroupEntry) → Among e (Group l) → L e.lambda

    seen : (n : Node) → in_set p (reached_by found) n ≡ has found n
    seen (nodes.Global g) = refl
    seen (nodes.Inner l) = refl
    seen (nodes.Data b) = refl

    each_named : (o : Option Node) → ((k : Node) → o ≡ Some k → has found k ≡ true) → named_in p (reached_by found) o ≡ true
    each_named None h = refl
    each_named (Some n) h = seen n ∙ h n refl

    settled : (n : Node) (s : Step) → Reaches p n → Among s (steps_of p n) → named_in p (reached_by found) (names p s) ≡ true
    settled n s h there = each_named (names p s) (λ k e. w.all k (onward n s k h there e))

    -- ---- steps to lambdas

    inner_there : {A : Type 0} (o : Option A) (n l : ℕ) → if_there o (nodes.Inner n) ≡ Some (nodes.Inner l) → n ≡ l
    inner_there None n l e = absurd (none_some (nodes.Inner l) e)
    inner_there (Some x) n l e = let both : nodes.Inner n ≡ nodes.Inner l = some_same (nodes.Inner n) (nodes.Inner l) e in cc

    global_not : {A : Type 0} (o : Option A) (g l : ℕ) → if_there o (nodes.Global g) ≡ Some (nodes.Inner l) → ⊥
    global_not None g l e = none_some (nodes.Inner l) e
    global_not (Some x) g l e = let both : nodes.Global g ≡ nodes.Inner l = some_same (nodes.Global g) (nodes.Inner l) e in cc

    data_not : {A : Type 0} (o : Option A) (b l : ℕ) → if_there o (nodes.Data b) ≡ Some (nodes.Inner l) → ⊥
    data_not None b l e = none_some (nodes.Inner l) e
    data_not (Some x) b l e = let both : nodes.Data b ≡ nodes.Inner l = some_same (nodes.Data b) (nodes.Inner l) e in cc

    pointer_not : (q : Pointer) (l : ℕ) → pointer_names p q ≡ Some (nodes.Inner l) → ⊥
    pointer_not Null l e = none_some (nodes.Inner l) e
    pointer_not (At (Fixed b) o) l e = data_not (find b p.memory.fixed) b l e
    pointer_not (At (Made b) o) l e = none_some (nodes.Inner l) e

    value_not : (v : Value) (l : ℕ) → value_names p v ≡ Some (nodes.Inner l) → ⊥
    value_not (value.Integer i) l e = none_some (nodes.Inner l) e
    value_not (value.Boolean b) l e = none_some (nodes.Inner l) e
    value_not (value.Char c) l e = none_some (nodes.Inner l) e
    value_not value.Unit l e = none_some (nodes.Inner l) e
    value_not (value.Address q) l e = pointer_not q l e
    value_not (value.Text q) l e = pointer_not q l e
    value_not (value.Vector q) l e = pointer_not q l e
    value_not (value.Tuple k q) l e = pointer_not q l e

    literal_not : (o : Option Value) (l : ℕ) → literal_names p o ≡ Some (nodes.Inner l) → ⊥
    literal_not None l e = none_some (nodes.Inner l) e
    literal_not (Some v) l e = value_not v l e

    mark_stands : (x : Mark) (l : ℕ) → mark_names p x ≡ Some (nodes.Inner l) → x ≡ marks.Stands l
    mark_stands (marks.Reads g) l e = absurd (global_not (slice_get p.kernel.definitions g) g l e)
    mark_stands (marks.Assigns g) l e = absurd (global_not (slice_get p.kernel.definitions g) g l e)
    mark_stands (marks.Quotes q) l e = absurd (literal_not (literal p.kernel q) l e)
    mark_stands (marks.Performs o) l e = absurd (none_some (nodes.Inner l) e)
    mark_stands (marks.Stands n) l e = ap marks.Stands (inner_there (slice_get p.kernel.lambdas n) n l e)

    -- ---- from each node

    cells_not : (cs : List (Option Value)) (s : Step) (l : ℕ) → Among s (cell_steps cs) → names p s ≡ Some (nodes.Inner l) → ⊥
    cells_not [] s l there e = there
    cells_not (None ∷ cs) s l there e = cells_not cs s l there e
    cells_not (Some v ∷ cs) s l there e = ⊎_elim (λ (q : s ≡ steps.Keeps v). value_not v l (ap (names p) (sym q) ∙ e)) (λ (q : Among s (cell_steps cs)). cells_not cs s l q e) there

    block_not : (o : Option (Block Value)) (s : Step) (l : ℕ) → Among s (block_steps o) → names p s ≡ Some (nodes.Inner l) → ⊥
    block_not None s l there e = there
    block_not (Some (Bytes bytes)) s l there e = there
    block_not (Some (Cells cells)) s l there e = cells_not cells s l there e
    block_not (Some (Freed n)) s l there e = there

    held_not : (o : Option (Option Value)) (s : Step) (l : ℕ) → Among s (value_steps o) → names p s ≡ Some (nodes.Inner l) → ⊥
    held_not None s l there e = there
    held_not (Some None) s l there e = there
    held_not (Some (Some v)) s l there e = ⊎_elim (λ (q : s ≡ steps.Keeps v). value_not v l (ap (names p) (sym q) ∙ e)) (λ (q : ⊥). q) there

    from_global : (g : ℕ) (o : Option ℕ) (s : Step) (l : ℕ) → procedure_of p.kernel g ≡ o → Among s (global_steps p g o) → names p s ≡ Some (nodes.Inner l) → GroupReached l
    from_global g None s l is there e = absurd (held_not (slice_get p.globals g) s l there e)
    from_global g (Some n) s l is there e =
        let enters : s ≡ steps.Enters n = ⊎_elim (λ (q : s ≡ steps.Enters n). q) (λ (q : ⊥). absurd q) there in
        let same : n ≡ l = inner_there (slice_get p.kernel.lambdas n) n l (ap (names p) (sym enters) ∙ e) in
        let none : Group l ≡ [] = defined_alone g l p.kernel.forms scopes.forms (is ∙ ap Some same) in
        λ x among. absurd (subst (Among x) none among)

    does_in : (ms : List Marked) (s : Step) → Among s (map steps.Does ms) → (d : Marked) × Among d ms × (s ≡ steps.Does d)
    does_in [] s h = absurd h
    does_in (m ∷ ms) s h = ⊎_elim (λ (q : s ≡ steps.Does m). (m, inl refl, q)) (λ (q : Among s (map steps.Does ms)). let r = does_in ms s q in (r.0, inr r.1, r.2)) h

    in_does : (ms : List Marked) (d : Marked) → Among d ms → Among (steps.Does d) (map steps.Does ms)
    in_does [] d h = absurd h
    in_does (m ∷ ms) d h = ⊎_elim (λ (q : d ≡ m). inl (ap steps.Does q)) (λ (q : Among d ms). inr (in_does ms d q)) h

    from_body : (n : ℕ) (o : Option Lambda) (s : Step) (l : ℕ) → Reaches p (nodes.Inner n) → slice_get p.kernel.lambdas n ≡ o → Among s (body_steps o) → names p s ≡ Some (nodes.Inner l) → GroupReached l
    from_body n None s l reached is there e = absurd there
    from_body n (Some m) s l reached is there e =
        let d = does_in (marks_of m.body) s there in
        let stands : d.0.mark ≡ marks.Stands l = mark_stands d.0.mark l (ap (names p) (sym d.2) ∙ e) in
        let body = body_together m.body m.parameters (locals_of (mentioned p.kernel n) ++ m.captured) (scopes.bodies n m is).scopes in
        λ x among.
        let other = body.group d.0 l x d.1 stands among in
        settled (nodes.Inner n) (steps.Does (marked other.at (marks.Stands x.lambda))) reached
        (subst (λ o. Among (steps.Does (marked other.at (marks.Stands x.lambda))) (body_steps o)) (sym is) (in_does (marks_of m.body) (marked other.at (marks.Stands x.lambda)) other.there))

    from_node : (n : Node) (s : Step) (l : ℕ) → Reaches p n → Among s (steps_of p n) → names p s ≡ Some (nodes.Inner l) → GroupReached l
    from_node (nodes.Global g) s l reached there e = from_global g (procedure_of p.kernel g) s l refl there e
    from_node (nodes.Inner n) s l reached there e = from_body n (slice_get p.kernel.lambdas n) s l reached refl there e
    from_node (nodes.Data b) s l reached there e = absurd (block_not (find b p.memory.fixed) s l there e)

    group_reached : (k : Node) (l : ℕ) → k ≡ nodes.Inner l → Reaches p k → GroupReached l
    group_reached k l is main = absurd (let clash : nodes.Global p.kernel.main ≡ nodes.Inner l = is in cc)
    group_reached k l is (onward n s k2 reached there e) = from_node n s l reached there (e ∙ ap Some is)

    entries_reached : (es : List GroupEntry) → ((e : GroupEntry) → Among e es → L e.lambda) → entries_in (blocks p (reached_by found)) (lambdas p (reached_by found)) es ≡ true
    entries_reached [] h = refl
    entries_reached (e ∷ es) h = and_both (lambdas p (reached_by found) e.lambda) _ (h e (inl refl)) (entries_reached es (λ x q. h x (inr q)))

    filtered : (f : GroupEntry → Bool) (es : List GroupEntry) (e : GroupEntry) → Among e (filter f es) → Among e es
    filtered f [] e h = h
    filtered f (x ∷ es) e h = go (f x) (λ q. filtered f es e q) h
      where
        go : (c : Bool) → (Among e (filter f es) → Among e es) → Among e (if c then x ∷ filter f es else filter f es) → Among e (x ∷ es)
        go true later q = ⊎_elim (λ (z : e ≡ x). inl z) (λ (z : Among e (filter f es)). inr (later z)) q
        go false later q = inr (later q)

    pub groups : (l : ℕ) (m : Lambda) → L l → slice_get p.kernel.lambdas l ≡ Some m → entries_in (blocks p (reached_by found)) (lambdas p (reached_by found)) (mentioned p.kernel l) ≡ true
    groups l m reached is =
        let there : has found (nodes.Inner l) ≡ true = subst (λ o. named_in p (reached_by found) (if_there o (nodes.Inner l)) ≡ true) is reached in
        entries_reached (mentioned p.kernel l) (λ e h. group_reached (nodes.Inner l) l refl (w.reached (nodes.Inner l) there) e (filtered (λ (e : GroupEntry). stands_in e.local (named (lambda_text p.kernel l))) (Group l) e h))
