-- What a walk saw is closed.
-- For: `what_is_seen_is_closed`
use Rattle.std.proofs.Common.{◌≡◌, Bool, true, false, List, [], ◌∷◌, ◌++◌, map, Option, Some, None, refl, sym, ap, ◌∙◌, subst, inl, inr, ⊎_elim}
use Rattle.std.specs.Prelude.{◌&&◌}
use Rattle.ps_base.specs.declared.faults.Place.{Place}
use Rattle.byte_store.specs.declared.pointer.Value.{Value}
use Rattle.ps_kernel.specs.declared.expr.Constant.{Constant}
use Rattle.ps_kernel.specs.declared.expr.Constant.TheVariants as constants
use Rattle.ps_kernel.specs.declared.expr.GroupEntry.{GroupEntry}
use Rattle.ps_kernel.specs.declared.expr.Expr.{Expr}
use Rattle.ps_kernel.specs.declared.expr.ExprKind.{map-ExprKind}
use Rattle.ps_kernel.specs.declared.expr.ExprKind.TheOpen.{ExprKind-F}
use Rattle.ps_kernel.proofs.FoldsAreRelated.{Both, related}
use Rattle.ps_meaning.specs.Source.{Program}
use Rattle.ps_survive.specs.declared.steps.Mark.TheVariants as marks
use Rattle.ps_survive.specs.declared.steps.Marked.{Marked}
use Rattle.ps_survive.specs.declared.steps.Node.{Node}
use Rattle.ps_survive.specs.declared.steps.Node.TheVariants as nodes
use Rattle.ps_survive.specs.declared.steps.Step.{Step}
use Rattle.ps_survive.specs.declared.steps.Step.TheVariants as steps
use Rattle.ps_kernel.specs.Lists.{Among}
use Rattle.ps_survive.specs.Bodies.{marked, joined, constant_marks, group_marks, kind_marks, marks_of}
use Rattle.ps_survive.specs.Steps.{has, steps_of, global_steps, body_steps, block_steps, value_steps, cell_steps, names}
use Rattle.ps_survive.specs.Walk.{main_node, main, onward}
use Rattle.ps_survive.specs.Laws.{IsWhole, SeenIsClosed}
use Rattle.ps_survive.specs.Closed.{Reached, reached_by, all_of, in_set, named_in, mark_in, constant_in, group_in, closed_node, closed, IsClosed}
use Rattle.ps_survive.proofs.NodesInLists.{in_left, in_right}
use Rattle.ps_survive.proofs.SeenIsReached.{seen_is_reached}

both_true : (a b : Bool) → a ≡ true → b ≡ true → (a && b) ≡ true
both_true true b e f = f
both_true false b e f = absurd cc

module _ (p : Program) (r : Reached) where
  -- all that marks name is in the set
  record AllIn (ms : List Marked) : Type 0 where
    each : (d : Marked) → Among d ms → mark_in p r d.mark ≡ true

  first_in : (d : Marked) (ms : List Marked) → AllIn (d ∷ ms) → mark_in p r d.mark ≡ true
  first_in d ms h = h.each d (inl refl)

  rest_in : (d : Marked) (ms : List Marked) → AllIn (d ∷ ms) → AllIn ms
  rest_in d ms h = record { each = λ x k. h.each x (inr k) }

  left_in : (xs ys : List Marked) → AllIn (xs ++ ys) → AllIn xs
  left_in xs ys h = record { each = λ x k. h.each x (in_left xs ys x k) }

  right_in : (xs ys : List Marked) → AllIn (xs ++ ys) → AllIn ys
  right_in xs ys h = record { each = λ x k. h.each x (in_right xs ys x k) }

  abbrev R : Bool → (Place → List Marked) → Type 0
  R b f = (at : Place) → AllIn (f at) → b ≡ true

  abbrev R' : Bool → List Marked → Type 0
  R' b ms = AllIn ms → b ≡ true

  constant_closed : (c : Constant) (at : Place) → AllIn (constant_marks at c) → constant_in p r c ≡ true
  constant_closed (constants.Integer i) at h = refl
  constant_closed (constants.Boolean b) at h = refl
  constant_closed (constants.Char c) at h = refl
  constant_closed constants.Unit at h = refl
  constant_closed constants.NullAddress at h = refl
  constant_closed (constants.Quoted q) at h = first_in (marked at (marks.Quotes q)) [] h

  group_closed : (g : List GroupEntry) (at : Place) → AllIn (group_marks at g) → group_in p r g ≡ true
  group_closed [] at h = refl
  group_closed (e ∷ es) at h = both_true (mark_in p r (marks.Stands e.lambda)) (group_in p r es) (first_in (marked at (marks.Stands e.lambda)) (group_marks at es) h) (group_closed es at (rest_in (marked at (marks.Stands e.lambda)) (group_marks at es) h))

  parts_closed : (es : List (Both R')) → AllIn (joined (map (λ e. e.1) es)) → all_of (map (λ e. e.0) es) ≡ true
  parts_closed [] h = refl
  parts_closed (e ∷ es) h = both_true e.0 (all_of (map (λ x. x.0) es)) (e.2 (left_in e.1 (joined (map (λ x. x.1) es)) h)) (parts_closed es (right_in e.1 (joined (map (λ x. x.1) es)) h))

  two_closed : (a b : Both R') → AllIn (a.1 ++ b.1) → (a.0 && b.0) ≡ true
  two_closed a b h = both_true a.0 b.0 (a.2 (left_in a.1 b.1 h)) (b.2 (right_in a.1 b.1 h))

  call_closed : (f : Both R') (es : List (Both R')) → AllIn (f.1 ++ joined (map (λ e. e.1) es)) → (f.0 && all_of (map (λ e. e.0) es)) ≡ true
  call_closed f es h = both_true f.0 (all_of (map (λ e. e.0) es)) (f.2 (left_in f.1 (joined (map (λ e. e.1) es)) h)) (parts_closed es (right_in f.1 (joined (map (λ e. e.1) es)) h))

  case_closed : (a : Both R') (bs : List (Both R')) (e : Both R') → AllIn (a.1 ++ (joined (map (λ b. b.1) bs) ++ e.1)) → (a.0 && (all_of (map (λ b. b.0) bs) && e.0)) ≡ true
  case_closed a bs e h =
      let parts : List Marked = joined (map (λ b. b.1) bs) in
      let rest = right_in a.1 (parts ++ e.1) h in
      both_true a.0 (all_of (map (λ b. b.0) bs) && e.0) (a.2 (left_in a.1 (parts ++ e.1) h)) (both_true (all_of (map (λ b. b.0) bs)) e.0 (parts_closed bs (left_in parts e.1 rest)) (e.2 (right_in parts e.1 rest)))

  kind_closed : (y : ExprKind-F (Both R) (Both R') (Both R')) → R (closed_node p r (map-ExprKind (Both R) (Both R') (Both R') Bool Bool Bool (λ e. e.0) (λ e. e.0) (λ e. e.0) y)) (kind_marks (map-ExprKind (Both R) (Both R') (Both R') (Place → List Marked) (List Marked) (List Marked) (λ e. e.1) (λ e. e.1) (λ e. e.1) y))
  kind_closed (ExprKind-F.Constant c) at h = constant_closed c at h
  kind_closed (ExprKind-F.Local x) at h = refl
  kind_closed (ExprKind-F.Global g) at h = first_in (marked at (marks.Reads g)) [] h
  kind_closed (ExprKind-F.Lambda l) at h = first_in (marked at (marks.Stands l)) [] h
  kind_closed (ExprKind-F.If a b c) at h = both_true a.0 (b.0 && c.0) (a.2 (left_in a.1 (b.1 ++ c.1) h)) (two_closed b c (right_in a.1 (b.1 ++ c.1) h))
  kind_closed (ExprKind-F.Let x a b) at h = two_closed a b h
  kind_closed (ExprKind-F.Letrec g b) at h = both_true (group_in p r g) b.0 (group_closed g at (left_in (group_marks at g) b.1 h)) (b.2 (right_in (group_marks at g) b.1 h))
  kind_closed (ExprKind-F.Begin es) at h = parts_closed es h
  kind_closed (ExprKind-F.SetGlobal g a) at h = both_true (mark_in p r (marks.Assigns g)) a.0 (first_in (marked at (marks.Assigns g)) a.1 h) (a.2 (rest_in (marked at (marks.Assigns g)) a.1 h))
  kind_closed (ExprKind-F.SetLocal x a) at h = a.2 h
  kind_closed (ExprKind-F.Case kind a bs e) at h = case_closed a bs e h
  kind_closed (ExprKind-F.Call f es) at h = call_closed f es h
  kind_closed (ExprKind-F.ProperCall f es) at h = call_closed f es h
  kind_closed (ExprKind-F.Primitive o es) at h = parts_closed es (rest_in (marked at (marks.Performs o)) (joined (map (λ e. e.1) es)) h)

  expr_closed : (e : Expr) → AllIn (marks_of e) → closed p r e ≡ true
  expr_closed = related R R' R' (closed_node p r) (λ e. e.kind) (λ b. b.body) kind_marks (λ e. e.kind e.place) (λ b. b.body) kind_closed (λ y h. y.kind.2 y.place h) (λ y h. y.body.2 h)

module _ (p : Program) (found : List Node) (w : IsWhole p found) where
  seen : (n : Node) → in_set p (reached_by found) n ≡ has found n
  seen (nodes.Global g) = refl
  seen (nodes.Inner l) = refl
  seen (nodes.Data b) = refl

  named : (o : Option Node) → ((k : Node) → o ≡ Some k → has found k ≡ true) → named_in p (reached_by found) o ≡ true
  named None h = refl
  named (Some n) h = seen n ∙ h n refl

  -- a step of what was seen
  settled : (n : Node) (s : Step) → has found n ≡ true → Among s (steps_of p n) → named_in p (reached_by found) (names p s) ≡ true
  settled n s h there = named (names p s) (λ k e. w.all k (onward n s k (w.reached n h) there e))

  in_cells : (cs : List (Option Value)) (v : Value) → Among (Some v) cs → Among (steps.Keeps v) (cell_steps cs)
  in_cells [] v h = absurd h
  in_cells (None ∷ cs) v h = ⊎_elim (λ (e : Some v ≡ None). absurd cc) (λ (k : Among (Some v) cs). in_cells cs v k) h
  in_cells (Some x ∷ cs) v h = ⊎_elim (λ (e : Some v ≡ Some x). (let is : v ≡ x = cc in inl (ap steps.Keeps is))) (λ (k : Among (Some v) cs). inr (in_cells cs v k)) h

  in_marks : (ms : List Marked) (d : Marked) → Among d ms → Among (steps.Does d) (map steps.Does ms)
  in_marks [] d h = absurd h
  in_marks (x ∷ ms) d h = ⊎_elim (λ (e : d ≡ x). inl (ap steps.Does e)) (λ (k : Among d ms). inr (in_marks ms d k)) h

  is_closed : IsClosed p (reached_by found)
  is_closed = record {
    main = w.all (main_node p) main;
    values = λ g v h none at. settled (nodes.Global g) (steps.Keeps v) h (subst (λ o. Among (steps.Keeps v) (global_steps p g o)) (sym none) (subst (λ o. Among (steps.Keeps v) (value_steps o)) (sym at) (inl refl)));
    procedures = λ g l h is. settled (nodes.Global g) (steps.Enters l) h (subst (λ o. Among (steps.Enters l) (global_steps p g o)) (sym is) (inl refl));
    cells = λ b cs v h at there. settled (nodes.Data b) (steps.Keeps v) h (subst (λ o. Among (steps.Keeps v) (block_steps o)) (sym at) (in_cells cs v there));
    bodies = λ l m h at. expr_closed p (reached_by found) m.body (record { each = λ d k. settled (nodes.Inner l) (steps.Does d) h (subst (λ o. Among (steps.Does d) (body_steps o)) (sym at) (in_marks (marks_of m.body) d k)) });
  }

pub seen_is_closed : SeenIsClosed
seen_is_closed p found s = is_closed p found (seen_is_reached p found s)
