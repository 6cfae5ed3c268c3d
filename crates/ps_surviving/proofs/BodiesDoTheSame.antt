-- An expression all of whose names are reached does the same, where calls do.
-- For: `survivors_run_alike`
use Rattle.std.proofs.Common.{◌≡◌, ℕ, ℤ, zero, suc, ◌+◌, List, [], ◌∷◌, map, length, Bool, true, false, Option, Some, None, refl, sym, ◌∙◌, subst}
use Rattle.std.specs.Prelude.{◌&&◌, nat_eq, slice_get, if◌then◌else◌}
use Rattle.std.specs.Option.{option_map}
use Rattle.ps_base.proofs.Choices.{and_left, and_rest, and_both}
use Rattle.ps_base.specs.declared.faults.Place.{Place}
use Rattle.ps_base.specs.declared.language.PrimName.{PrimName}
use Rattle.byte_store.specs.declared.pointer.Base.TheVariants.{Fixed, Made}
use Rattle.byte_store.specs.declared.pointer.Pointer.TheVariants.{Null, At}
use Rattle.byte_store.specs.declared.pointer.Value.{Value}
use Rattle.byte_store.specs.declared.pointer.Value.TheVariants as value
use Rattle.byte_store.specs.Blocks.{find}
use Rattle.byte_store.specs.Outcome.{Running, Wrong}
use Rattle.ps_prims.specs.declared.stages.Stage.TheVariants.{Run as AtRun}
use Rattle.ps_prims.specs.Sorts.{and_seen, as_boolean}
use Rattle.ps_prims.specs.Cells.{asked_at}
use Rattle.ps_prims.specs.Rows.{row, perform}
use Rattle.ps_kernel.specs.declared.expr.Constant.{Constant}
use Rattle.ps_kernel.specs.declared.expr.Constant.TheVariants as constants
use Rattle.ps_kernel.specs.declared.expr.GroupEntry.{GroupEntry}
use Rattle.ps_kernel.specs.declared.expr.Expr.{Expr}
use Rattle.ps_kernel.specs.declared.expr.ExprKind.{map-ExprKind}
use Rattle.ps_kernel.specs.declared.expr.ExprKind.TheOpen.{ExprKind-F}
use Rattle.ps_kernel.specs.declared.kernel.Lambda.{Lambda}
use Rattle.ps_kernel.specs.Rules.{is_among}
use Rattle.ps_kernel.specs.Scoped.{mentioned}
use Rattle.ps_kernel.proofs.FoldsAreRelated.{Both, related}
use Rattle.ps_runs.specs.Runs.{Run, Ends, ◌>>=◌, stop}
use Rattle.ps_runs.specs.Effects.{performing}
use Rattle.ps_meaning.specs.declared.values.RunValue.{RunValue}
use Rattle.ps_meaning.specs.declared.values.RunValue.TheVariants.{Plain}
use Rattle.ps_meaning.specs.Values.{as_procedure, run_values}
use Rattle.ps_meaning.specs.Eval.{RunEnter, RunMeaning, Choice, belongs, misplaced, literal, constant, fitting, lambda_of, closure, group_pairs, entered, each, in_order, either, label_of, chosen, operation, run_node, run, run_entering, run_enters}
use Rattle.ps_meaning.specs.Source.{Program}
use Rattle.ps_survive.specs.declared.steps.Mark.TheVariants as marks
use Rattle.ps_survive.specs.declared.steps.Node.TheVariants as nodes
use Rattle.ps_survive.specs.Steps.{if_there, literal_names}
use Rattle.ps_survive.specs.Closed.{Reached, all_of, named_in, value_in, mark_in, constant_in, group_in, closed_node, closed}
use Rattle.ps_surviving.proofs.ChangesPutOne.{none_some, some_same}
use Rattle.ps_surviving.proofs.RowsDoTheSame.{plain_inside, all_inside, perform_same, asked_same}
use Rattle.ps_surviving.proofs.ValuesStayInside.{inside, inside_laws, plain_is, kept_inside, entries_in, is_procedure, closure_inside, group_inside, entered_inside}
use Rattle.ps_surviving.proofs.WordsDoTheSame.{Inside, Anything, Same, then_same, pure_same, stop_same, wrong_same, get_locals_same, local_same, set_local_same, pairs_same, within_same, take_call_same, at_depth_same, global_same, set_global_same, performing_same}

module _ (p : Program) (r : Reached) where
  -- what is reached, or is not there
  abbrev pub definitions : ℕ → Bool
  definitions g = mark_in p r (marks.Reads g)

  abbrev pub lambdas : ℕ → Bool
  lambdas l = mark_in p r (marks.Stands l)

  abbrev pub blocks : ℕ → Bool
  blocks b = named_in p r (if_there (find b p.memory.fixed) (nodes.Data b))

  abbrev pub Does : Run RunValue RunValue → Type 0
  Does = Same definitions blocks lambdas RunValue (Inside definitions blocks lambdas)

  abbrev pub IsInside : RunValue → Type 0
  IsInside = Inside definitions blocks lambdas

  abbrev pub AllInside : List RunValue → Type 0
  AllInside vs = all_inside blocks (inside blocks lambdas) (inside_laws blocks lambdas) vs ≡ true

  pub plain_same : (v : Value) → plain_inside blocks v ≡ value_in p r v
  plain_same (value.Integer i) = refl
  plain_same (value.Boolean b) = refl
  plain_same (value.Char c) = refl
  plain_same value.Unit = refl
  plain_same (value.Address Null) = refl
  plain_same (value.Address (At (Fixed b) o)) = refl
  plain_same (value.Address (At (Made b) o)) = refl
  plain_same (value.Text Null) = refl
  plain_same (value.Text (At (Fixed b) o)) = refl
  plain_same (value.Text (At (Made b) o)) = refl
  plain_same (value.Vector Null) = refl
  plain_same (value.Vector (At (Fixed b) o)) = refl
  plain_same (value.Vector (At (Made b) o)) = refl
  plain_same (value.Tuple k Null) = refl
  plain_same (value.Tuple k (At (Fixed b) o)) = refl
  plain_same (value.Tuple k (At (Made b) o)) = refl

  pub plain_in : (v : Value) → value_in p r v ≡ true → IsInside (Plain v)
  plain_in v h = plain_is blocks lambdas v (plain_same v ∙ h)

  -- ---- what both stages have in common

  -- a meaning that does the same at each depth
  abbrev Fine : RunMeaning → Type 0
  Fine m = (d : ℕ) → Does (m d)

  -- where all names are reached
  abbrev R : Bool → (Place → RunMeaning) → Type 0
  R b m = (at : Place) → b ≡ true → Fine (m at)

  abbrev R' : Bool → RunMeaning → Type 0
  R' b m = b ≡ true → Fine m

  abbrev R'' : Bool → Choice RunValue → Type 0
  R'' b c = b ≡ true → Fine c.does

  abbrev tests : List (Both R') → Bool
  tests es = all_of (map (λ e. e.0) es)

  abbrev does : List (Both R') → List RunMeaning
  does es = map (λ e. e.1) es

  each_same : (es : List (Both R')) → tests es ≡ true → (d : ℕ) → Same definitions blocks lambdas (List RunValue) AllInside (each p.kernel AtRun run_values (does es) d)
  each_same [] h d = pure_same definitions blocks lambdas [] refl
  each_same (e ∷ es) h d =
      then_same definitions blocks lambdas (e.2 (and_left e.0 (tests es) h) d) (λ v hv.
      then_same definitions blocks lambdas (each_same es (and_rest e.0 (tests es) h) d) (λ vs hvs.
      pure_same definitions blocks lambdas (v ∷ vs) (and_both (inside blocks lambdas v) (all_inside blocks (inside blocks lambdas) (inside_laws blocks lambdas) vs) hv hvs)))

  order_same : (at : Place) (es : List (Both R')) → tests es ≡ true → Fine (in_order p.kernel AtRun run_values at (does es))
  order_same at [] h d = stop_same definitions blocks lambdas (Ends (Wrong at))
  order_same at (e ∷ []) h d = e.2 (and_left e.0 true h) d
  order_same at (e ∷ f ∷ es) h d = then_same definitions blocks lambdas (e.2 (and_left e.0 (tests (f ∷ es)) h) d) (λ v hv. order_same at (f ∷ es) (and_rest e.0 (tests (f ∷ es)) h) d)

  either_same : (b : Bool) (m n : Run RunValue RunValue) → Does m → Does n → Does (either p.kernel AtRun run_values b m n)
  either_same true m n h l = h
  either_same false m n h l = l

  chosen_same : (i : ℤ) (bs : List (Both R'')) (m : RunMeaning) → all_of (map (λ b. b.0) bs) ≡ true → Fine m → Fine (chosen i (map (λ b. b.1) bs) m)
  chosen_same i [] m h l = l
  chosen_same i (b ∷ bs) m h l = go (is_among i b.1.labels) (b.2 (and_left b.0 (all_of (map (λ b. b.0) bs)) h)) (chosen_same i bs m (and_rest b.0 (all_of (map (λ b. b.0) bs)) h) l)
    where
      go : (c : Bool) → Fine b.1.does → Fine (chosen i (map (λ b. b.1) bs) m) → Fine (if c then b.1.does else chosen i (map (λ b. b.1) bs) m)
      go true here there = here
      go false here there = there

  operation_same : (at : Place) (o : PrimName) (vs : List RunValue) → AllInside vs → Does (operation p.kernel AtRun run_values at o vs)
  operation_same at o vs h = go (belongs (row run_values p.kernel.kinds o).stages AtRun) refl
    where
      go : (c : Bool) → belongs (row run_values p.kernel.kinds o).stages AtRun ≡ c → Does (operation p.kernel AtRun run_values at o vs)
      go true is =
          subst (λ (c : Bool). Does (if c then performing at (asked_at run_values p.kernel.kinds o vs AtRun) (perform run_values p.kernel.kinds o vs AtRun) else stop (misplaced AtRun at))) (sym is)
          (performing_same definitions blocks lambdas at (asked_at run_values p.kernel.kinds o vs AtRun) (perform run_values p.kernel.kinds o vs AtRun) (λ s fixed. asked_same p.kernel.kinds o vs s fixed is)
          (λ s fixed b. perform_same blocks (inside blocks lambdas) (inside_laws blocks lambdas) p.kernel.kinds o vs s fixed is h b))
      go false is =
          subst (λ (c : Bool). Does (if c then performing at (asked_at run_values p.kernel.kinds o vs AtRun) (perform run_values p.kernel.kinds o vs AtRun) else stop (misplaced AtRun at))) (sym is)
          (stop_same definitions blocks lambdas (misplaced AtRun at))

  -- ---- constants

  literal_in : (o : Option Value) → named_in p r (literal_names p o) ≡ true → (v : RunValue) → option_map Plain o ≡ Some v → IsInside v
  literal_in None h v e = absurd (none_some v e)
  literal_in (Some u) h v e = subst IsInside (some_same (Plain u) v e) (plain_in u h)

  given : (u : Value) → value_in p r u ≡ true → (v : RunValue) → option_map Plain (Some u) ≡ Some v → IsInside v
  given u h v e = subst IsInside (some_same (Plain u) v e) (plain_in u h)

  constant_same : (c : Constant) → constant_in p r c ≡ true → (v : RunValue) → option_map Plain (constant p.kernel c) ≡ Some v → IsInside v
  constant_same (constants.Integer i) h v e = given (value.Integer i) refl v e
  constant_same (constants.Boolean b) h v e = given (value.Boolean b) refl v e
  constant_same (constants.Char c) h v e = given (value.Char c) refl v e
  constant_same constants.Unit h v e = given value.Unit refl v e
  constant_same constants.NullAddress h v e = given (value.Address Null) refl v e
  constant_same (constants.Quoted q) h v e = literal_in (literal p.kernel q) h v e

  group_entries : (g : List GroupEntry) → group_in p r g ≡ true → entries_in blocks lambdas g ≡ true
  group_entries [] h = refl
  group_entries (e ∷ es) h = and_both (lambdas e.lambda) (entries_in blocks lambdas es) (and_left (lambdas e.lambda) (group_in p r es) h) (group_entries es (and_rest (lambdas e.lambda) (group_in p r es) h))

  -- ---- expressions

  -- calls do the same
  pub record Calls (enter : RunEnter) : Type 0 where
    pub by : (d : ℕ) (at : Place) (v : RunValue) (vs : List RunValue) → IsInside v → AllInside vs → Does (enter d at v vs)

  module _ (enter : RunEnter) (calls : Calls enter) where
    call_same : (at : Place) (f : Both R') (es : List (Both R')) (deeper : ℕ → ℕ) → (f.0 && tests es) ≡ true → (d : ℕ)
        → Does (f.1 d >>= (λ v. each p.kernel AtRun run_values (does es) d >>= (λ vs. enter (deeper d) at v vs)))
    call_same at f es deeper h d =
        then_same definitions blocks lambdas (f.2 (and_left f.0 (tests es) h) d) (λ v hv.
        then_same definitions blocks lambdas (each_same es (and_rest f.0 (tests es) h) d) (λ vs hvs. calls.by (deeper d) at v vs hv hvs))

    unit_in : IsInside (Plain value.Unit)
    unit_in = plain_in value.Unit refl

    node_same : (y : ExprKind-F (Both R) (Both R') (Both R''))
        → R
        (closed_node p r (map-ExprKind (Both R) (Both R') (Both R'') Bool Bool Bool (λ e. e.0) (λ e. e.0) (λ e. e.0) y))
        (run_node p.kernel enter (map-ExprKind (Both R) (Both R') (Both R'') (Place → RunMeaning) RunMeaning (Choice RunValue) (λ e. e.1) (λ e. e.1) (λ e. e.1) y))
    node_same (ExprKind-F.Constant c) at h d = wrong_same definitions blocks lambdas IsInside at (option_map Plain (constant p.kernel c)) (λ v e. constant_same c h v e)
    node_same (ExprKind-F.Local x) at h d = local_same definitions blocks lambdas at x
    node_same (ExprKind-F.Global g) at h d = global_same definitions blocks lambdas at g h
    node_same (ExprKind-F.Lambda l) at h d =
        then_same definitions blocks lambdas (get_locals_same definitions blocks lambdas) (λ env e. pure_same definitions blocks lambdas (closure p.kernel l env) (closure_inside blocks lambdas p.kernel l env h e))
    node_same (ExprKind-F.If a b c) at h d =
        let rest : (b.0 && c.0) ≡ true = and_rest a.0 (b.0 && c.0) h in
        then_same definitions blocks lambdas (a.2 (and_left a.0 (b.0 && c.0) h) d) (λ v hv.
        then_same definitions blocks lambdas (wrong_same definitions blocks lambdas (Anything definitions blocks lambdas) at (and_seen run_values (run_values.seen v) as_boolean) (λ t e. tt)) (λ t ht.
        either_same t (b.1 d) (c.1 d) (b.2 (and_left b.0 c.0 rest) d) (c.2 (and_rest b.0 c.0 rest) d)))
    node_same (ExprKind-F.Let x a b) at h d =
        then_same definitions blocks lambdas (a.2 (and_left a.0 b.0 h) d) (λ v hv.
        pairs_same definitions blocks lambdas ((x, v) ∷ []) (b.1 d) (and_both (inside blocks lambdas v) true hv refl) (b.2 (and_rest a.0 b.0 h) d))
    node_same (ExprKind-F.Letrec g b) at h d =
        then_same definitions blocks lambdas (get_locals_same definitions blocks lambdas) (λ env e.
        pairs_same definitions blocks lambdas (group_pairs p.kernel g env) (b.1 d) (group_inside blocks lambdas p.kernel g env (group_entries g (and_left (group_in p r g) b.0 h)) e) (b.2 (and_rest (group_in p r g) b.0 h) d))
    node_same (ExprKind-F.Begin es) at h d = order_same at es h d
    node_same (ExprKind-F.SetGlobal g a) at h d =
        then_same definitions blocks lambdas (a.2 (and_rest (definitions g) a.0 h) d) (λ v hv.
        then_same definitions blocks lambdas (set_global_same definitions blocks lambdas g v (and_left (definitions g) a.0 h) hv) (λ u hu. pure_same definitions blocks lambdas (Plain value.Unit) unit_in))
    node_same (ExprKind-F.SetLocal x a) at h d =
        then_same definitions blocks lambdas (a.2 h d) (λ v hv.
        then_same definitions blocks lambdas (set_local_same definitions blocks lambdas at x v hv) (λ u hu. pure_same definitions blocks lambdas (Plain value.Unit) unit_in))
    node_same (ExprKind-F.Case kind a bs e) at h d =
        let rest : (all_of (map (λ b. b.0) bs) && e.0) ≡ true = and_rest a.0 (all_of (map (λ b. b.0) bs) && e.0) h in
        then_same definitions blocks lambdas (a.2 (and_left a.0 (all_of (map (λ b. b.0) bs) && e.0) h) d) (λ v hv.
        then_same definitions blocks lambdas (wrong_same definitions blocks lambdas (Anything definitions blocks lambdas) at (label_of p.kernel AtRun run_values kind v) (λ t e. tt)) (λ i hi.
        chosen_same i bs e.1 (and_left (all_of (map (λ b. b.0) bs)) e.0 rest) (e.2 (and_rest (all_of (map (λ b. b.0) bs)) e.0 rest)) d))
    node_same (ExprKind-F.Call f es) at h d = call_same at f es (λ d. d + 1) h d
    node_same (ExprKind-F.ProperCall f es) at h d = call_same at f es (λ d. d) h d
    node_same (ExprKind-F.Primitive o es) at h d = then_same definitions blocks lambdas (each_same es h d) (λ vs hvs. operation_same at o vs hvs)

    pub run_same : (e : Expr) → closed p r e ≡ true → (d : ℕ) → Does (run p.kernel enter e d)
    run_same =
        related R R' R'' (closed_node p r) (λ e. e.kind) (λ b. b.body) (run_node p.kernel enter) (λ e. e.kind e.place) (λ b. record { labels = b.labels; does = b.body }) node_same (λ y h. y.kind.2 y.place h) (λ b h. b.body.2 h)

  -- ---- calls

  fitting_is : (n : ℕ) (o : Option Lambda) (m : Lambda) → fitting p.kernel n o ≡ Some m → o ≡ Some m
  fitting_is n None m e = absurd (none_some m e)
  fitting_is n (Some l) m e = one (nat_eq (length l.parameters) n) e
    where
      one : (c : Bool) → (if c then Some l else None) ≡ Some m → Some l ≡ Some m
      one true h = h
      one false h = absurd (none_some m h)

  module _ (bodies : (l : ℕ) (m : Lambda) → lambdas l ≡ true → slice_get p.kernel.lambdas l ≡ Some m → closed p r m.body ≡ true)
      (groups : (l : ℕ) (m : Lambda) → lambdas l ≡ true → slice_get p.kernel.lambdas l ≡ Some m → entries_in blocks lambdas (mentioned p.kernel l) ≡ true) where
    entering_same : (enter : RunEnter) → Calls enter → Calls (run_entering p.kernel enter)
    entering_same enter calls = record {
      by = λ d at v vs hv hvs.
          then_same definitions blocks lambdas (wrong_same definitions blocks lambdas (λ c. (as_procedure v ≡ Some c)) at (as_procedure v) (λ c e. e)) (λ c e.
          let made = is_procedure blocks lambdas v c e hv in
          let there : lambdas c.lambda ≡ true = and_left (lambdas c.lambda) (kept_inside blocks lambdas c.kept) made in
          then_same definitions blocks lambdas (wrong_same definitions blocks lambdas (λ m. (slice_get p.kernel.lambdas c.lambda ≡ Some m)) at (lambda_of p.kernel (length vs) c.lambda) (λ m is. fitting_is (length vs) (slice_get p.kernel.lambdas c.lambda) m is)) (λ m is.
          then_same definitions blocks lambdas (take_call_same definitions blocks lambdas) (λ u hu.
          then_same definitions blocks lambdas (at_depth_same definitions blocks lambdas d) (λ w hw.
          within_same definitions blocks lambdas (entered p.kernel c m vs) (run p.kernel enter m.body d)
          (entered_inside blocks lambdas p.kernel c m vs (groups c.lambda m there is) (and_rest (lambdas c.lambda) (kept_inside blocks lambdas c.kept) made) hvs)
          (run_same enter calls m.body (bodies c.lambda m there is) d)))));
    }

    none_same : Calls (λ d at v vs. stop (Ends Running))
    none_same = record { by = λ d at v vs hv hvs. stop_same definitions blocks lambdas (Ends Running) }

    pub enters_same : (n : ℕ) → Calls (run_enters p.kernel n)
    enters_same zero = entering_same (λ d at v vs. stop (Ends Running)) none_same
    enters_same (suc n) = entering_same (run_enters p.kernel n) (enters_same n)
