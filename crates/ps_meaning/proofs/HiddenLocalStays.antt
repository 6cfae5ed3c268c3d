-- An expression in which a local does not occur does the same where the local stands among the others, and it stays there.
-- For: `cases_do_what_they_unfold_to`
use Rattle.std.proofs.Common.{◌≡◌, ℕ, zero, suc, ℤ, ◌+◌, List, [], ◌∷◌, ◌++◌, map, length, Option, Some, None, refl, sym, ap, ◌∙◌, subst}
use Rattle.std.specs.Prelude.{Bool, true, false, not, nat_eq, ◌&&◌, is_some, if◌then◌else◌}
use Rattle.std.specs.List.{list_all, list_any}
use Rattle.std.specs.Option.{option_map}
use Rattle.std.proofs.lemmas.Bool.{and_parts, false≢true}
use Rattle.ps_base.specs.declared.faults.Place.{Place}
use Rattle.byte_store.specs.declared.pointer.Value.{Value}
use Rattle.byte_store.specs.Outcome.{Running, Wrong}
use Rattle.ps_prims.specs.declared.stages.Stage.{Stage}
use Rattle.ps_prims.specs.declared.stages.Stage.TheVariants.{Compile, Run as AtRun}
use Rattle.ps_prims.specs.Sorts.{Values, first_order}
use Rattle.ps_kernel.specs.declared.expr.CaseKind.{CaseKind}
use Rattle.ps_kernel.specs.declared.expr.GroupEntry.{GroupEntry}
use Rattle.ps_kernel.specs.declared.expr.Expr.{Expr}
use Rattle.ps_kernel.specs.declared.expr.ExprKind.{map-ExprKind}
use Rattle.ps_kernel.specs.declared.expr.ExprKind.TheOpen.{ExprKind-F}
use Rattle.ps_kernel.specs.declared.kernel.Kernel.{Kernel}
use Rattle.ps_kernel.specs.Rules.{is_among}
use Rattle.ps_kernel.specs.Scoped.{captured_of}
use Rattle.ps_kernel.specs.Texts.{procedure_of}
use Rattle.ps_kernel.proofs.FoldsAreRelated.{Both, related}
use Rattle.ps_runs.specs.Runs.{Env, State, Run, Ends, RunOnly, Goes, ◌>>=◌, pure, stop}
use Rattle.ps_runs.specs.Locals.{found, get_locals, put_locals, with_pairs, push_all}
use Rattle.ps_runs.specs.Effects.{take_call, at_depth}
use Rattle.ps_runs.proofs.WordsKeep.{wrongs, global_related}
use Rattle.ps_runs.proofs.HiddenLocals.{insert, hide, Moved, Hidden, hidden_keeps, then_hidden, take_call_hidden, at_depth_hidden, found_behind, local_hidden, set_local_hidden, pairs_hidden, within_hidden}
use Rattle.ps_meaning.specs.Values.{RunValue, Plain, Procedure, Binding, as_procedure, run_values, with_known, only}
use Rattle.ps_meaning.specs.Eval.{Meaning, RunEnter, RunMeaning, CompileEnter, CompileMeaning, Part, Choice, constant, lambda_of, closure, group_pairs, entered, chosen, label_of, case_of, each, in_order, all_do, call_of, letrec_lambda, keeps_locals, unless, run_node, run, run_entering, run_enters, compile_node, part_of, compile, compile_entering, compile_enters}
use Rattle.ps_meaning.specs.Unfolds.{is_other, keeps_not, entry_lacks, all_lack, lacks_node, lacks}
use Rattle.ps_meaning.proofs.BothStagesKeep.{Means, Choices, branch_related, let_related, set_definition_related, set_variable_related, operation_related}

other_is : (b : Bool) → not b ≡ true → b ≡ false
other_is true h = absurd (false≢true h)
other_is false h = refl

-- ---- what both stages have in common

module _ {V : Type 0} (k : Kernel) (stage : Stage) (values : Values V) (x : ℕ) (v : V) where
  abbrev Stays : Meaning V → Type 0
  Stays m = Means (Hidden x v) (hidden_keeps x v) k stage values m m

  abbrev AllStay : List (Meaning V) → Type 0
  AllStay [] = Unit {0}
  AllStay (m ∷ ms) = Stays m × AllStay ms

  each_stays : (ms : List (Meaning V)) → AllStay ms → (d : ℕ) → Hidden x v (List V) (each k stage values ms d) (each k stage values ms d)
  each_stays [] h d = (hidden_keeps x v).pures []
  each_stays (m ∷ ms) h d = then_hidden x v (h.0.by d) (λ w. then_hidden x v (each_stays ms h.1 d) (λ ws. (hidden_keeps x v).pures (w ∷ ws)))

  order_stays : (at : Place) (ms : List (Meaning V)) → AllStay ms → (d : ℕ) → Hidden x v V (in_order k stage values at ms d) (in_order k stage values at ms d)
  order_stays at [] h d = (hidden_keeps x v).stops (Ends (Wrong at))
  order_stays at (m ∷ []) h d = h.0.by d
  order_stays at (m ∷ n ∷ ms) h d = then_hidden x v (h.0.by d) (λ w. order_stays at (n ∷ ms) h.1 d)

  abbrev AllChoices : List (Choice V) → Type 0
  AllChoices [] = Unit {0}
  AllChoices (c ∷ cs) = Stays c.does × AllChoices cs

  one_of : (t : Bool) (m n : Meaning V) → Stays m → Stays n → Stays (if t then m else n)
  one_of true m n h i = h
  one_of false m n h i = i

  chosen_stays : (i : ℤ) (cs : List (Choice V)) (e : Meaning V) → AllChoices cs → Stays e → Stays (chosen i cs e)
  chosen_stays i [] e h he = he
  chosen_stays i (c ∷ cs) e h he = one_of (is_among i c.labels) c.does (chosen i cs e) h.0 (chosen_stays i cs e h.1 he)

  case_stays : (at : Place) (kind : CaseKind) (a : Meaning V) (cs : List (Choice V)) (e : Meaning V) → Stays a → AllChoices cs → Stays e → Stays (case_of k stage values at kind a cs e)
  case_stays at kind a cs e ha hs he = record {
    by = λ d. then_hidden x v (ha.by d) (λ w. then_hidden x v (wrongs (Hidden x v) (hidden_keeps x v) at (label_of k stage values kind w)) (λ i. (chosen_stays i cs e hs he).by d));
  }

-- ---- run time

only_behind : (k : Kernel) (x : ℕ) (v : RunValue) (xs : List ℕ) → list_all (is_other k x) xs ≡ true → (n : ℕ) (env : Env RunValue) → only xs (insert x v n env) ≡ only xs env
only_behind k x v [] h n env = refl
only_behind k x v (y ∷ ys) h n env =
    let parts = and_parts (is_other k x y) (list_all (is_other k x) ys) h in
    ap (λ o. with_known y o (only ys (insert x v n env))) (found_behind x v y (other_is (nat_eq y x) parts.0) n env) ∙
    ap (with_known y (found y env)) (only_behind k x v ys parts.1 n env)

module _ (k : Kernel) (x : ℕ) (v : RunValue) (f : RunEnter)
    (enter : (d : ℕ) (at : Place) (w : RunValue) (ws : List RunValue) → Hidden x v RunValue (f d at w ws) (f d at w ws)) where
  abbrev RunStays : RunMeaning → Type 0
  RunStays = Stays k AtRun run_values x v

  record ExprStays (b : Bool) (m : RunMeaning) : Type 0 where
    stays : b ≡ true → RunStays m

  record KindStays (b : Bool) (m : Place → RunMeaning) : Type 0 where
    at : b ≡ true → (p : Place) → RunStays (m p)

  record ChoiceStays (b : Bool) (c : Choice RunValue) : Type 0 where
    stays : b ≡ true → RunStays c.does

  all_stay : (ms : List (Both ExprStays)) → all_lack k x (map (λ m. m.0) ms) ≡ true → AllStay k AtRun run_values x v (map (λ m. m.1) ms)
  all_stay [] h = tt
  all_stay (m ∷ ms) h =
      let parts = and_parts m.0 (all_lack k x (map (λ m. m.0) ms)) h in
      (m.2.stays parts.0, all_stay ms parts.1)

  all_choices : (cs : List (Both ChoiceStays)) → all_lack k x (map (λ c. c.0) cs) ≡ true → AllChoices k AtRun run_values x v (map (λ c. c.1) cs)
  all_choices [] h = tt
  all_choices (c ∷ cs) h =
      let parts = and_parts c.0 (all_lack k x (map (λ c. c.0) cs)) h in
      (c.2.stays parts.0, all_choices cs parts.1)

  closure_behind : (l : ℕ) → keeps_not k x l ≡ true → (n : ℕ) (env : Env RunValue) → closure k l (insert x v n env) ≡ closure k l env
  closure_behind l h n env = ap (Procedure l) (only_behind k x v (captured_of k l) h n env)

  lambda_hidden : (l : ℕ) → keeps_not k x l ≡ true → Hidden x v RunValue (get_locals >>= (λ env. pure (closure k l env))) (get_locals >>= (λ env. pure (closure k l env)))
  lambda_hidden l h = record { by = λ n s le. (le, ap (λ w. Goes w (hide x v n s)) (closure_behind l h n s.locals)) }

  group_behind : (g : List GroupEntry) → list_all (entry_lacks k x) g ≡ true → (n : ℕ) (env : Env RunValue) → group_pairs k g (insert x v n env) ≡ group_pairs k g env
  group_behind [] h n env = refl
  group_behind (e ∷ es) h n env =
      let parts = and_parts (entry_lacks k x e) (list_all (entry_lacks k x) es) h in
      ap (λ w. (e.local, w) ∷ group_pairs k es (insert x v n env)) (closure_behind e.lambda parts.0 n env) ∙ ap (λ ps. (e.local, closure k e.lambda env) ∷ ps) (group_behind es parts.1 n env)

  letrec_hidden : (g : List GroupEntry) → list_all (entry_lacks k x) g ≡ true → (p : Run RunValue RunValue) → Hidden x v RunValue p p
      → Hidden x v RunValue (get_locals >>= (λ env. with_pairs (group_pairs k g env) p)) (get_locals >>= (λ env. with_pairs (group_pairs k g env) p))
  letrec_hidden g h p hp = record {
    by = λ n s le. subst (λ ps. Moved x v n (with_pairs (group_pairs k g s.locals) p s) (with_pairs ps p (hide x v n s))) (sym (group_behind g h n s.locals)) ((pairs_hidden x v (group_pairs k g s.locals) p p hp).by n s le);
  }

  node_stays : (y : ExprKind-F (Both KindStays) (Both ExprStays) (Both ChoiceStays))
      → KindStays
      (lacks_node k x (map-ExprKind (Both KindStays) (Both ExprStays) (Both ChoiceStays) Bool Bool Bool (λ m. m.0) (λ m. m.0) (λ m. m.0) y))
      (run_node k f (map-ExprKind (Both KindStays) (Both ExprStays) (Both ChoiceStays) (Place → RunMeaning) RunMeaning (Choice RunValue) (λ m. m.1) (λ m. m.1) (λ m. m.1) y))
  node_stays (ExprKind-F.Constant c) = record { at = λ h p. record { by = λ d. wrongs (Hidden x v) (hidden_keeps x v) p (option_map Plain (constant k c)) } }
  node_stays (ExprKind-F.Local y) = record { at = λ h p. record { by = λ d. local_hidden x v y (other_is (nat_eq y x) h) p } }
  node_stays (ExprKind-F.Global g) = record { at = λ h p. record { by = λ d. global_related (Hidden x v) (hidden_keeps x v) p g } }
  node_stays (ExprKind-F.Lambda l) = record { at = λ h p. record { by = λ d. lambda_hidden l h } }
  node_stays (ExprKind-F.If a b c) = record {
    at = λ h p. let outer = and_parts a.0 (b.0 && c.0) h in let inner = and_parts b.0 c.0 outer.1 in
        branch_related (Hidden x v) (hidden_keeps x v) k AtRun run_values p a.1 b.1 c.1 a.1 b.1 c.1 (a.2.stays outer.0) (b.2.stays inner.0) (c.2.stays inner.1);
  }
  node_stays (ExprKind-F.Let y a b) = record {
    at = λ h p. let parts = and_parts a.0 b.0 h in
        let_related (Hidden x v) (hidden_keeps x v) k AtRun run_values (pairs_hidden x v) y a.1 b.1 a.1 b.1 (a.2.stays parts.0) (b.2.stays parts.1);
  }
  node_stays (ExprKind-F.Letrec g b) = record {
    at = λ h p. let parts = and_parts (list_all (entry_lacks k x) g) b.0 h in record { by = λ d. letrec_hidden g parts.0 (b.1 d) ((b.2.stays parts.1).by d) };
  }
  node_stays (ExprKind-F.Begin ms) = record { at = λ h p. record { by = order_stays k AtRun run_values x v p (map (λ m. m.1) ms) (all_stay ms h) } }
  node_stays (ExprKind-F.SetGlobal g a) = record { at = λ h p. set_definition_related (Hidden x v) (hidden_keeps x v) k AtRun run_values g a.1 a.1 (a.2.stays h) }
  node_stays (ExprKind-F.SetLocal y a) = record {
    at = λ h p. let parts = and_parts (is_other k x y) a.0 h in
        set_variable_related (Hidden x v) (hidden_keeps x v) k AtRun run_values p y (set_local_hidden x v y (other_is (nat_eq y x) parts.0) p) a.1 a.1 (a.2.stays parts.1);
  }
  node_stays (ExprKind-F.Case kind a cs e) = record {
    at = λ h p. let outer = and_parts a.0 (all_lack k x (map (λ c. c.0) cs) && e.0) h in let inner = and_parts (all_lack k x (map (λ c. c.0) cs)) e.0 outer.1 in
        case_stays k AtRun run_values x v p kind a.1 (map (λ c. c.1) cs) e.1 (a.2.stays outer.0) (all_choices cs inner.0) (e.2.stays inner.1);
  }
  node_stays (ExprKind-F.Call a ms) = record {
    at = λ h p. let parts = and_parts a.0 (all_lack k x (map (λ m. m.0) ms)) h in
        record { by = λ d. then_hidden x v ((a.2.stays parts.0).by d) (λ w. then_hidden x v (each_stays k AtRun run_values x v (map (λ m. m.1) ms) (all_stay ms parts.1) d) (λ ws. enter (d + 1) p w ws)) };
  }
  node_stays (ExprKind-F.ProperCall a ms) = record {
    at = λ h p. let parts = and_parts a.0 (all_lack k x (map (λ m. m.0) ms)) h in
        record { by = λ d. then_hidden x v ((a.2.stays parts.0).by d) (λ w. then_hidden x v (each_stays k AtRun run_values x v (map (λ m. m.1) ms) (all_stay ms parts.1) d) (λ ws. enter d p w ws)) };
  }
  node_stays (ExprKind-F.Primitive o ms) = record {
    at = λ h p. record { by = λ d. then_hidden x v (each_stays k AtRun run_values x v (map (λ m. m.1) ms) (all_stay ms h) d) (λ ws. operation_related (Hidden x v) (hidden_keeps x v) k AtRun run_values p o ws) };
  }

  pub run_stays : (e : Expr) → lacks k x e ≡ true → RunStays (run k f e)
  run_stays e h = (related KindStays ExprStays ChoiceStays (lacks_node k x) (λ e. e.kind) (λ b. b.body) (run_node k f) (λ e. e.kind e.place) (λ b. record { labels = b.labels; does = b.body }) node_stays (λ y. record { stays = λ h. y.kind.2.at h y.place }) (λ b. record { stays = b.body.2.stays }) e).stays h

  entering_hidden : (d : ℕ) (at : Place) (w : RunValue) (ws : List RunValue) → Hidden x v RunValue (run_entering k f d at w ws) (run_entering k f d at w ws)
  entering_hidden d at w ws =
      then_hidden x v (wrongs (Hidden x v) (hidden_keeps x v) at (as_procedure w)) (λ c.
      then_hidden x v (wrongs (Hidden x v) (hidden_keeps x v) at (lambda_of k (length ws) c.lambda)) (λ m.
      then_hidden x v (take_call_hidden x v) (λ u. then_hidden x v (at_depth_hidden x v d) (λ t. within_hidden x v (entered k c m ws) (run k f m.body d)))))

pub run_enters_hidden : (k : Kernel) (x : ℕ) (v : RunValue) (n d : ℕ) (at : Place) (w : RunValue) (ws : List RunValue) → Hidden x v RunValue (run_enters k n d at w ws) (run_enters k n d at w ws)
run_enters_hidden k x v zero d at w ws = entering_hidden k x v (λ d at v vs. stop (Ends Running)) (λ d at w ws. (hidden_keeps x v).stops (Ends Running)) d at w ws
run_enters_hidden k x v (suc n) d at w ws = entering_hidden k x v (run_enters k n) (run_enters_hidden k x v n) d at w ws

-- ---- compile time

module _ (k : Kernel) (x : ℕ) (v : Value) (f : CompileEnter)
    (enter : (d : ℕ) (at : Place) (l : ℕ) (ws : List Value) → Hidden x v Value (f d at l ws) (f d at l ws)) where
  abbrev CompileStays : CompileMeaning → Type 0
  CompileStays = Stays k Compile first_order x v

  record PartStays (b : Bool) (p : Part) : Type 0 where
    stays : b ≡ true → CompileStays p.does

  record KindPartStays (b : Bool) (m : Place → Part) : Type 0 where
    at : b ≡ true → (p : Place) → CompileStays (m p).does

  record ChoicePartStays (b : Bool) (c : Choice Value) : Type 0 where
    stays : b ≡ true → CompileStays c.does

  parts_stay : (ps : List (Both PartStays)) → all_lack k x (map (λ p. p.0) ps) ≡ true → AllStay k Compile first_order x v (all_do k (map (λ p. p.1) ps))
  parts_stay [] h = tt
  parts_stay (p ∷ ps) h =
      let parts = and_parts p.0 (all_lack k x (map (λ p. p.0) ps)) h in
      (p.2.stays parts.0, parts_stay ps parts.1)

  choice_parts : (cs : List (Both ChoicePartStays)) → all_lack k x (map (λ c. c.0) cs) ≡ true → AllChoices k Compile first_order x v (map (λ c. c.1) cs)
  choice_parts [] h = tt
  choice_parts (c ∷ cs) h =
      let parts = and_parts c.0 (all_lack k x (map (λ c. c.0) cs)) h in
      (c.2.stays parts.0, choice_parts cs parts.1)

  unless_stays : (b : Bool) (at : Place) (m : CompileMeaning) → CompileStays m → CompileStays (unless k b at m)
  unless_stays true at m h = record { by = λ d. (hidden_keeps x v).stops (RunOnly at) }
  unless_stays false at m h = h

  call_stays : (o : Option ℕ) (deeper : ℕ) (at : Place) (ps : List (Both PartStays)) → all_lack k x (map (λ p. p.0) ps) ≡ true → CompileStays (call_of k f o deeper at (map (λ p. p.1) ps))
  call_stays None deeper at ps h = record { by = λ d. (hidden_keeps x v).stops (RunOnly at) }
  call_stays (Some l) deeper at ps h = record {
    by = λ d. then_hidden x v (each_stays k Compile first_order x v (all_do k (map (λ p. p.1) ps)) (parts_stay ps h) d) (λ ws. enter (d + deeper) at l ws);
  }

  part_node_stays : (y : ExprKind-F (Both KindPartStays) (Both PartStays) (Both ChoicePartStays))
      → KindPartStays
      (lacks_node k x (map-ExprKind (Both KindPartStays) (Both PartStays) (Both ChoicePartStays) Bool Bool Bool (λ m. m.0) (λ m. m.0) (λ m. m.0) y))
      (compile_node k f (map-ExprKind (Both KindPartStays) (Both PartStays) (Both ChoicePartStays) (Place → Part) Part (Choice Value) (λ m. m.1) (λ m. m.1) (λ m. m.1) y))
  part_node_stays (ExprKind-F.Constant c) = record { at = λ h p. record { by = λ d. wrongs (Hidden x v) (hidden_keeps x v) p (constant k c) } }
  part_node_stays (ExprKind-F.Local y) = record { at = λ h p. unless_stays (is_some (letrec_lambda k y)) p _ (record { by = λ d. local_hidden x v y (other_is (nat_eq y x) h) p }) }
  part_node_stays (ExprKind-F.Global g) = record { at = λ h p. unless_stays (is_some (procedure_of k g)) p _ (record { by = λ d. global_related (Hidden x v) (hidden_keeps x v) p g }) }
  part_node_stays (ExprKind-F.Lambda l) = record { at = λ h p. record { by = λ d. (hidden_keeps x v).stops (RunOnly p) } }
  part_node_stays (ExprKind-F.If a b c) = record {
    at = λ h p. let outer = and_parts a.0 (b.0 && c.0) h in let inner = and_parts b.0 c.0 outer.1 in
        branch_related (Hidden x v) (hidden_keeps x v) k Compile first_order p _ _ _ _ _ _ (a.2.stays outer.0) (b.2.stays inner.0) (c.2.stays inner.1);
  }
  part_node_stays (ExprKind-F.Let y a b) = record {
    at = λ h p. let parts = and_parts a.0 b.0 h in
        let_related (Hidden x v) (hidden_keeps x v) k Compile first_order (pairs_hidden x v) y _ _ _ _ (a.2.stays parts.0) (b.2.stays parts.1);
  }
  part_node_stays (ExprKind-F.Letrec g b) = record {
    at = λ h p. let parts = and_parts (list_all (entry_lacks k x) g) b.0 h in unless_stays (list_any (keeps_locals k) g) p _ (b.2.stays parts.1);
  }
  part_node_stays (ExprKind-F.Begin ps) = record { at = λ h p. record { by = order_stays k Compile first_order x v p (all_do k (map (λ m. m.1) ps)) (parts_stay ps h) } }
  part_node_stays (ExprKind-F.SetGlobal g a) = record { at = λ h p. unless_stays (is_some (procedure_of k g)) p _ (set_definition_related (Hidden x v) (hidden_keeps x v) k Compile first_order g _ _ (a.2.stays h)) }
  part_node_stays (ExprKind-F.SetLocal y a) = record {
    at = λ h p. let parts = and_parts (is_other k x y) a.0 h in
        set_variable_related (Hidden x v) (hidden_keeps x v) k Compile first_order p y (set_local_hidden x v y (other_is (nat_eq y x) parts.0) p) _ _ (a.2.stays parts.1);
  }
  part_node_stays (ExprKind-F.Case kind a cs e) = record {
    at = λ h p. let outer = and_parts a.0 (all_lack k x (map (λ c. c.0) cs) && e.0) h in let inner = and_parts (all_lack k x (map (λ c. c.0) cs)) e.0 outer.1 in
        case_stays k Compile first_order x v p kind a.1.does (map (λ c. c.1) cs) e.1.does (a.2.stays outer.0) (choice_parts cs inner.0) (e.2.stays inner.1);
  }
  part_node_stays (ExprKind-F.Call a ps) = record { at = λ h p. let parts = and_parts a.0 (all_lack k x (map (λ m. m.0) ps)) h in call_stays a.1.names 1 p ps parts.1 }
  part_node_stays (ExprKind-F.ProperCall a ps) = record { at = λ h p. let parts = and_parts a.0 (all_lack k x (map (λ m. m.0) ps)) h in call_stays a.1.names 0 p ps parts.1 }
  part_node_stays (ExprKind-F.Primitive o ps) = record {
    at = λ h p. record { by = λ d. then_hidden x v (each_stays k Compile first_order x v (all_do k (map (λ m. m.1) ps)) (parts_stay ps h) d) (λ ws. operation_related (Hidden x v) (hidden_keeps x v) k Compile first_order p o ws) };
  }

  pub compile_stays : (e : Expr) → lacks k x e ≡ true → CompileStays (compile k f e)
  compile_stays e h = (related KindPartStays PartStays ChoicePartStays (lacks_node k x) (λ e. e.kind) (λ b. b.body) (compile_node k f) (λ e. e.kind e.place) (λ b. record { labels = b.labels; does = b.body.does }) part_node_stays (λ y. record { stays = λ h. y.kind.2.at h y.place }) (λ b. record { stays = b.body.2.stays }) e).stays h

  compile_entering_hidden : (d : ℕ) (at : Place) (l : ℕ) (ws : List Value) → Hidden x v Value (compile_entering k f d at l ws) (compile_entering k f d at l ws)
  compile_entering_hidden d at l ws =
      then_hidden x v (wrongs (Hidden x v) (hidden_keeps x v) at (lambda_of k (length ws) l)) (λ m.
      then_hidden x v (take_call_hidden x v) (λ u. then_hidden x v (at_depth_hidden x v d) (λ t. within_hidden x v (push_all m.parameters ws []) (compile k f m.body d))))

pub compile_enters_hidden : (k : Kernel) (x : ℕ) (v : Value) (n d : ℕ) (at : Place) (l : ℕ) (ws : List Value) → Hidden x v Value (compile_enters k n d at l ws) (compile_enters k n d at l ws)
compile_enters_hidden k x v zero d at l ws = compile_entering_hidden k x v (λ d at l vs. stop (Ends Running)) (λ d at l ws. (hidden_keeps x v).stops (Ends Running)) d at l ws
compile_enters_hidden k x v (suc n) d at l ws = compile_entering_hidden k x v (compile_enters k n) (compile_enters_hidden k x v n) d at l ws
