-- A relation of parts of runs that the words of runs keep, whatever the depth, is kept by what both stages have in common.
-- For: `evaluate`
use Rattle.std.proofs.Common.{◌≡◌, ℕ, ℤ, List, [], ◌∷◌, map, subst}
use Rattle.std.specs.Prelude.{Bool, true, false, if◌then◌else◌}
use Rattle.ps_base.specs.declared.faults.Place.{Place}
use Rattle.ps_base.specs.declared.language.PrimName.{PrimName}
use Rattle.byte_store.specs.declared.pointer.Value.TheVariants as value
use Rattle.byte_store.specs.Outcome.{Wrong}
use Rattle.ps_prims.specs.declared.stages.Stage.{Stage}
use Rattle.ps_prims.specs.Sorts.{Values, and_seen, as_boolean}
use Rattle.ps_prims.specs.Rows.{row, perform}
use Rattle.ps_prims.specs.Cells.{asked_at}
use Rattle.ps_kernel.specs.declared.expr.CaseKind.{CaseKind}
use Rattle.ps_kernel.specs.declared.kernel.Kernel.{Kernel}
use Rattle.ps_kernel.specs.Rules.{is_among}
use Rattle.ps_kernel.proofs.FoldsAreRelated.{Both}
use Rattle.ps_runs.specs.Runs.{Env, Run, Ends, stop}
use Rattle.ps_runs.specs.Locals.{set_local, with_pairs}
use Rattle.ps_runs.specs.Effects.{performing}
use Rattle.ps_runs.proofs.WordsKeep.{Relation, Keeps, wrongs, set_global_related}
use Rattle.ps_meaning.specs.Eval.{Meaning, Choice, belongs, misplaced, chosen, each, in_order, either, branch, let_in, set_definition, set_variable, label_of, case_of, operation, primitive}

module _ {V : Type 0} (R : Relation V) (keeps : Keeps V R) (k : Kernel) (stage : Stage) (values : Values V) where
  -- the meanings of an expression are related, the one at each depth, the other at depth 0
  pub record Means (m n : Meaning V) : Type 0 where
    pub by : (d : ℕ) → R V (m d) (n 0)

  abbrev pub Meanings : Type 0
  Meanings = List (Both Means)

  abbrev pub lefts : Meanings → List (Meaning V)
  lefts ms = map (λ m. m.0) ms

  abbrev pub rights : Meanings → List (Meaning V)
  rights ms = map (λ m. m.1) ms

  pub each_related : (ms : Meanings) (d : ℕ) → R (List V) (each k stage values (lefts ms) d) (each k stage values (rights ms) 0)
  each_related [] d = keeps.pures []
  each_related (m ∷ ms) d = keeps.thens (m.2.by d) (λ v. keeps.thens (each_related ms d) (λ vs. keeps.pures (v ∷ vs)))

  order_related : (at : Place) (ms : Meanings) (d : ℕ) → R V (in_order k stage values at (lefts ms) d) (in_order k stage values at (rights ms) 0)
  order_related at [] d = keeps.stops (Ends (Wrong at))
  order_related at (m ∷ []) d = m.2.by d
  order_related at (m ∷ n ∷ ms) d = keeps.thens (m.2.by d) (λ v. order_related at (n ∷ ms) d)

  pub in_order_related : (at : Place) (ms : Meanings) → Means (in_order k stage values at (lefts ms)) (in_order k stage values at (rights ms))
  in_order_related at ms = record { by = order_related at ms }

  either_related : (b : Bool) (p q p' q' : Run V V) → R V p p' → R V q q' → R V (either k stage values b p q) (either k stage values b p' q')
  either_related true p q p' q' h i = h
  either_related false p q p' q' h i = i

  pub branch_related : (at : Place) (a b c a' b' c' : Meaning V) → Means a a' → Means b b' → Means c c' → Means (branch k stage values at a b c) (branch k stage values at a' b' c')
  branch_related at a b c a' b' c' ha hb hc = record {
    by = λ d. keeps.thens (ha.by d) (λ v. keeps.thens (wrongs R keeps at (and_seen values (values.seen v) as_boolean)) (λ t. either_related t (b d) (c d) (b' 0) (c' 0) (hb.by d) (hc.by d)));
  }

  -- binding locals keeps it
  abbrev pub BindsRelated : Type 0
  BindsRelated = (pairs : Env V) (p q : Run V V) → R V p q → R V (with_pairs pairs p) (with_pairs pairs q)

  pub let_related : BindsRelated → (x : ℕ) (a b a' b' : Meaning V) → Means a a' → Means b b' → Means (let_in k stage values x a b) (let_in k stage values x a' b')
  let_related binds x a b a' b' ha hb = record { by = λ d. keeps.thens (ha.by d) (λ v. binds ((x, v) ∷ []) (b d) (b' 0) (hb.by d)) }

  pub set_definition_related : (g : ℕ) (a a' : Meaning V) → Means a a' → Means (set_definition k stage values g a) (set_definition k stage values g a')
  set_definition_related g a a' h = record {
    by = λ d. keeps.thens (h.by d) (λ v. keeps.thens (set_global_related R keeps g v) (λ u. keeps.pures (values.of value.Unit)));
  }

  pub set_variable_related : (at : Place) (x : ℕ) → ((v : V) → R (Unit {0}) (set_local at x v) (set_local at x v)) → (a a' : Meaning V) → Means a a' → Means (set_variable k stage values at x a) (set_variable k stage values at x a')
  set_variable_related at x sets a a' h = record {
    by = λ d. keeps.thens (h.by d) (λ v. keeps.thens (sets v) (λ u. keeps.pures (values.of value.Unit)));
  }

  -- branches with the same labels do what is related
  pub record Choices (b c : Choice V) : Type 0 where
    pub same : b.labels ≡ c.labels
    pub means : Means b.does c.does

  one_of : (t : Bool) (m n m' n' : Meaning V) → Means m m' → Means n n' → Means (if t then m else n) (if t then m' else n')
  one_of true m n m' n' h i = h
  one_of false m n m' n' h i = i

  chosen_related : (i : ℤ) (bs : List (Both Choices)) (e e' : Meaning V) → Means e e' → Means (chosen i (map (λ b. b.0) bs) e) (chosen i (map (λ b. b.1) bs) e')
  chosen_related i [] e e' h = h
  chosen_related i (b ∷ bs) e e' h =
      subst (λ ls. Means (if is_among i b.0.labels then b.0.does else chosen i (map (λ b. b.0) bs) e) (if is_among i ls then b.1.does else chosen i (map (λ b. b.1) bs) e')) b.2.same
      (one_of (is_among i b.0.labels) _ _ _ _ b.2.means (chosen_related i bs e e' h))

  pub case_related : (at : Place) (kind : CaseKind) (a a' : Meaning V) (bs : List (Both Choices)) (e e' : Meaning V) → Means a a' → Means e e'
      → Means (case_of k stage values at kind a (map (λ b. b.0) bs) e) (case_of k stage values at kind a' (map (λ b. b.1) bs) e')
  case_related at kind a a' bs e e' ha he = record {
    by = λ d. keeps.thens (ha.by d) (λ v. keeps.thens (wrongs R keeps at (label_of k stage values kind v)) (λ i. (chosen_related i bs e e' he).by d));
  }

  placed : (b : Bool) (at : Place) (p : Run V V) → R V p p → R V (if b then p else stop (misplaced stage at)) (if b then p else stop (misplaced stage at))
  placed true at p h = h
  placed false at p h = keeps.stops (misplaced stage at)

  pub operation_related : (at : Place) (p : PrimName) (vs : List V) → R V (operation k stage values at p vs) (operation k stage values at p vs)
  operation_related at p vs =
      placed (belongs (row values k.kinds p).stages stage) at (performing at (asked_at values k.kinds p vs stage) (perform values k.kinds p vs stage)) (keeps.performs at (asked_at values k.kinds p vs stage) (perform values k.kinds p vs stage))

  pub primitive_related : (at : Place) (p : PrimName) (ms : Meanings) → Means (primitive k stage values at p (lefts ms)) (primitive k stage values at p (rights ms))
  primitive_related at p ms = record { by = λ d. keeps.thens (each_related ms d) (λ vs. operation_related at p vs) }
