-- What survives is begun with as it was left: each copied value, block and definition is what it is a copy of.
-- For: `survivors_run_alike`
use Rattle.std.proofs.Common.{◌≡◌, ℕ, zero, suc, ◌+◌, ◌<◌, List, [], ◌∷◌, ◌++◌, map, Bool, true, false, Option, Some, None, refl, sym, ap, ◌∙◌, subst, arith}
use Rattle.std.specs.Prelude.{◌||◌, nat_eq, slice_get, if◌then◌else◌}
use Rattle.std.specs.Option.{option_map}
use Rattle.std.proofs.lemmas.Bool.{eqb-true, eq-eqb}
use Rattle.ps_base.proofs.Choices.{true_false}
use Rattle.byte_store.specs.declared.pointer.Pointer.{Pointer}
use Rattle.byte_store.specs.declared.pointer.Value.{Value}
use Rattle.byte_store.specs.declared.pointer.Value.TheVariants as value
use Rattle.byte_store.specs.Blocks.{Memory, Block, Bytes, Cells, Freed, find}
use Rattle.byte_store.specs.Mapping.{map_block, map_numbered}
use Rattle.ps_types.specs.declared.types.RecordKind.{RecordKind}
use Rattle.ps_kernel.specs.declared.survivors.KeptGlobal.{KeptGlobal}
use Rattle.ps_kernel.specs.declared.survivors.KeptProcedure.{KeptProcedure}
use Rattle.ps_kernel.specs.declared.survivors.NumberedBlock.{NumberedBlock}
use Rattle.ps_kernel.specs.Texts.{procedure_of}
use Rattle.ps_meaning.specs.declared.values.RunValue.{RunValue}
use Rattle.ps_meaning.specs.declared.values.RunValue.TheVariants.{Plain}
use Rattle.ps_meaning.specs.Literals.{start_of}
use Rattle.ps_meaning.specs.Left.{IsText, LeadsTo, IsLeftValue, IsLeftOption, AreLeftCells, IsLeftBlock, AreLeftBlocks, AreLeftGlobals}
use Rattle.ps_meaning.specs.Source.{Program}
use Rattle.ps_survive.specs.declared.steps.Node.{Node}
use Rattle.ps_survive.specs.declared.steps.Node.TheVariants as nodes
use Rattle.ps_survive.specs.Steps.{has}
use Rattle.ps_survive.specs.Kept as kept
use Rattle.ps_survive.specs.Kept.{number_of, kept_value, kept_bytes, kept_cells, kept_block, procedure_at, procedure_in, procedures, global_at, globals}
use Rattle.ps_surviving.specs.Begun.{value_of, block_of, lambda_among, value_among}
use Rattle.ps_surviving.proofs.ChangesPutOne.{none_some, some_same}

module _ (kinds : List RecordKind) (m : Memory Value) where
  leads_back : (P : Option (Block Value) → Type 0) (q : Pointer) → LeadsTo m P q → start_of (number_of q) ≡ q
  leads_back P q h = ap (λ z. start_of (number_of z)) h.is ∙ sym h.is

  value_back : (v : Value) → IsLeftValue kinds m v → value_of (kept_value v) ≡ v
  value_back (value.Integer i) h = refl
  value_back (value.Boolean b) h = refl
  value_back (value.Char c) h = refl
  value_back value.Unit h = refl
  value_back (value.Address q) h = ap value.Address (sym h)
  value_back (value.Text q) h = ap value.Text (leads_back _ q h)
  value_back (value.Vector q) h = ap value.Vector (leads_back _ q h)
  value_back (value.Tuple k q) h = ap (value.Tuple k) (leads_back _ q h)

  cells_back : (cs : List (Option Value)) → AreLeftCells kinds m cs → map (λ c. Some (value_of c)) (kept_cells cs) ≡ cs
  cells_back [] h = refl
  cells_back (None ∷ cs) h = absurd h.0
  cells_back (Some v ∷ cs) h = ap (λ u. Some u ∷ map (λ c. Some (value_of c)) (kept_cells cs)) (value_back v h.0) ∙ ap (λ ds. Some v ∷ ds) (cells_back cs h.1)

  set_bytes : (bytes : List ℕ) → kept_bytes (map Some bytes) ≡ bytes
  set_bytes [] = refl
  set_bytes (b ∷ bytes) = ap (λ bs. b ∷ bs) (set_bytes bytes)

  abbrev bytes_in : Block Value → List (Option ℕ)
  bytes_in (Bytes bytes) = bytes
  bytes_in (Cells cells) = []
  bytes_in (Freed n) = []

  text_back : (bytes : List (Option ℕ)) → IsText (Some (Bytes bytes)) → map Some (kept_bytes bytes) ≡ bytes
  text_back bytes h =
      let is : bytes ≡ map Some (h.bytes ++ 0 ∷ []) = bytes_same (some_same (Bytes bytes) (Bytes (map Some (h.bytes ++ 0 ∷ []))) h.is) in
      ap (λ bs. map Some (kept_bytes bs)) is ∙ ap (map Some) (set_bytes (h.bytes ++ 0 ∷ [])) ∙ sym is
    where
      bytes_same : {xs ys : List (Option ℕ)} → ◌≡◌ {A = Block Value} (Bytes xs) (Bytes ys) → xs ≡ ys
      bytes_same e = ap bytes_in e

  block_back : (b : Block Value) → IsLeftBlock kinds m b → block_of (kept_block b) ≡ b
  block_back (Bytes bytes) h = ap Bytes (text_back bytes h)
  block_back (Cells cells) h = ap Cells (cells_back cells h)
  block_back (Freed n) h = absurd h

  -- ---- blocks

  abbrev begun : NumberedBlock → ℕ × Block RunValue
  begun b = map_numbered Plain (b.number, block_of b.block)

  -- the blocks of survivors, and all blocks, as a run begins with them
  abbrev pub kept_fixed : (Node → Bool) → List (ℕ × Block Value) → List (ℕ × Block RunValue)
  kept_fixed seen es = map (map_numbered Plain) (map (λ (b : NumberedBlock). (b.number, block_of b.block)) (kept.blocks seen es))

  abbrev pub all_fixed : List (ℕ × Block Value) → List (ℕ × Block RunValue)
  all_fixed es = map (map_numbered Plain) es

  pub block_kept : (seen : Node → Bool) (n : ℕ) (es : List (ℕ × Block Value)) → AreLeftBlocks kinds m es → seen (nodes.Data n) ≡ true → find n (kept_fixed seen es) ≡ find n (all_fixed es)
  block_kept seen n [] h is = refl
  block_kept seen n (e ∷ es) h is = one (seen (nodes.Data e.0)) (nat_eq n e.0) refl refl (block_kept seen n es h.1 is)
    where
      one : (c d : Bool) → seen (nodes.Data e.0) ≡ c → nat_eq n e.0 ≡ d → find n (kept_fixed seen es) ≡ find n (all_fixed es)
          → find n (map (map_numbered Plain) (map (λ (b : NumberedBlock). (b.number, block_of b.block)) (if c then record { number = e.0; block = kept_block e.1 } ∷ kept.blocks seen es else kept.blocks seen es)))
          ≡ find n (all_fixed (e ∷ es))
      one true d i j later = ap (λ b. if nat_eq n e.0 then Some (map_block Plain b) else find n (kept_fixed seen es)) (block_back e.1 h.0) ∙ ap (λ o. if nat_eq n e.0 then Some (map_block Plain e.1) else o) later
      one false true i j later = true_false (sym is ∙ ap (λ k. seen (nodes.Data k)) (eqb-true n e.0 j) ∙ i)
      one false false i j later = later ∙ sym (ap (λ (b : Bool). if b then Some (map_block Plain e.1) else find n (all_fixed es)) j)

  pub block_absent : (seen : Node → Bool) (n : ℕ) (es : List (ℕ × Block Value)) → find n es ≡ None → (find n (kept_fixed seen es) ≡ None) × (find n (all_fixed es) ≡ None)
  block_absent seen n [] h = (refl, refl)
  block_absent seen n (e ∷ es) h = one (seen (nodes.Data e.0)) (nat_eq n e.0) refl (λ g. block_absent seen n es g) h
    where
      one : (c d : Bool) → nat_eq n e.0 ≡ d → (find n es ≡ None → (find n (kept_fixed seen es) ≡ None) × (find n (all_fixed es) ≡ None)) → (if d then Some e.1 else find n es) ≡ None
          → (find n (map (map_numbered Plain) (map (λ (b : NumberedBlock). (b.number, block_of b.block)) (if c then record { number = e.0; block = kept_block e.1 } ∷ kept.blocks seen es else kept.blocks seen es))) ≡ None)
          × (find n (all_fixed (e ∷ es)) ≡ None)
      one c true i later g = absurd (none_some e.1 (sym g))
      one true false i later g =
          let r = later g in
          (ap (λ (b : Bool). if b then Some (map_block Plain (block_of (kept_block e.1))) else find n (kept_fixed seen es)) i ∙ r.0, ap (λ (b : Bool). if b then Some (map_block Plain e.1) else find n (all_fixed es)) i ∙ r.1)
      one false false i later g = let r = later g in (r.0, ap (λ (b : Bool). if b then Some (map_block Plain e.1) else find n (all_fixed es)) i ∙ r.1)

-- ---- definitions

module _ (p : Program) where
  -- the entry of a definition is not that of another
  abbrev one_lambda : ℕ → ℕ → ℕ → List KeptProcedure → Option ℕ
  one_lambda g h l ps = if nat_eq g h then Some l else lambda_among g ps

  pub lambda_absent : (g : ℕ) (ns : List Node) → procedure_of p.kernel g ≡ None → lambda_among g (procedures p ns) ≡ None
  lambda_absent g [] none = refl
  lambda_absent g (nodes.Inner l ∷ ns) none = lambda_absent g ns none
  lambda_absent g (nodes.Data b ∷ ns) none = lambda_absent g ns none
  lambda_absent g (nodes.Global h ∷ ns) none = one (procedure_of p.kernel h) refl (lambda_absent g ns none)
    where
      two : (l : ℕ) → procedure_of p.kernel h ≡ Some l → (c : Bool) → nat_eq g h ≡ c → lambda_among g (procedures p ns) ≡ None → (if c then Some l else lambda_among g (procedures p ns)) ≡ None
      two l is true i later = absurd (none_some l (sym none ∙ ap (procedure_of p.kernel) (eqb-true g h i) ∙ is))
      two l is false i later = later

      one : (o : Option ℕ) → procedure_of p.kernel h ≡ o → lambda_among g (procedures p ns) ≡ None → lambda_among g (procedure_at h o ++ procedures p ns) ≡ None
      one None is later = later
      one (Some l) is later = two l is (nat_eq g h) refl later

  pub lambda_kept : (g l : ℕ) (ns : List Node) → procedure_of p.kernel g ≡ Some l → has ns (nodes.Global g) ≡ true → lambda_among g (procedures p ns) ≡ Some l
  lambda_kept g l [] some there = true_false (sym there)
  lambda_kept g l (nodes.Inner k ∷ ns) some there = lambda_kept g l ns some there
  lambda_kept g l (nodes.Data b ∷ ns) some there = lambda_kept g l ns some there
  lambda_kept g l (nodes.Global h ∷ ns) some there = one (procedure_of p.kernel h) (nat_eq h g) refl refl there (λ q. lambda_kept g l ns some q)
    where
      two : (k : ℕ) → procedure_of p.kernel h ≡ Some k → (c : Bool) → nat_eq g h ≡ c → (c ≡ false → lambda_among g (procedures p ns) ≡ Some l) → (if c then Some k else lambda_among g (procedures p ns)) ≡ Some l
      two k is true i later = sym is ∙ ap (procedure_of p.kernel) (sym (eqb-true g h i)) ∙ some
      two k is false i later = later refl

      turned : nat_eq h g ≡ true → nat_eq g h ≡ false → ⊥
      turned i j = true_false (sym (eq-eqb g h (sym (eqb-true h g i))) ∙ j)

      one : (o : Option ℕ) (c : Bool) → procedure_of p.kernel h ≡ o → nat_eq h g ≡ c → (c || has ns (nodes.Global g)) ≡ true → (has ns (nodes.Global g) ≡ true → lambda_among g (procedures p ns) ≡ Some l)
          → lambda_among g (procedure_at h o ++ procedures p ns) ≡ Some l
      one None true is i q later = absurd (none_some l (sym is ∙ ap (procedure_of p.kernel) (eqb-true h g i) ∙ some))
      one None false is i q later = later q
      one (Some k) true is i q later = two k is (nat_eq g h) refl (λ j. absurd (turned i j))
      one (Some k) false is i q later = two k is (nat_eq g h) refl (λ j. later q)

  -- ---- other definitions

  module _ (seen : Node → Bool) (g : ℕ) where
    -- the entry of another number
    passed : (c : Bool) (i : ℕ) (o : Option ℕ) (v : Option Value) (vs : List KeptGlobal) → nat_eq g i ≡ false → value_among g (global_at c i o v ++ vs) ≡ value_among g vs
    passed c i (Some l) v vs h = refl
    passed c i None None vs h = refl
    passed true i None (Some v) vs h = ap (λ (b : Bool). if b then Some (Plain (value_of (kept_value v))) else value_among g vs) h
    passed false i None (Some v) vs h = refl

    other_number : (i : ℕ) → g < i → nat_eq g i ≡ false
    other_number i lt = one (nat_eq g i) refl
      where
        one : (c : Bool) → nat_eq g i ≡ c → c ≡ false
        one true e = absurd (let same : g ≡ i = eqb-true g i e in omega (arith, same, lt))
        one false e = refl

    value_behind : (i : ℕ) (vs : List (Option Value)) → g < i → value_among g (globals p seen i vs) ≡ None
    value_behind i [] lt = refl
    value_behind i (v ∷ vs) lt = passed (seen (nodes.Global i)) i (procedure_of p.kernel i) v (globals p seen (suc i) vs) (other_number i lt) ∙ value_behind (suc i) vs (omega (arith, lt))

    pub value_kept : (i j : ℕ) (vs : List (Option Value)) (v : Option Value) → AreLeftGlobals p.kernel.kinds p.memory vs → seen (nodes.Global g) ≡ true → procedure_of p.kernel g ≡ None → g ≡ i + j → slice_get vs j ≡ Some v
        → value_among g (globals p seen i vs) ≡ option_map Plain v
    value_kept i j [] v left there none is at = absurd (none_some v at)
    value_kept i zero (x ∷ vs) v left there none is at =
        let same : g ≡ i = omega (arith, is) in
        subst (λ n. value_among g (global_at (seen (nodes.Global n)) n (procedure_of p.kernel n) x ++ globals p seen (suc i) vs) ≡ option_map Plain v) same (here x (some_same x v at) left.0 (omega (arith, same)))
      where
        own : (x : Option Value) → IsLeftOption p.kernel.kinds p.memory x → g < suc i → value_among g (global_at true g None x ++ globals p seen (suc i) vs) ≡ option_map Plain x
        own None h lt = value_behind (suc i) vs lt
        own (Some u) h lt = ap (λ (b : Bool). if b then Some (Plain (value_of (kept_value u))) else value_among g (globals p seen (suc i) vs)) (eq-eqb g g refl) ∙ ap (λ z. Some (Plain z)) (value_back p.kernel.kinds p.memory u h)

        here : (x : Option Value) → x ≡ v → IsLeftOption p.kernel.kinds p.memory x → g < suc i → value_among g (global_at (seen (nodes.Global g)) g (procedure_of p.kernel g) x ++ globals p seen (suc i) vs) ≡ option_map Plain v
        here x e h lt = ap (λ (c : Bool). value_among g (global_at c g (procedure_of p.kernel g) x ++ globals p seen (suc i) vs)) there ∙ ap (λ o. value_among g (global_at true g o x ++ globals p seen (suc i) vs)) none ∙ own x h lt ∙ ap (option_map Plain) e
    value_kept i (suc j) (x ∷ vs) v left there none is at =
        passed (seen (nodes.Global i)) i (procedure_of p.kernel i) x (globals p seen (suc i) vs) (one (nat_eq g i) refl) ∙ value_kept (suc i) j vs v left.1 there none (omega (arith, is)) at
      where
        one : (c : Bool) → nat_eq g i ≡ c → c ≡ false
        one true e = absurd (let same : g ≡ i = eqb-true g i e in omega (arith, same, is))
        one false e = refl
