-- A primitive at compile time takes at most one number of a fixed block, and none where it asks for no cells.
-- For: `perform_few`
use Rattle.std.proofs.Common.{◌≡◌, ℕ, zero, suc, ◌+◌, ◌/◌, ◌≤◌, max, ℤ, pos, negsuc, List, [], ◌∷◌, ◌++◌, length, map, Bool, true, false, Option, Some, None, Result, Ok, Err, refl, sym, ap, subst, ◌∙◌, arith}
use Rattle.std.specs.Prelude.{if◌then◌else◌, nat_eq, replicate, IsTrue}
use Rattle.std.specs.Int.{w64, int_bit_and, int_bit_or, int_bit_xor}
use Rattle.std.proofs.lemmas.List.{length-replicate}
use Rattle.ps_base.proofs.Choices.{err_ok, ok_same, true_false}
use Rattle.ps_base.specs.declared.faults.Op.{Op}
use Rattle.ps_base.specs.declared.faults.Op.TheVariants as ops
use Rattle.ps_base.specs.declared.language.PrimName.{PrimName}
use Rattle.ps_base.specs.declared.language.PrimName.TheVariants as prims
use Rattle.byte_store.specs.declared.event.Event.{Event}
use Rattle.byte_store.specs.declared.event.Event.TheVariants as events
use Rattle.byte_store.specs.declared.pointer.Base.{Base}
use Rattle.byte_store.specs.declared.pointer.Base.TheVariants.{Fixed, Made}
use Rattle.byte_store.specs.declared.pointer.Pointer.{Pointer}
use Rattle.byte_store.specs.declared.pointer.Pointer.TheVariants.{Null, At}
use Rattle.byte_store.specs.declared.pointer.Word.{Word}
use Rattle.byte_store.specs.declared.pointer.Value.{Value}
use Rattle.byte_store.specs.Blocks.{Block, Bytes, Cells, Memory, block_of, next_number, replaced, with_block}
use Rattle.byte_store.specs.Operations as store
use Rattle.byte_store.specs.Operations.{and_then, change, inside, is_size}
use Rattle.byte_store.specs.Worlds.{Surroundings}
use Rattle.ps_types.specs.declared.types.RecordKind.{RecordKind}
use Rattle.ps_prims.specs.declared.outcome.PrimOut.{PrimOut}
use Rattle.ps_prims.specs.declared.outcome.PrimOut.TheVariants as out
use Rattle.ps_prims.specs.declared.stages.Stage.TheVariants.{Compile}
use Rattle.ps_prims.specs.declared.stages.Stages.{Stages}
use Rattle.ps_prims.specs.declared.stages.Stages.TheVariants.{Both, CompileOnly, RunOnly}
use Rattle.ps_prims.specs.declared.sorts.Sort.{Sort}
use Rattle.ps_prims.specs.Sorts.{Values, first_order, Meant, Taking, answered, applied, and_takes, collecting, read}
use Rattle.ps_prims.specs.Records.{fields, maker_order, made, filled, puts_seen}
use Rattle.ps_prims.specs.Rows.{Act, Scene, Done, Row, Performed, Answers, Undefined, Wrong, answers, gives, finds, changes, fixes, vector_of, appended, row, perform, perform_row, performed, at_scene}
use Rattle.ps_prims.specs.Kinds.{AreKinds}
use Rattle.ps_prims.specs.Cells.{for_cells, for_texts, counted, asks, asked_at}
use Rattle.ps_prims.specs.Performing.{Belongs, Performs, State}
use Rattle.ps_prims.specs.InsideRecords.{scattered}
use Rattle.ps_prims.proofs.FieldsAreFilled.{Below, below_each, fixed_filled}
use Rattle.ps_prims.proofs.RecordsAreTheRows.{each_once}
use Rattle.ps_meaning.specs.Eval.{belongs}
use Rattle.ps_static_eval.specs.InsideNumbers.{blocks_for}

and_then_ok : {A B : Type 0} (r : Result A Op) (f : A → Result B Op) (b : B) → and_then r f ≡ Ok b → (a : A) × (r ≡ Ok a) × (f a ≡ Ok b)
and_then_ok (Ok a) f b is = (a, refl, is)
and_then_ok (Err op) f b is = err_ok is

blocks_for_some : (n : ℕ) → 1 ≤ n → blocks_for n ≡ 1
blocks_for_some zero some = absurd (omega (arith, some))
blocks_for_some (suc n) some = refl

sized : (n : ℕ) → is_size n ≡ true → blocks_for n ≡ 1
sized zero is = true_false (sym is)
sized (suc n) is = refl

module _ {V : Type 0} where
  abbrev next : Memory V → ℕ
  next m = next_number m.fixed

  -- ---- what takes no number

  next_replaced : (n : ℕ) (b : Block V) (es : List (ℕ × Block V)) → next_number (replaced n b es) ≡ next_number es
  next_replaced n b [] = refl
  next_replaced n b (e ∷ es) = go (nat_eq n e.0) (next_replaced n b es)
    where
      go : (t : Bool) → next_number (replaced n b es) ≡ next_number es → next_number (if t then (e.0, b) ∷ es else e ∷ replaced n b es) ≡ max (suc e.0) (next_number es)
      go true ih = refl
      go false ih = ap (max (suc e.0)) ih

  with_same : (m : Memory V) (base : Base) (b : Block V) → next (with_block m base b) ≡ next m
  with_same m (Fixed n) b = next_replaced n b m.fixed
  with_same m (Made n) b = refl

  change_same : (m : Memory V) (p : Pointer) (f : Block V → ℤ → Result (Block V) Op) (n : Memory V) → change m p f ≡ Ok n → next n ≡ next m
  change_same m Null f n is = err_ok is
  change_same m (At base offset) f n is =
      let b = and_then_ok (inside (block_of m base)) (λ b. and_then (f b offset) (λ c. Ok (with_block m base c))) n is in
      let c = and_then_ok (f b.0 offset) (λ c. Ok (with_block m base c)) n b.2 in
      sym (ap next (ok_same c.2)) ∙ with_same m base c.0

  -- ---- what takes one

  next_last : (es : List (ℕ × Block V)) (n : ℕ) (b : Block V) → next_number (es ++ (n, b) ∷ []) ≡ max (next_number es) (suc n)
  next_last [] n b = let one : max (suc n) 0 ≡ max 0 (suc n) = omega arith in one
  next_last (e ∷ es) n b =
      let all : max (suc e.0) (max (next_number es) (suc n)) ≡ max (max (suc e.0) (next_number es)) (suc n) = omega arith in
      ap (max (suc e.0)) (next_last es n b) ∙ all

  one_fixed : (m : Memory V) (b : Block V) → next (store.fixed m (next m) b) ≤ next m + 1
  one_fixed m b = omega (arith, next_last m.fixed (next m) b)

  -- ---- acts

  record Few {X : Type 0} (stages : Stages) (ask : Memory V → ℕ) (act : Act V X) : Type 0 where
    by : (s : Scene V) (d : Done V X) → Belongs stages Compile → act Compile s ≡ Ok d → next d.memory ≤ next s.memory + blocks_for (ask s.memory)

  run_only : {X : Type 0} (ask : Memory V → ℕ) (act : Act V X) → Few RunOnly ask act
  run_only ask act = record { by = λ s d belongs is. absurd belongs }

  module _ {X : Type 0} (stages : Stages) where
    still : (act : Act V X) → ((s : Scene V) (d : Done V X) → act Compile s ≡ Ok d → next d.memory ≡ next s.memory) → Few stages (λ m. 0) act
    still act same = record { by = λ s d belongs is. omega (arith, same s d is) }

    few_answers : (r : Result X Op) → Few stages (λ m. 0) (answers r)
    few_answers r = still (answers r) (λ s d is.
        let a = and_then_ok r (λ x. Ok (record { answer = x; memory = s.memory; world = s.world; events = [] })) d is in
        sym (ap (λ (e : Done V X). next e.memory) (ok_same a.2)))

    few_gives : (x : X) → Few stages (λ m. 0) (gives x)
    few_gives x = still (gives x) (λ s d is. sym (ap (λ (e : Done V X). next e.memory) (ok_same is)))

    few_finds : (look : Memory V → Result X Op) (told : X → List Event) → Few stages (λ m. 0) (finds look told)
    few_finds look told = still (finds look told) (λ s d is.
        let a = and_then_ok (look s.memory) (λ x. Ok (record { answer = x; memory = s.memory; world = s.world; events = told x })) d is in
        sym (ap (λ (e : Done V X). next e.memory) (ok_same a.2)))

  few_changes : (stages : Stages) (f : Memory V → Result (Memory V) Op) (event : Event) → ((m n : Memory V) → f m ≡ Ok n → next n ≡ next m) → Few stages (λ m. 0) (changes f event)
  few_changes stages f event same = still stages (changes f event) (λ s d is.
      let a = and_then_ok (f s.memory) (λ m. Ok (record { answer = tt; memory = m; world = s.world; events = event ∷ [] })) d is in
      sym (ap (λ (e : Done V (Unit {0})). next e.memory) (ok_same a.2)) ∙ same s.memory a.0 a.1)

  few_vector : (word : V → Word) (i : ℤ) (x : V) → Few Both (λ m. for_cells i) (vector_of word i x)
  few_vector word (pos n) x = record { by = λ s d belongs is. go s d (is_size n) refl is }
    where
      go : (s : Scene V) (d : Done V Pointer) (b : Bool) → is_size n ≡ b → (if b then fixes (Cells (replicate n (Some x))) Compile s else Err ops.Size) ≡ Ok d → next d.memory ≤ next s.memory + blocks_for (if b then n else 0)
      go s d true size h = omega (arith, one_fixed s.memory (Cells (replicate n (Some x))), ap (λ (e : Done V Pointer). next e.memory) (ok_same h), sized n size)
      go s d false size h = err_ok h
  few_vector word (negsuc n) x = record { by = λ s d belongs is. err_ok is }

  few_appended : (p q : Pointer) → Few CompileOnly (λ m. for_texts (store.text m p) (store.text m q)) (appended p q)
  few_appended p q = record { by = λ s d belongs is. go s d (store.text s.memory p) (store.text s.memory q) is }
    where
      block : List ℕ → List ℕ → Block V
      block a b = Bytes (map Some (a ++ b ++ 0 ∷ []))

      go : (s : Scene V) (d : Done V Pointer) (r t : Result (List ℕ) Op) → and_then r (λ a. and_then t (λ b. fixes (block a b) Compile s)) ≡ Ok d → next d.memory ≤ next s.memory + blocks_for (for_texts r t)
      go s d (Ok a) (Ok b) h =
          let some : 1 ≤ (length a + length b + 8) / 8 = omega arith in
          omega (arith, one_fixed s.memory (block a b), ap (λ (e : Done V Pointer). next e.memory) (ok_same h), blocks_for_some ((length a + length b + 8) / 8) some)
      go s d (Ok a) (Err op) h = err_ok h
      go s d (Err op) t h = err_ok h

module _ {V : Type 0} (values : Values V) where
  -- ---- records

  module _ (n : ℕ) (fs : List ℕ) (vs : List V) (low : Below n fs) where
    abbrev cells : List (Option V)
    cells = scattered fs (map Some vs) (replicate n None)

    low_cells : Below (length {A = Option V} (replicate n None)) fs
    low_cells = subst (λ l. Below l fs) (sym (length-replicate n None)) low

    abbrev full : Surroundings → Pointer → Memory V → Result (Done V Pointer) Op
    full w p m = Ok (record { answer = p; memory = m; world = w; events = events.Tuple (pos n) p ∷ puts_seen values p fs vs })

    few_made : Few Both (λ m. for_cells (pos n)) (made values n fs vs)
    few_made = record { by = λ s d belongs is. go s d (is_size n) refl is }
      where
        go : (s : Scene V) (d : Done V Pointer) (b : Bool) → is_size n ≡ b
            → (if b then filled values n fs vs (store.fixed s.memory (next_number s.memory.fixed) (Cells (replicate n None))) s.world (At (Fixed (next_number s.memory.fixed)) (pos 0)) else Err ops.Size) ≡ Ok d
            → next d.memory ≤ next s.memory + blocks_for (if b then n else 0)
        go s d true size h =
            let whole = ap (λ r. and_then r (full s.world (At (Fixed (next_number s.memory.fixed)) (pos 0)))) (fixed_filled s.memory fs vs (replicate n None) low_cells) in
            omega (arith, one_fixed s.memory (Cells cells), ap (λ (e : Done V Pointer). next e.memory) (ok_same (sym whole ∙ h)), sized n size)
        go s d false size h = err_ok h

  -- ---- rows

  abbrev FewEach : (X : Type 0) → Stages → (ss : List Sort) → Taking V ss (Memory V → ℕ) → Taking V ss (Act V X) → Type 0
  FewEach X stages [] ask act = Few stages ask act
  FewEach X stages (s ∷ ss) ask act = (x : Meant V s) → FewEach X stages ss (ask x) (act x)

  few_collecting : (X : Type 0) (stages : Stages) (ss : List Sort) (ask : List V → Memory V → ℕ) (act : List V → Act V X) → ((vs : List V) → Few stages (ask vs) (act vs)) →
      FewEach X stages ss (collecting values ss ask) (collecting values ss act)
  few_collecting X stages [] ask act h = h []
  few_collecting X stages (s ∷ ss) ask act h = λ x. few_collecting X stages ss (λ vs. ask (answered values s x ∷ vs)) (λ vs. act (answered values s x ∷ vs)) (λ vs. h (answered values s x ∷ vs))

  abbrev FewIn : {X : Type 0} → Stages → Option (Memory V → ℕ) → Option (Act V X) → Type 0
  FewIn stages None None = Unit {0}
  FewIn stages None (Some act) = ⊥
  FewIn stages (Some ask) None = ⊥
  FewIn stages (Some ask) (Some act) = Few stages ask act

  few_applied : (X : Type 0) (stages : Stages) (ss : List Sort) (ask : Taking V ss (Memory V → ℕ)) (act : Taking V ss (Act V X)) → FewEach X stages ss ask act → (vs : List V) →
      FewIn stages (applied values ss ask vs) (applied values ss act vs)
  few_applied X stages [] ask act h [] = h
  few_applied X stages [] ask act h (v ∷ vs) = tt
  few_applied X stages (s ∷ ss) ask act h [] = tt
  few_applied X stages (s ∷ ss) ask act h (v ∷ vs) = go (read values s v) (λ x. few_applied X stages ss (ask x) (act x) (h x) vs)
    where
      go : (o : Option (Meant V s)) → ((x : Meant V s) → FewIn stages (applied values ss (ask x) vs) (applied values ss (act x) vs)) →
          FewIn stages (and_takes values o (λ x. applied values ss (ask x) vs)) (and_takes values o (λ x. applied values ss (act x) vs))
      go None ih = tt
      go (Some x) ih = ih x

  row_few : (r : Row V) (ask : Taking V r.operands (Memory V → ℕ)) → FewEach (Meant V r.answer) r.stages r.operands ask r.does → (vs : List V) (s : Scene V) (d : Done V V) → Belongs r.stages Compile
      → perform_row values r vs Compile s ≡ Answers d → next d.memory ≤ next s.memory + blocks_for (counted (applied values r.operands ask vs) s.memory)
  row_few r ask h vs s d here is = go (applied values r.operands ask vs) (applied values r.operands r.does vs) (few_applied (Meant V r.answer) r.stages r.operands ask r.does h vs) is
    where
      of : Meant V r.answer → V
      of = answered values r.answer

      memory_of : Performed V → Memory V
      memory_of (Answers d) = d.memory
      memory_of (Undefined op) = s.memory
      memory_of Wrong = s.memory

      into : (ask : Memory V → ℕ) (act : Act V (Meant V r.answer)) → Few r.stages ask act → (e : Result (Done V (Meant V r.answer)) Op) → act Compile s ≡ e → performed of Compile (Some e) ≡ Answers d →
          next d.memory ≤ next s.memory + blocks_for (ask s.memory)
      into ask act c (Ok e) at k = omega (arith, c.by s e here at, ap (λ (x : Performed V). next (memory_of x)) k)
      into ask act c (Err op) at k = absurd (let clash : ◌≡◌ {A = Performed V} (Undefined op) (Answers d) = k in cc)

      go : (q : Option (Memory V → ℕ)) (o : Option (Act V (Meant V r.answer))) → FewIn r.stages q o → performed of Compile (at_scene Compile s o) ≡ Answers d → next d.memory ≤ next s.memory + blocks_for (counted q s.memory)
      go None None c k = absurd (let clash : ◌≡◌ {A = Performed V} Wrong (Answers d) = k in cc)
      go None (Some act) c k = absurd c
      go (Some ask) None c k = absurd c
      go (Some ask) (Some act) c k = into ask act c (act Compile s) refl k

  -- ---- the table

  abbrev FewRow : List RecordKind → PrimName → Type 0
  FewRow kinds p = FewEach (Meant V (row values kinds p).answer) (row values kinds p).stages (row values kinds p).operands (asks values kinds p) (row values kinds p).does

  each_row : (kinds : List RecordKind) → AreKinds kinds → (p : PrimName) → FewRow kinds p
  each_row kinds are prims.Add = λ i j. few_answers Both _
  each_row kinds are prims.Subtract = λ i j. few_answers Both _
  each_row kinds are prims.Multiply = λ i j. few_answers Both _
  each_row kinds are prims.Quotient = λ i j. few_answers Both _
  each_row kinds are prims.Remainder = λ i j. few_answers Both _
  each_row kinds are prims.Modulo = λ i j. few_answers Both _
  each_row kinds are prims.Equal = λ i j. few_gives Both _
  each_row kinds are prims.Less = λ i j. few_gives Both _
  each_row kinds are prims.Greater = λ i j. few_gives Both _
  each_row kinds are prims.LessOrEqual = λ i j. few_gives Both _
  each_row kinds are prims.GreaterOrEqual = λ i j. few_gives Both _
  each_row kinds are prims.IsZero = λ i. few_gives Both _
  each_row kinds are prims.IsPositive = λ i. few_gives Both _
  each_row kinds are prims.IsNegative = λ i. few_gives Both _
  each_row kinds are prims.BitwiseAnd = λ i j. few_answers Both (Ok (int_bit_and w64 i j))
  each_row kinds are prims.BitwiseOr = λ i j. few_answers Both (Ok (int_bit_or w64 i j))
  each_row kinds are prims.BitwiseXor = λ i j. few_answers Both (Ok (int_bit_xor w64 i j))
  each_row kinds are prims.BitwiseNot = λ i. few_gives Both _
  each_row kinds are prims.ShiftLeft = λ i j. few_answers Both _
  each_row kinds are prims.ArithmeticShiftRight = λ i j. few_answers Both _
  each_row kinds are prims.LogicalShiftRight = λ i j. few_answers Both _
  each_row kinds are prims.Not = λ b. few_gives Both _
  each_row kinds are prims.BooleanEqual = λ a b. few_gives Both _
  each_row kinds are prims.CharEqual = λ c d. few_gives Both _
  each_row kinds are prims.CharLess = λ c d. few_gives Both _
  each_row kinds are prims.CharToAscii = λ c. few_gives Both _
  each_row kinds are prims.AsciiToChar = λ i. few_answers Both _
  each_row kinds are prims.Unspecific = few_gives Both tt
  each_row kinds are prims.StringLength = λ p. few_finds Both _ _
  each_row kinds are prims.StringRef = λ p k. few_finds Both _ _
  each_row kinds are prims.MakeVector = λ n x. few_vector values.word n x
  each_row kinds are prims.VectorRef = λ p k. few_finds Both _ _
  each_row kinds are prims.VectorSet = λ p k x. few_changes Both _ _ (λ m n is. change_same m _ _ n is)
  each_row kinds are prims.IsNullVector = λ p. few_finds Both _ _
  each_row kinds are prims.DeallocateVector = λ p. run_only _ _
  each_row kinds are prims.ReadByte = run_only _ _
  each_row kinds are prims.WriteByte = λ i. run_only _ _
  each_row kinds are prims.NullAddress = few_gives Both _
  each_row kinds are prims.IsNullAddress = λ p. few_finds Both _ _
  each_row kinds are prims.AllocateMemory = λ n. run_only _ _
  each_row kinds are prims.DeallocateMemory = λ p. run_only _ _
  each_row kinds are prims.UnsignedByteRef = λ p. run_only _ _
  each_row kinds are prims.UnsignedByteSet = λ p i. run_only _ _
  each_row kinds are prims.WordRef = λ p. run_only _ _
  each_row kinds are prims.WordSet = λ p n. run_only _ _
  each_row kinds are prims.AddressAdd = λ p k. run_only _ _
  each_row kinds are prims.AddressDifference = λ p q. run_only _ _
  each_row kinds are prims.AddressEqual = λ p q. run_only _ _
  each_row kinds are prims.AddressLess = λ p q. run_only _ _
  each_row kinds are prims.StringAppend = λ p q. few_appended p q
  each_row kinds are prims.StringEqual = λ p q. few_finds CompileOnly _ _
  each_row kinds are prims.VectorLength = λ p. few_finds CompileOnly _ _
  each_row kinds are (prims.Maker k) = few_collecting Pointer Both (row values kinds (prims.Maker k)).operands (λ vs m. for_cells (pos (length (fields kinds k)))) (made values (length (fields kinds k)) (maker_order kinds k)) (λ vs. few_made (length (fields kinds k)) (maker_order kinds k) vs (below_each (length (fields kinds k)) (maker_order kinds k) (each_once kinds k are)))
  each_row kinds are (prims.Predicate k) = λ p. few_finds Both _ _
  each_row kinds are (prims.Accessor k f) = λ p. few_finds Both _ _
  each_row kinds are (prims.Modifier k f) = λ p x. few_changes Both _ _ (λ m n is. change_same m _ _ n is)

  pub few_blocks : (kinds : List RecordKind) (p : PrimName) (vs : List V) (s : Scene V) (d : Done V V) → AreKinds kinds → Belongs (row values kinds p).stages Compile → perform values kinds p vs Compile s ≡ Answers d
      → next d.memory ≤ next s.memory + blocks_for (asked_at values kinds p vs Compile s)
  few_blocks kinds p vs s d are here is = row_few (row values kinds p) (asks values kinds p) (each_row kinds are p) vs s d here is

belongs_there : (st : Stages) → IsTrue (belongs st Compile) → Belongs st Compile
belongs_there Both h = tt
belongs_there CompileOnly h = tt
belongs_there RunOnly h = true_false (sym h)

-- the same of a call of `perform`, whatever it answers
pub few_after : (kinds : List RecordKind) (p : PrimName) (vs : List Value) (takes : Type 0) (o : PrimOut) (old new : State) → AreKinds kinds → IsTrue (belongs (row first_order kinds p).stages Compile)
    → Performs takes o old new (perform first_order kinds p vs Compile (record { memory = old.memory; world = old.world }))
    → next_number new.memory.fixed ≤ next_number old.memory.fixed + blocks_for (asked_at first_order kinds p vs Compile (record { memory = old.memory; world = old.world }))
few_after kinds p vs takes (out.Value v) old new are here h =
    few_blocks first_order kinds p vs (record { memory = old.memory; world = old.world }) (record { answer = v; memory = new.memory; world = new.world; events = h.0 }) are (belongs_there (row first_order kinds p).stages here) h.1
few_after kinds p vs takes (out.Undefined op) old new are here h = omega (arith, ap (λ (z : State). next_number z.memory.fixed) h.1)
few_after kinds p vs takes out.Wrong old new are here h = omega (arith, ap (λ (z : State). next_number z.memory.fixed) h.1)
few_after kinds p vs takes out.NoMemory old new are here h = omega (arith, ap (λ (z : State). next_number z.memory.fixed) h.1)
