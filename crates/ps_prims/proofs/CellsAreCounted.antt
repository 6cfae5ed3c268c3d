-- The cells that a primitive asks for are those that the memory gains.
-- For: cells_are_counted
use Rattle.std.proofs.Common.{◌≡◌, ℕ, zero, suc, ◌+◌, ◌/◌, ℤ, pos, negsuc, List, [], ◌∷◌, ◌++◌, length, map, drop, Bool, true, false, Option, Some, None, Result, Ok, Err, refl, sym, ap, subst, ◌∙◌, arith, length-append}
use Rattle.std.specs.Prelude.{if◌then◌else◌, nat_eq, nat_lt, replicate, ◌&&◌, is_some}
use Rattle.std.specs.Int.{w64, int_bit_and, int_bit_or, int_bit_xor}
use Rattle.std.proofs.lemmas.List.{length-set, length-map, length-replicate, map-append}
use Rattle.std.proofs.Math.Seq.{drop-append_seam}
use Rattle.ps_base.proofs.Choices.{err_ok, ok_same, true_false}
use Rattle.ps_base.specs.declared.faults.Op.{Op}
use Rattle.ps_base.specs.declared.faults.Op.TheVariants as ops
use Rattle.ps_base.specs.declared.language.PrimName.{PrimName}
use Rattle.ps_base.specs.declared.language.PrimName.TheVariants as prims
use Rattle.byte_store.specs.declared.event.Event.{Event}
use Rattle.byte_store.specs.declared.event.Event.TheVariants as events
use Rattle.byte_store.specs.declared.pointer.Base.{Base}
use Rattle.byte_store.specs.declared.pointer.Base.TheVariants.{Fixed, Made}
use Rattle.byte_store.specs.declared.pointer.Pointer.{Pointer}
use Rattle.byte_store.specs.declared.pointer.Pointer.TheVariants.{Null, At}
use Rattle.byte_store.specs.declared.pointer.Word.{Word}
use Rattle.byte_store.specs.Blocks.{Block, Bytes, Cells, Memory, block_of, next_number, replaced, with_block}
use Rattle.byte_store.specs.Operations as store
use Rattle.byte_store.specs.Operations.{and_then, change, inside, is_size, granted, Allocation}
use Rattle.byte_store.specs.Worlds.{Surroundings, next_grant}
use Rattle.ps_types.specs.declared.types.RecordKind.{RecordKind}
use Rattle.ps_prims.specs.declared.stages.Stage.{Stage}
use Rattle.ps_prims.specs.declared.stages.Stage.TheVariants.{Compile, Run}
use Rattle.ps_prims.specs.declared.stages.Stages.{Stages}
use Rattle.ps_prims.specs.declared.stages.Stages.TheVariants.{Both, CompileOnly, RunOnly}
use Rattle.ps_prims.specs.Sorts.{Sort, Values, Meant, Taking, answered, applied, and_takes, collecting, fits, read}
use Rattle.ps_prims.specs.Records.{fields, maker_order, made, filled, puts_seen}
use Rattle.ps_prims.specs.Rows.{Act, Scene, Done, Row, Performed, Answers, Undefined, Wrong, answers, gives, finds, changes, makes, fixes, byte_of, reads, writes, vector_of, appended, row, perform_row, performed, at_scene}
use Rattle.ps_prims.specs.Kinds.{AreKinds}
use Rattle.ps_prims.specs.Cells.{cells_of, cells_in, blocks_in, cells_between, for_cells, for_bytes, for_texts, counted, where_granted, asks}
use Rattle.ps_prims.specs.Performing.{Belongs}
use Rattle.ps_prims.specs.Counting.{AskedIsGained, UndefinedAsksNone, WrongAsksNone}
use Rattle.ps_prims.specs.InsideRecords.{scattered}
use Rattle.ps_prims.proofs.FieldsAreFilled.{Below, below_each, fixed_filled, made_filled, drop_all, length_scattered, one_more}
use Rattle.ps_prims.proofs.OtherNumbersFitNoRow.{applied_none}
use Rattle.ps_prims.proofs.RecordsAreTheRows.{each_once}

and_then_ok : {A B : Type 0} (r : Result A Op) (f : A → Result B Op) (b : B) → and_then r f ≡ Ok b → (a : A) × (r ≡ Ok a) × (f a ≡ Ok b)
and_then_ok (Ok a) f b is = (a, refl, is)
and_then_ok (Err op) f b is = err_ok is

ok_err : {A B : Type 0} {a : A} {op : Op} → ◌≡◌ {A = Result A Op} (Ok a) (Err op) → B
ok_err is = err_ok (sym is)

drop_front : {A : Type 0} (xs ys : List A) (n : ℕ) → length xs ≡ n → drop n (xs ++ ys) ≡ ys
drop_front xs ys n long = ap (λ k. drop k (xs ++ ys)) (sym long) ∙ drop-append_seam xs ys

-- none, whether granted or not
none_granted : (g : Bool) → ◌≡◌ {A = ℕ} (if g then 0 else 0) 0
none_granted true = refl
none_granted false = refl

if_false : (n : ℕ) (b : Bool) → b ≡ false → (if b then n else 0) ≡ 0
if_false n b is = ap (λ (t : Bool). if t then n else 0) is

then_err : {A B : Type 0} (r : Result A Op) (f : A → B) (op : Op) → and_then r (λ a. Ok (f a)) ≡ Err op → r ≡ Err op
then_err (Ok a) f op is = ok_err is
then_err (Err e) f op is = ap Err (err_same is)
  where
    err_same : {A : Type 0} {a b : Op} → ◌≡◌ {A = Result A Op} (Err a) (Err b) → a ≡ b
    err_same {A} {a} {b} e = let same : ◌≡◌ {A = Result A Op} (Err a) (Err b) = e in cc

bytes_long : (V : Type 0) (n : ℕ) → cells_of {V = V} (Bytes (replicate n None)) ≡ (n + 7) / 8
bytes_long V n = ap (λ k. (k + 7) / 8) (length-replicate n None)

text_long : (V : Type 0) (a b : List ℕ) → cells_of {V = V} (Bytes (map Some (a ++ b ++ 0 ∷ []))) ≡ (length a + length b + 8) / 8
text_long V a b = ap (λ k. k / 8) (omega (arith, length-map (a ++ b ++ 0 ∷ []) Some, length-append (a ++ b) (0 ∷ []), length-append a b))

module _ {V : Type 0} where
  -- ---- what a memory gains

  -- as many blocks as before
  record Same (m n : Memory V) : Type 0 where
    made : length n.made ≡ length m.made
    fixed : length n.fixed ≡ length m.fixed

  itself : (m : Memory V) → Same m m
  itself m = record { made = refl; fixed = refl }

  none_in : (xs ys : List (Block V)) → length ys ≡ length xs → cells_in (drop (length xs) ys) ≡ 0
  none_in xs ys long = ap cells_in (drop_all (length xs) ys (omega (arith, long)))

  none_fixed : (m n : Memory V) → length n.fixed ≡ length m.fixed → cells_in (drop (length m.fixed) (blocks_in n.fixed)) ≡ 0
  none_fixed m n long = ap cells_in (drop_all (length m.fixed) (blocks_in n.fixed) (omega (arith, length-map n.fixed (λ (e : ℕ × Block V). e.1), long)))

  none_gained : (m n : Memory V) → Same m n → 0 ≡ cells_between m n
  none_gained m n same = omega (arith, none_in m.made n.made same.made, none_fixed m n same.fixed)

  -- one more block
  one_made : (m : Memory V) (b : Block V) → cells_of b ≡ cells_between m (one_more m b)
  one_made m b = omega (arith, ap cells_in (drop-append_seam m.made (b ∷ [])), none_fixed m (one_more m b) refl)

  one_fixed : (m : Memory V) (number : ℕ) (b : Block V) → cells_of b ≡ cells_between m (store.fixed m number b)
  one_fixed m number b =
      omega (
        arith,
        none_in m.made m.made refl,
        ap cells_in (ap (drop (length m.fixed)) (map-append (λ (e : ℕ × Block V). e.1) m.fixed ((number, b) ∷ [])) ∙ drop_front (blocks_in m.fixed) (b ∷ []) (length m.fixed) (length-map m.fixed (λ (e : ℕ × Block V). e.1))),
      )

  -- ---- what changes no number of blocks

  length_replaced : (n : ℕ) (b : Block V) (es : List (ℕ × Block V)) → length (replaced n b es) ≡ length es
  length_replaced n b [] = refl
  length_replaced n b (e ∷ es) = go (nat_eq n e.0) (length_replaced n b es)
    where
      go : (t : Bool) → length (replaced n b es) ≡ length es → length (if t then (e.0, b) ∷ es else e ∷ replaced n b es) ≡ suc (length es)
      go true ih = refl
      go false ih = ap suc ih

  with_same : (m : Memory V) (base : Base) (b : Block V) → Same m (with_block m base b)
  with_same m (Fixed n) b = record { made = refl; fixed = length_replaced n b m.fixed }
  with_same m (Made n) b = record { made = length-set m.made n b; fixed = refl }

  change_same : (m : Memory V) (p : Pointer) (f : Block V → ℤ → Result (Block V) Op) (n : Memory V) → change m p f ≡ Ok n → Same m n
  change_same m Null f n is = err_ok is
  change_same m (At base offset) f n is =
      let b = and_then_ok (inside (block_of m base)) (λ b. and_then (f b offset) (λ c. Ok (with_block m base c))) n is in
      let c = and_then_ok (f b.0 offset) (λ c. Ok (with_block m base c)) n b.2 in
      subst (λ k. Same m k) (ok_same c.2) (with_same m base c.0)

  set_byte_same : (m : Memory V) (p : Pointer) (i : ℤ) (n : Memory V) → store.set_byte m p i ≡ Ok n → Same m n
  set_byte_same m p (pos k) n is = go (nat_lt k 256) is
    where
      go : (b : Bool) → (if b then change m p (store.with_bytes (k ∷ [])) else Err ops.Byte) ≡ Ok n → Same m n
      go true h = change_same m p (store.with_bytes (k ∷ [])) n h
      go false h = err_ok h
  set_byte_same m p (negsuc k) n is = err_ok is

  release_same : (m : Memory V) (p : Pointer) (n : Memory V) → store.release m p ≡ Ok n → Same m n
  release_same m Null n is = err_ok is
  release_same m (At (Fixed k) offset) n is = err_ok is
  release_same m (At (Made k) (pos zero)) n is = change_same m (At (Made k) (pos zero)) store.freed n is
  release_same m (At (Made k) (pos (suc i))) n is = err_ok is
  release_same m (At (Made k) (negsuc i)) n is = err_ok is

  -- ---- acts, and what they ask for

  record Counts {X : Type 0} (stages : Stages) (ask : Memory V → ℕ) (act : Act V X) : Type 0 where
    gained : (stage : Stage) (s : Scene V) (d : Done V X) → Belongs stages stage → act stage s ≡ Ok d → where_granted ask stage s ≡ cells_between s.memory d.memory
    none : (stage : Stage) (s : Scene V) (op : Op) → act stage s ≡ Err op → where_granted ask stage s ≡ 0

  nothing : (stage : Stage) (s : Scene V) → where_granted (λ m. 0) stage s ≡ 0
  nothing Compile s = refl
  nothing Run s = go (next_grant s.world.grants)
    where
      go : (b : Bool) → ◌≡◌ {A = ℕ} (if b then 0 else 0) 0
      go true = refl
      go false = refl

  is_still : (m n : Memory V) → m ≡ n → Same m n
  is_still m n is = subst (λ k. Same m k) is (itself m)

  module _ {X : Type 0} (stages : Stages) where
    -- what makes no block asks for no cells
    still : (act : Act V X) → ((stage : Stage) (s : Scene V) (d : Done V X) → act stage s ≡ Ok d → Same s.memory d.memory) → Counts stages (λ m. 0) act
    still act same = record {
      gained = λ stage s d belongs is. nothing stage s ∙ none_gained s.memory d.memory (same stage s d is);
      none = λ stage s op is. nothing stage s;
    }

    counts_answers : (r : Result X Op) → Counts stages (λ m. 0) (answers r)
    counts_answers r = still (answers r) (λ stage s d is. let a = and_then_ok r (λ x. Ok (record { answer = x; memory = s.memory; world = s.world; events = [] })) d is in is_still s.memory d.memory (ap (λ (e : Done V X). e.memory) (ok_same a.2)))

    counts_gives : (x : X) → Counts stages (λ m. 0) (gives x)
    counts_gives x = still (gives x) (λ stage s d is. is_still s.memory d.memory (ap (λ (e : Done V X). e.memory) (ok_same is)))

    counts_finds : (look : Memory V → Result X Op) (told : X → List Event) → Counts stages (λ m. 0) (finds look told)
    counts_finds look told = still (finds look told) (λ stage s d is. let a = and_then_ok (look s.memory) (λ x. Ok (record { answer = x; memory = s.memory; world = s.world; events = told x })) d is in is_still s.memory d.memory (ap (λ (e : Done V X). e.memory) (ok_same a.2)))

  module _ (stages : Stages) where
    counts_changes : (f : Memory V → Result (Memory V) Op) (event : Event) → ((m n : Memory V) → f m ≡ Ok n → Same m n) → Counts stages (λ m. 0) (changes f event)
    counts_changes f event same = still stages (changes f event) (λ stage s d is.
        let a = and_then_ok (f s.memory) (λ m. Ok (record { answer = tt; memory = m; world = s.world; events = event ∷ [] })) d is in
        subst (λ k. Same s.memory k) (ap (λ (e : Done V (Unit {0})). e.memory) (ok_same a.2)) (same s.memory a.0 a.1))

    counts_reads : Counts stages (λ m. 0) reads
    counts_reads = still stages reads (λ stage s d is. is_still s.memory d.memory (ap (λ (e : Done V ℤ). e.memory) (ok_same is)))

    counts_writes : (i : ℤ) → Counts stages (λ m. 0) (writes i)
    counts_writes i = still stages (writes i) (λ stage s d is.
        let a = and_then_ok (byte_of i) (λ b. Ok (record { answer = tt; memory = s.memory; world = s.world; events = events.Output b ∷ [] })) d is in
        is_still s.memory d.memory (ap (λ (e : Done V (Unit {0})). e.memory) (ok_same a.2)))

  -- ---- blocks

  module _ (ask : ℕ) (stage : Stage) (s : Scene V) where
    no_cells : ask ≡ 0 → where_granted (λ m. ask) stage s ≡ 0
    no_cells is = ap (λ n. where_granted (λ m. n) stage s) is ∙ nothing stage s

  -- a block that is made where it is granted
  granted_cells : (s : Scene V) (b : Block V) (g : Bool) → (if g then cells_of b else 0) ≡ cells_between s.memory (granted s.memory s.world b g).memory
  granted_cells s b true = one_made s.memory b
  granted_cells s b false = none_gained s.memory s.memory (itself s.memory)

  module _ (n : ℕ) (block : ℕ → Block V) (s : Scene V) where
    abbrev allocation : Bool → Result (Allocation V) Op
    allocation b = if b then Ok (granted s.memory s.world (block n) (next_grant s.world.grants)) else Err ops.Size

    allocated : (a : Allocation V) → store.allocation s.memory s.world (pos n) block ≡ Ok a →
        (if next_grant s.world.grants then (if is_size n then cells_of (block n) else 0) else 0) ≡ cells_between s.memory a.memory
    allocated a is = go (is_size n) is
      where
        go : (b : Bool) → allocation b ≡ Ok a → (if next_grant s.world.grants then (if b then cells_of (block n) else 0) else 0) ≡ cells_between s.memory a.memory
        go true h = granted_cells s (block n) (next_grant s.world.grants) ∙ ap (λ (x : Allocation V). cells_between s.memory x.memory) (ok_same h)
        go false h = err_ok h

    sizeless : (op : Op) → store.allocation s.memory s.world (pos n) block ≡ Err op → is_size n ≡ false
    sizeless op is = go (is_size n) is
      where
        go : (b : Bool) → allocation b ≡ Err op → b ≡ false
        go true h = ok_err h
        go false h = refl

  -- what is made of an allocation
  abbrev from_block : {X : Type 0} → (Pointer → X) → (Pointer → Event) → Allocation V → Result (Done V X) Op
  from_block of event a = Ok (record { answer = of a.pointer; memory = a.memory; world = a.world; events = event a.pointer ∷ [] })

  counts_allocate : (i : ℤ) (event : Pointer → Event) → Counts RunOnly (λ m. for_bytes i) (makes (λ m w. store.allocate m w i) event)
  counts_allocate (pos n) event = record { gained = gained; none = none }
    where
      act : Act V Pointer
      act = makes (λ m w. store.allocate m w (pos n)) event

      gained : (stage : Stage) (s : Scene V) (d : Done V Pointer) → Belongs RunOnly stage → act stage s ≡ Ok d → where_granted (λ m. for_bytes (pos n)) stage s ≡ cells_between s.memory d.memory
      gained Compile s d belongs is = absurd belongs
      gained Run s d belongs is =
          let a = and_then_ok (store.allocate s.memory s.world (pos n)) (from_block (λ p. p) event) d is in
          ap (λ (k : ℕ). if next_grant s.world.grants then (if is_size n then k else 0) else 0) (sym (bytes_long V n))
          ∙ allocated n (λ n. Bytes (replicate n None)) s a.0 a.1 ∙ ap (λ (e : Done V Pointer). cells_between s.memory e.memory) (ok_same a.2)

      none : (stage : Stage) (s : Scene V) (op : Op) → act stage s ≡ Err op → where_granted (λ m. for_bytes (pos n)) stage s ≡ 0
      none stage s op is = no_cells (for_bytes (pos n)) stage s (if_false ((n + 7) / 8) (is_size n) (sizeless n (λ n. Bytes (replicate n None)) s op (then_err (store.allocate s.memory s.world (pos n)) _ op is)))
  counts_allocate (negsuc n) event = record { gained = λ stage s d belongs is. err_ok is; none = λ stage s op is. nothing stage s }

  cells_long : (n : ℕ) (c : Option V) → cells_of {V = V} (Cells (replicate n c)) ≡ n
  cells_long n c = length-replicate n c

  counts_vector : (word : V → Word) (i : ℤ) (x : V) → Counts Both (λ m. for_cells i) (vector_of word i x)
  counts_vector word (pos n) x = record { gained = gained; none = none }
    where
      gained : (stage : Stage) (s : Scene V) (d : Done V Pointer) → Belongs Both stage → vector_of word (pos n) x stage s ≡ Ok d → where_granted (λ m. for_cells (pos n)) stage s ≡ cells_between s.memory d.memory
      gained Compile s d belongs is = go (is_size n) is
        where
          go : (b : Bool) → (if b then fixes (Cells (replicate n (Some x))) Compile s else Err ops.Size) ≡ Ok d → (if b then n else 0) ≡ cells_between s.memory d.memory
          go true h = sym (cells_long n (Some x)) ∙ one_fixed s.memory (next_number s.memory.fixed) (Cells (replicate n (Some x))) ∙ ap (λ (e : Done V Pointer). cells_between s.memory e.memory) (ok_same h)
          go false h = err_ok h
      gained Run s d belongs is =
          let a = and_then_ok (store.allocate_cells s.memory s.world (pos n) (Some x)) (from_block (λ p. p) (λ p. events.Fill (pos n) (word x) p)) d is in
          ap (λ (k : ℕ). if next_grant s.world.grants then (if is_size n then k else 0) else 0) (sym (cells_long n (Some x)))
          ∙ allocated n (λ n. Cells (replicate n (Some x))) s a.0 a.1 ∙ ap (λ (e : Done V Pointer). cells_between s.memory e.memory) (ok_same a.2)

      none : (stage : Stage) (s : Scene V) (op : Op) → vector_of word (pos n) x stage s ≡ Err op → where_granted (λ m. for_cells (pos n)) stage s ≡ 0
      none Compile s op is = go (is_size n) is
        where
          go : (b : Bool) → (if b then fixes (Cells (replicate n (Some x))) Compile s else Err ops.Size) ≡ Err op → (if b then n else 0) ≡ 0
          go true h = ok_err h
          go false h = refl
      none Run s op is = no_cells (for_cells (pos n)) Run s (if_false n (is_size n) (sizeless n (λ n. Cells (replicate n (Some x))) s op (then_err (store.allocate_cells s.memory s.world (pos n) (Some x)) _ op is)))
  counts_vector word (negsuc n) x = record { gained = gained; none = λ stage s op is. nothing stage s }
    where
      gained : (stage : Stage) (s : Scene V) (d : Done V Pointer) → Belongs Both stage → vector_of word (negsuc n) x stage s ≡ Ok d → where_granted (λ m. 0) stage s ≡ cells_between s.memory d.memory
      gained Compile s d belongs is = err_ok is
      gained Run s d belongs is = err_ok is

  counts_appended : (p q : Pointer) → Counts CompileOnly (λ m. for_texts (store.text m p) (store.text m q)) (appended p q)
  counts_appended p q = record { gained = gained; none = none }
    where
      block : List ℕ → List ℕ → Block V
      block a b = Bytes (map Some (a ++ b ++ 0 ∷ []))

      both : Scene V → Stage → Result (List ℕ) Op → Result (List ℕ) Op → Result (Done V Pointer) Op
      both s stage r t = and_then r (λ a. and_then t (λ b. fixes (block a b) stage s))

      gained : (stage : Stage) (s : Scene V) (d : Done V Pointer) → Belongs CompileOnly stage → appended p q stage s ≡ Ok d → where_granted (λ m. for_texts (store.text m p) (store.text m q)) stage s ≡ cells_between s.memory d.memory
      gained Run s d belongs is = absurd belongs
      gained Compile s d belongs is = go (store.text s.memory p) (store.text s.memory q) is
        where
          go : (r t : Result (List ℕ) Op) → both s Compile r t ≡ Ok d → for_texts r t ≡ cells_between s.memory d.memory
          go (Ok a) (Ok b) h = sym (text_long V a b) ∙ one_fixed s.memory (next_number s.memory.fixed) (block a b) ∙ ap (λ (e : Done V Pointer). cells_between s.memory e.memory) (ok_same h)
          go (Ok a) (Err op) h = err_ok h
          go (Err op) t h = err_ok h

      undefined : (s : Scene V) (stage : Stage) (op : Op) (r t : Result (List ℕ) Op) → both s stage r t ≡ Err op → for_texts r t ≡ 0
      undefined s stage op (Ok a) (Ok b) h = ok_err h
      undefined s stage op (Ok a) (Err e) h = refl
      undefined s stage op (Err e) t h = refl

      none : (stage : Stage) (s : Scene V) (op : Op) → appended p q stage s ≡ Err op → where_granted (λ m. for_texts (store.text m p) (store.text m q)) stage s ≡ 0
      none Compile s op is = undefined s Compile op (store.text s.memory p) (store.text s.memory q) is
      none Run s op is = no_cells (for_texts (store.text s.memory p) (store.text s.memory q)) Run s (undefined s Run op (store.text s.memory p) (store.text s.memory q) is)

module _ {V : Type 0} (values : Values V) where
  -- ---- records

  record_long : (n : ℕ) (fs : List ℕ) (vs : List V) → cells_of {V = V} (Cells (scattered fs (map Some vs) (replicate n None))) ≡ n
  record_long n fs vs = length_scattered fs (map Some vs) (replicate n None) ∙ length-replicate n None

  module _ (n : ℕ) (fs : List ℕ) (vs : List V) (low : Below n fs) where
    abbrev cells : List (Option V)
    cells = scattered fs (map Some vs) (replicate n None)

    abbrev nones : List (Option V)
    nones = replicate n None

    low_cells : Below (length nones) fs
    low_cells = subst (λ l. Below l fs) (sym (length-replicate n None)) low

    -- a record after it was filled
    abbrev full : Surroundings → Pointer → Memory V → Result (Done V Pointer) Op
    full w p m = Ok (record { answer = p; memory = m; world = w; events = events.Tuple (pos n) p ∷ puts_seen values p fs vs })

    filled_fixed : (s : Scene V) → filled values n fs vs (store.fixed s.memory (next_number s.memory.fixed) (Cells (replicate n None))) s.world (At (Fixed (next_number s.memory.fixed)) (pos 0)) ≡
        full s.world (At (Fixed (next_number s.memory.fixed)) (pos 0)) (store.fixed s.memory (next_number s.memory.fixed) (Cells cells))
    filled_fixed s = ap (λ r. and_then r (full s.world (At (Fixed (next_number s.memory.fixed)) (pos 0)))) (fixed_filled s.memory fs vs (replicate n None) low_cells)

    filled_made : (m : Memory V) (w : Surroundings) → filled values n fs vs (one_more m (Cells (replicate n None))) w (At (Made (length m.made)) (pos 0)) ≡
        full w (At (Made (length m.made)) (pos 0)) (one_more m (Cells cells))
    filled_made m w = ap (λ r. and_then r (full w (At (Made (length m.made)) (pos 0)))) (made_filled m fs vs (replicate n None) low_cells)

    abbrev fill : Allocation V → Result (Done V Pointer) Op
    fill a = filled values n fs vs a.memory a.world a.pointer

    -- what is made where it is granted
    filled_granted : (s : Scene V) (d : Done V Pointer) (g : Bool) → fill (granted s.memory s.world (Cells (replicate n None)) g) ≡ Ok d → (if g then n else 0) ≡ cells_between s.memory d.memory
    filled_granted s d true is =
        sym (record_long n fs vs) ∙ one_made s.memory (Cells cells)
        ∙ ap (λ (e : Done V Pointer). cells_between s.memory e.memory) (ok_same (sym (filled_made s.memory (granted s.memory s.world (Cells (replicate n None)) true).world) ∙ is))
    filled_granted s d false is = none_gained s.memory s.memory (itself s.memory) ∙ ap (λ (e : Done V Pointer). cells_between s.memory e.memory) (ok_same is)

    never_undefined : {A : Type 0} (s : Scene V) (op : Op) (g : Bool) → fill (granted s.memory s.world (Cells (replicate n None)) g) ≡ Err op → A
    never_undefined s op true is = ok_err (sym (filled_made s.memory (granted s.memory s.world (Cells (replicate n None)) true).world) ∙ is)
    never_undefined s op false is = ok_err is

    counts_made : Counts Both (λ m. for_cells (pos n)) (made values n fs vs)
    counts_made = record { gained = gained; none = none }
      where
        new : Scene V → Result (Done V Pointer) Op
        new s = filled values n fs vs (store.fixed s.memory (next_number s.memory.fixed) (Cells (replicate n None))) s.world (At (Fixed (next_number s.memory.fixed)) (pos 0))

        asked : Scene V → Bool → Result (Allocation V) Op
        asked s b = if b then Ok (granted s.memory s.world (Cells (replicate n None)) (next_grant s.world.grants)) else Err ops.Size

        gained : (stage : Stage) (s : Scene V) (d : Done V Pointer) → Belongs Both stage → made values n fs vs stage s ≡ Ok d → where_granted (λ m. for_cells (pos n)) stage s ≡ cells_between s.memory d.memory
        gained Compile s d belongs is = go (is_size n) is
          where
            go : (b : Bool) → (if b then new s else Err ops.Size) ≡ Ok d → (if b then n else 0) ≡ cells_between s.memory d.memory
            go true h = sym (record_long n fs vs) ∙ one_fixed s.memory (next_number s.memory.fixed) (Cells cells) ∙ ap (λ (e : Done V Pointer). cells_between s.memory e.memory) (ok_same (sym (filled_fixed s) ∙ h))
            go false h = err_ok h
        gained Run s d belongs is = go (is_size n) is
          where
            go : (b : Bool) → and_then (asked s b) fill ≡ Ok d → (if next_grant s.world.grants then (if b then n else 0) else 0) ≡ cells_between s.memory d.memory
            go true h = filled_granted s d (next_grant s.world.grants) h
            go false h = err_ok h

        none : (stage : Stage) (s : Scene V) (op : Op) → made values n fs vs stage s ≡ Err op → where_granted (λ m. for_cells (pos n)) stage s ≡ 0
        none Compile s op is = go (is_size n) is
          where
            go : (b : Bool) → (if b then new s else Err ops.Size) ≡ Err op → (if b then n else 0) ≡ 0
            go true h = ok_err (sym (filled_fixed s) ∙ h)
            go false h = refl
        none Run s op is = go (is_size n) is
          where
            go : (b : Bool) → and_then (asked s b) fill ≡ Err op → (if next_grant s.world.grants then (if b then n else 0) else 0) ≡ 0
            go true h = never_undefined s op (next_grant s.world.grants) h
            go false h = none_granted (next_grant s.world.grants)

  -- ---- rows

  -- the same of acts that take operands
  abbrev CountsEach : (X : Type 0) → Stages → (ss : List Sort) → Taking V ss (Memory V → ℕ) → Taking V ss (Act V X) → Type 0
  CountsEach X stages [] ask act = Counts stages ask act
  CountsEach X stages (s ∷ ss) ask act = (x : Meant V s) → CountsEach X stages ss (ask x) (act x)

  counts_collecting : (X : Type 0) (stages : Stages) (ss : List Sort) (ask : List V → Memory V → ℕ) (act : List V → Act V X) → ((vs : List V) → Counts stages (ask vs) (act vs)) →
      CountsEach X stages ss (collecting values ss ask) (collecting values ss act)
  counts_collecting X stages [] ask act h = h []
  counts_collecting X stages (s ∷ ss) ask act h = λ x. counts_collecting X stages ss (λ vs. ask (answered values s x ∷ vs)) (λ vs. act (answered values s x ∷ vs)) (λ vs. h (answered values s x ∷ vs))

  -- what comes of operands that may not fit
  abbrev CountsIn : {X : Type 0} → Stages → Option (Memory V → ℕ) → Option (Act V X) → Type 0
  CountsIn stages None None = Unit {0}
  CountsIn stages None (Some act) = ⊥
  CountsIn stages (Some ask) None = ⊥
  CountsIn stages (Some ask) (Some act) = Counts stages ask act

  counts_applied : (X : Type 0) (stages : Stages) (ss : List Sort) (ask : Taking V ss (Memory V → ℕ)) (act : Taking V ss (Act V X)) → CountsEach X stages ss ask act → (vs : List V) →
      CountsIn stages (applied values ss ask vs) (applied values ss act vs)
  counts_applied X stages [] ask act h [] = h
  counts_applied X stages [] ask act h (v ∷ vs) = tt
  counts_applied X stages (s ∷ ss) ask act h [] = tt
  counts_applied X stages (s ∷ ss) ask act h (v ∷ vs) = go (read values s v) (λ x. counts_applied X stages ss (ask x) (act x) (h x) vs)
    where
      go : (o : Option (Meant V s)) → ((x : Meant V s) → CountsIn stages (applied values ss (ask x) vs) (applied values ss (act x) vs)) → CountsIn stages (and_takes values o (λ x. applied values ss (ask x) vs)) (and_takes values o (λ x. applied values ss (act x) vs))
      go None ih = tt
      go (Some x) ih = ih x

  module _ (r : Row V) (ask : Taking V r.operands (Memory V → ℕ)) (h : CountsEach (Meant V r.answer) r.stages r.operands ask r.does) (vs : List V) (stage : Stage) (s : Scene V) where
    abbrev of : Meant V r.answer → V
    of = answered values r.answer

    both : CountsIn r.stages (applied values r.operands ask vs) (applied values r.operands r.does vs)
    both = counts_applied (Meant V r.answer) r.stages r.operands ask r.does h vs

    row_gained : (d : Done V V) → Belongs r.stages stage → perform_row values r vs stage s ≡ Answers d → where_granted (counted (applied values r.operands ask vs)) stage s ≡ cells_between s.memory d.memory
    row_gained d belongs is = go (applied values r.operands ask vs) (applied values r.operands r.does vs) both is
      where
        into : (ask : Memory V → ℕ) (act : Act V (Meant V r.answer)) → Counts r.stages ask act → (e : Result (Done V (Meant V r.answer)) Op) → act stage s ≡ e → performed of stage (Some e) ≡ Answers d → where_granted ask stage s ≡ cells_between s.memory d.memory
        into ask act c (Ok e) at k = c.gained stage s e belongs at ∙ ap (λ (x : Performed V). cells_between s.memory (memory_of x)) k
          where
            memory_of : Performed V → Memory V
            memory_of (Answers d) = d.memory
            memory_of (Undefined op) = s.memory
            memory_of Wrong = s.memory
        into ask act c (Err op) at k = absurd (let clash : ◌≡◌ {A = Performed V} (Undefined op) (Answers d) = k in cc)

        go : (q : Option (Memory V → ℕ)) (o : Option (Act V (Meant V r.answer))) → CountsIn r.stages q o → performed of stage (at_scene stage s o) ≡ Answers d → where_granted (counted q) stage s ≡ cells_between s.memory d.memory
        go None None c k = absurd (let clash : ◌≡◌ {A = Performed V} Wrong (Answers d) = k in cc)
        go None (Some act) c k = absurd c
        go (Some ask) None c k = absurd c
        go (Some ask) (Some act) c k = into ask act c (act stage s) refl k

    row_undefined : (op : Op) → perform_row values r vs stage s ≡ Undefined op → where_granted (counted (applied values r.operands ask vs)) stage s ≡ 0
    row_undefined op is = go (applied values r.operands ask vs) (applied values r.operands r.does vs) both is
      where
        into : (ask : Memory V → ℕ) (act : Act V (Meant V r.answer)) → Counts r.stages ask act → (e : Result (Done V (Meant V r.answer)) Op) → act stage s ≡ e → performed of stage (Some e) ≡ Undefined op → where_granted ask stage s ≡ 0
        into ask act c (Ok e) at k = absurd (let clash : ◌≡◌ {A = Performed V} (performed of stage (Some (Ok e))) (Undefined op) = k in cc)
        into ask act c (Err cause) at k = c.none stage s cause at

        go : (q : Option (Memory V → ℕ)) (o : Option (Act V (Meant V r.answer))) → CountsIn r.stages q o → performed of stage (at_scene stage s o) ≡ Undefined op → where_granted (counted q) stage s ≡ 0
        go None None c k = nothing stage s
        go None (Some act) c k = absurd c
        go (Some ask) None c k = absurd c
        go (Some ask) (Some act) c k = into ask act c (act stage s) refl k

  -- ---- the table

  abbrev CountsRow : List RecordKind → PrimName → Type 0
  CountsRow kinds p = CountsEach (Meant V (row values kinds p).answer) (row values kinds p).stages (row values kinds p).operands (asks values kinds p) (row values kinds p).does

  each_row : (kinds : List RecordKind) → AreKinds kinds → (p : PrimName) → CountsRow kinds p
  each_row kinds are prims.Add = λ i j. counts_answers Both _
  each_row kinds are prims.Subtract = λ i j. counts_answers Both _
  each_row kinds are prims.Multiply = λ i j. counts_answers Both _
  each_row kinds are prims.Quotient = λ i j. counts_answers Both _
  each_row kinds are prims.Remainder = λ i j. counts_answers Both _
  each_row kinds are prims.Modulo = λ i j. counts_answers Both _
  each_row kinds are prims.Equal = λ i j. counts_gives Both _
  each_row kinds are prims.Less = λ i j. counts_gives Both _
  each_row kinds are prims.Greater = λ i j. counts_gives Both _
  each_row kinds are prims.LessOrEqual = λ i j. counts_gives Both _
  each_row kinds are prims.GreaterOrEqual = λ i j. counts_gives Both _
  each_row kinds are prims.IsZero = λ i. counts_gives Both _
  each_row kinds are prims.IsPositive = λ i. counts_gives Both _
  each_row kinds are prims.IsNegative = λ i. counts_gives Both _
  each_row kinds are prims.BitwiseAnd = λ i j. counts_answers Both (Ok (int_bit_and w64 i j))
  each_row kinds are prims.BitwiseOr = λ i j. counts_answers Both (Ok (int_bit_or w64 i j))
  each_row kinds are prims.BitwiseXor = λ i j. counts_answers Both (Ok (int_bit_xor w64 i j))
  each_row kinds are prims.BitwiseNot = λ i. counts_gives Both _
  each_row kinds are prims.ShiftLeft = λ i j. counts_answers Both _
  each_row kinds are prims.ArithmeticShiftRight = λ i j. counts_answers Both _
  each_row kinds are prims.LogicalShiftRight = λ i j. counts_answers Both _
  each_row kinds are prims.Not = λ b. counts_gives Both _
  each_row kinds are prims.BooleanEqual = λ a b. counts_gives Both _
  each_row kinds are prims.CharEqual = λ c d. counts_gives Both _
  each_row kinds are prims.CharLess = λ c d. counts_gives Both _
  each_row kinds are prims.CharToAscii = λ c. counts_gives Both _
  each_row kinds are prims.AsciiToChar = λ i. counts_answers Both _
  each_row kinds are prims.Unspecific = counts_gives Both tt
  each_row kinds are prims.StringLength = λ p. counts_finds Both _ _
  each_row kinds are prims.StringRef = λ p k. counts_finds Both _ _
  each_row kinds are prims.MakeVector = λ n x. counts_vector values.word n x
  each_row kinds are prims.VectorRef = λ p k. counts_finds Both _ _
  each_row kinds are prims.VectorSet = λ p k x. counts_changes Both _ _ (λ m n is. change_same m _ _ n is)
  each_row kinds are prims.IsNullVector = λ p. counts_finds Both _ _
  each_row kinds are prims.DeallocateVector = λ p. counts_changes RunOnly _ _ (λ m n is. release_same m _ n is)
  each_row kinds are prims.ReadByte = counts_reads RunOnly
  each_row kinds are prims.WriteByte = λ i. counts_writes RunOnly i
  each_row kinds are prims.NullAddress = counts_gives Both _
  each_row kinds are prims.IsNullAddress = λ p. counts_finds Both _ _
  each_row kinds are prims.AllocateMemory = λ n. counts_allocate n _
  each_row kinds are prims.DeallocateMemory = λ p. counts_changes RunOnly _ _ (λ m n is. release_same m _ n is)
  each_row kinds are prims.UnsignedByteRef = λ p. counts_finds RunOnly _ _
  each_row kinds are prims.UnsignedByteSet = λ p i. counts_changes RunOnly _ _ (λ m n is. set_byte_same m p i n is)
  each_row kinds are prims.WordRef = λ p. counts_finds RunOnly _ _
  each_row kinds are prims.WordSet = λ p n. counts_changes RunOnly _ _ (λ m n is. change_same m _ _ n is)
  each_row kinds are prims.AddressAdd = λ p k. counts_finds RunOnly _ _
  each_row kinds are prims.AddressDifference = λ p q. counts_finds RunOnly _ _
  each_row kinds are prims.AddressEqual = λ p q. counts_finds RunOnly _ _
  each_row kinds are prims.AddressLess = λ p q. counts_finds RunOnly _ _
  each_row kinds are prims.StringAppend = λ p q. counts_appended p q
  each_row kinds are prims.StringEqual = λ p q. counts_finds CompileOnly _ _
  each_row kinds are prims.VectorLength = λ p. counts_finds CompileOnly _ _
  each_row kinds are (prims.Maker k) = counts_collecting Pointer Both (row values kinds (prims.Maker k)).operands (λ vs m. for_cells (pos (length (fields kinds k)))) (made values (length (fields kinds k)) (maker_order kinds k)) (λ vs. counts_made (length (fields kinds k)) (maker_order kinds k) vs (below_each (length (fields kinds k)) (maker_order kinds k) (each_once kinds k are)))
  each_row kinds are (prims.Predicate k) = λ p. counts_finds Both _ _
  each_row kinds are (prims.Accessor k f) = λ p. counts_finds Both _ _
  each_row kinds are (prims.Modifier k f) = λ p x. counts_changes Both _ _ (λ m n is. change_same m _ _ n is)

applied_some : {V R : Type 0} (values : Values V) (ss : List Sort) (f : Taking V ss R) (vs : List V) → fits values ss vs ≡ true → (r : R) × (applied values ss f vs ≡ Some r)
applied_some values [] f [] fit = (f, refl)
applied_some values [] f (v ∷ vs) fit = true_false (sym fit)
applied_some values (s ∷ ss) f [] fit = true_false (sym fit)
applied_some {V} {R} values (s ∷ ss) f (v ∷ vs) fit = go (read values s v) (λ x. applied_some values ss (f x) vs) fit
  where
    go : (o : Option (Meant V s)) → ((x : Meant V s) → fits values ss vs ≡ true → (r : R) × (applied values ss (f x) vs ≡ Some r)) → is_some o && fits values ss vs ≡ true → (r : R) × (and_takes values o (λ x. applied values ss (f x) vs) ≡ Some r)
    go None ih h = true_false (sym h)
    go (Some x) ih h = ih x h

pub gained : {V : Type 0} → AskedIsGained V
gained values kinds p vs stage s d are belongs is = row_gained values (row values kinds p) (asks values kinds p) (each_row values kinds are p) vs stage s d belongs is

pub undefined : {V : Type 0} → UndefinedAsksNone V
undefined values kinds p vs stage s op are is = row_undefined values (row values kinds p) (asks values kinds p) (each_row values kinds are p) vs stage s op is

pub wrong : {V : Type 0} → WrongAsksNone V
wrong {V} values kinds p vs stage s is = ap (λ o. where_granted (counted o) stage s) (applied_none values r.operands (asks values kinds p) vs (go (fits values r.operands vs) refl)) ∙ nothing stage s
  where
    r : Row V
    r = row values kinds p

    go : (b : Bool) → fits values r.operands vs ≡ b → b ≡ false
    go false fit = refl
    go true fit = let f = applied_some values r.operands r.does vs fit in absurd (never (f.0 stage s) (sym (ap (λ o. performed (answered values r.answer) stage (at_scene stage s o)) f.1) ∙ is))
      where
        never : (e : Result (Done V (Meant V r.answer)) Op) → performed (answered values r.answer) stage (Some e) ≡ Wrong → ⊥
        never (Ok e) k = let clash : ◌≡◌ {A = Performed V} (performed (answered values r.answer) stage (Some (Ok e))) Wrong = k in cc
        never (Err cause) k = let clash : ◌≡◌ {A = Performed V} (Undefined cause) Wrong = k in cc
