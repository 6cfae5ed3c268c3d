-- The operations of records do what their rows say.
-- For: the functions of records.rt
use Rattle.std.proofs.Common.{◌≡◌, ℕ, suc, arith, pos, List, [], ◌∷◌, ◌++◌, length, map, not, Bool, true, false, Option, Some, None, Result, Ok, Err, refl, sym, ap, subst, ◌∙◌}
use Rattle.std.specs.Prelude.{if◌then◌else◌, is_some, replicate, slice_get}
use Rattle.std.proofs.lemmas.List.{append-nil, length-map, length-replicate}
use Rattle.ps_base.proofs.Choices.{and_rest, err_ok, ok_same, true_false}
use Rattle.ps_base.specs.declared.faults.Op.{Op}
use Rattle.ps_base.specs.declared.faults.Op.TheVariants as ops
use Rattle.ps_base.specs.declared.language.PrimName.TheVariants as prims
use Rattle.byte_store.specs.declared.event.Event.{Event}
use Rattle.byte_store.specs.declared.event.Event.TheVariants as events
use Rattle.byte_store.specs.declared.pointer.Base.TheVariants.{Fixed, Made}
use Rattle.byte_store.specs.declared.pointer.Pointer.{Pointer}
use Rattle.byte_store.specs.declared.pointer.Pointer.TheVariants.{Null, At}
use Rattle.byte_store.specs.declared.pointer.Value.{Value}
use Rattle.byte_store.specs.declared.pointer.Value.TheVariants as value
use Rattle.byte_store.specs.Blocks.{Cells, Memory, next_number}
use Rattle.byte_store.specs.Operations as store
use Rattle.byte_store.specs.Operations.{and_then, plus, is_size, Allocation, granted}
use Rattle.byte_store.specs.Words.{word_of}
use Rattle.byte_store.specs.Worlds.{Surroundings, next_grant, rest_of}
use Rattle.ps_types.specs.declared.types.RecordKind.{RecordKind}
use Rattle.ps_prims.specs.declared.outcome.PrimOut.{PrimOut}
use Rattle.ps_prims.specs.declared.outcome.PrimOut.TheVariants as out
use Rattle.ps_prims.specs.declared.stages.Stage.{Stage}
use Rattle.ps_prims.specs.declared.stages.Stage.TheVariants.{Compile, Run}
use Rattle.ps_prims.specs.Sorts.{Sort, Record, Taking, answered, applied, and_takes, first_order, fits, read}
use Rattle.ps_prims.specs.Records.{fields, fields_of, maker_of, maker_order, sort_of_field, made, filled, put_fields, puts}
use Rattle.ps_prims.specs.Rows.{Done, perform_row, row}
use Rattle.ps_prims.specs.Kinds.{AreKinds}
use Rattle.ps_prims.specs.Once.{EachOnce}
use Rattle.ps_prims.specs.Performing.{Comes, State, state}
use Rattle.ps_prims.specs.Inside.{Acts, Changed, Found, FoundQuietly}
use Rattle.ps_prims.specs.InsidePerforming.{Changes, Looks, LooksQuietly}
use Rattle.ps_prims.specs.InsideRecords.{record_seen, scattered}
use Rattle.ps_prims.proofs.ChangesAreTheRows.{changes_of, changes_wrong}
use Rattle.ps_prims.proofs.FieldsAreFilled.{Below, below_each, fixed_filled, made_filled, nat_eq_self}
use Rattle.ps_prims.proofs.LooksChangeNothing.{looks_of, looks_quietly}
use Rattle.ps_prims.proofs.MakesAreTheRows.{comes_of}
use Rattle.ps_prims.proofs.ValuesAreCollected.{collected, reads_some}

-- ---- what takes a record

at_record : {R : Type 0} (k : ℕ) (p : Pointer) (ss : List Sort) (f : Taking Value (Record k ∷ ss) R) (vs : List Value) → applied first_order (Record k ∷ ss) f (value.Tuple k p ∷ vs) ≡ applied first_order ss (f p) vs
at_record k p ss f vs = ap (λ (b : Bool). and_takes first_order (if b then Some p else None) (λ x. applied first_order ss (f x) vs)) (nat_eq_self k)

pub predicate_looks : (vs : List Value) (m : Memory Value) (o : PrimOut) (k : ℕ) (p : Pointer) → vs ≡ value.Tuple k p ∷ [] →
    FoundQuietly o (and_then (store.is_null m p) (λ b. Ok (not b))) (λ b. value.Boolean b) → LooksQuietly o m (perform_row first_order (row first_order [] (prims.Predicate k)) vs)
predicate_looks vs m o k p is found =
    looks_quietly (row first_order [] (prims.Predicate k)) vs m (value.Tuple k p ∷ []) (λ m. and_then (store.is_null m p) (λ b. Ok (not b))) o is (at_record k p [] (row first_order [] (prims.Predicate k)).does []) found

pub accessor_looks : (vs : List Value) (m : Memory Value) (stage : Stage) (old new : List Event) (o : PrimOut) (k f : ℕ) (p : Pointer) → vs ≡ value.Tuple k p ∷ [] →
    Found o (store.get m p (pos f)) (λ x. x) (λ x. events.Get (plus p (pos f)) (word_of x) ∷ []) stage old new → Looks o stage m old new (perform_row first_order (row first_order [] (prims.Accessor k f)) vs)
accessor_looks vs m stage old new o k f p is found =
    looks_of (row first_order [] (prims.Accessor k f)) vs m stage old new (value.Tuple k p ∷ []) (λ m. store.get m p (pos f)) (λ x. events.Get (plus p (pos f)) (word_of x) ∷ []) o is (at_record k p [] (row first_order [] (prims.Accessor k f)).does []) found

pub modifier_changes : (kinds : List RecordKind) (vs : List Value) (m n : Memory Value) (stage : Stage) (old new : List Event) (o : PrimOut) (k f : ℕ) (p : Pointer) (x : Value) (s : Sort) →
    s ≡ sort_of_field (fields kinds k) f → vs ≡ value.Tuple k p ∷ x ∷ [] → is_some (read first_order s x) ≡ true →
    Changed o (store.put m p (pos f) x) (events.Put (plus p (pos f)) (word_of x)) stage m n old new → Changes o stage m n old new (perform_row first_order (row first_order kinds (prims.Modifier k f)) vs)
modifier_changes kinds vs m n stage old new o k f p x s sort is fit h =
    changes_of (row first_order kinds (prims.Modifier k f)).operands (row first_order kinds (prims.Modifier k f)).stages (row first_order kinds (prims.Modifier k f)).does vs (value.Tuple k p ∷ x ∷ []) m n stage old new
    (λ m. store.put m p (pos f) x) (events.Put (plus p (pos f)) (word_of x)) o is at h
  where
    at : applied first_order (row first_order kinds (prims.Modifier k f)).operands (row first_order kinds (prims.Modifier k f)).does (value.Tuple k p ∷ x ∷ []) ≡ Some (puts first_order f p x)
    at =
        let t : Sort = sort_of_field (fields kinds k) f in
        let r = reads_some t x (subst (λ u. is_some (read first_order u x) ≡ true) sort fit) in
        at_record k p (t ∷ []) (row first_order kinds (prims.Modifier k f)).does (x ∷ [])
        ∙ ap (λ o. and_takes first_order o (λ y. Some (puts first_order f p (answered first_order t y)))) r.1
        ∙ ap (λ (y : Value). Some (puts first_order f p y)) r.2

pub modifier_wrong : (kinds : List RecordKind) (vs : List Value) (m : Memory Value) (stage : Stage) (old : List Event) (k f : ℕ) (s : Sort) →
    s ≡ sort_of_field (fields kinds k) f → fits first_order (Record k ∷ s ∷ []) vs ≡ false → Changes out.Wrong stage m m old old (perform_row first_order (row first_order kinds (prims.Modifier k f)) vs)
modifier_wrong kinds vs m stage old k f s sort other = changes_wrong (row first_order kinds (prims.Modifier k f)) vs m stage old (subst (λ t. fits first_order (Record k ∷ t ∷ []) vs ≡ false) sort other)

-- ---- makers

-- the maker of a kind names each of its fields once
pub each_once : (kinds : List RecordKind) (k : ℕ) → AreKinds kinds → EachOnce (length (fields kinds k)) (maker_order kinds k)
each_once kinds k are = go (slice_get kinds k) refl
  where
    go : (o : Option RecordKind) → slice_get kinds k ≡ o → EachOnce (length (fields_of o)) (maker_of o)
    go None e = record { once = λ x lt. absurd (omega (arith, lt)); others = λ x le. refl }
    go (Some kind) e = (are.each k kind e).maker

fit_long : (ss : List Sort) (vs : List Value) → fits first_order ss vs ≡ true → length vs ≡ length ss
fit_long [] [] fit = refl
fit_long [] (v ∷ vs) fit = true_false (sym fit)
fit_long (s ∷ ss) [] fit = true_false (sym fit)
fit_long (s ∷ ss) (v ∷ vs) fit = ap suc (fit_long ss vs (and_rest (is_some (read first_order s v)) (fits first_order ss vs) fit))

pub as_long : (kinds : List RecordKind) (k : ℕ) (vs : List Value) → fits first_order (row first_order kinds (prims.Maker k)).operands vs ≡ true → length vs ≡ length (maker_order kinds k)
as_long kinds k vs fit = fit_long (row first_order kinds (prims.Maker k)).operands vs fit ∙ length-map (maker_order kinds k) (sort_of_field (fields kinds k))

pub maker_comes : (kinds : List RecordKind) (k : ℕ) (vs : List Value) (stage : Stage) (o : PrimOut) (old new : State) → fits first_order (row first_order kinds (prims.Maker k)).operands vs ≡ true →
    Acts o (λ p. value.Tuple k p) stage (made first_order (length (fields kinds k)) (maker_order kinds k) vs stage (record { memory = old.memory; world = old.world })) old new →
    Comes o old new (perform_row first_order (row first_order kinds (prims.Maker k)) vs stage (record { memory = old.memory; world = old.world }))
maker_comes kinds k vs stage o old new fit h =
    comes_of (row first_order kinds (prims.Maker k)) vs vs stage old new (made first_order (length (fields kinds k)) (maker_order kinds k) vs) o refl
    (collected (row first_order kinds (prims.Maker k)).operands (made first_order (length (fields kinds k)) (maker_order kinds k)) vs fit) h

-- the same of the fields and the order that were found
pub maker_does : (kinds : List RecordKind) (k n : ℕ) (fs : List ℕ) (vs : List Value) (stage : Stage) (o : PrimOut) (old new : State) → fits first_order (row first_order kinds (prims.Maker k)).operands vs ≡ true →
    n ≡ length (fields kinds k) → fs ≡ maker_order kinds k →
    Acts o (λ p. value.Tuple k p) stage (made first_order n fs vs stage (record { memory = old.memory; world = old.world })) old new →
    Comes o old new (perform_row first_order (row first_order kinds (prims.Maker k)) vs stage (record { memory = old.memory; world = old.world }))
maker_does kinds k n fs vs stage o old new fit many order h =
    maker_comes kinds k vs stage o old new fit (subst (λ i. Acts o (λ p. value.Tuple k p) stage (made first_order i (maker_order kinds k) vs stage (record { memory = old.memory; world = old.world })) old new) many
    (subst (λ l. Acts o (λ p. value.Tuple k p) stage (made first_order n l vs stage (record { memory = old.memory; world = old.world })) old new) order h))

module _ (k n : ℕ) (fs : List ℕ) (vs : List Value) (m : Memory Value) (w : Surroundings) where
  -- at compile time
  pub fixes_record : (es : List Event) (cells : List Value) → is_size n ≡ true → EachOnce n fs → map Some cells ≡ scattered fs (map Some vs) (replicate n None) →
      Acts (out.Value (value.Tuple k (At (Fixed (next_number m.fixed)) (pos 0)))) (λ p. value.Tuple k p) Compile (made first_order n fs vs Compile (record { memory = m; world = w })) (state m w es) (state (store.fixed m (next_number m.fixed) (Cells (map Some cells))) w es)
  fixes_record es cells size once placed = (At (Fixed (next_number m.fixed)) (pos 0), seen, is, refl, sym (append-nil es))
    where
      seen : List Event
      seen = record_seen first_order (Fixed (next_number m.fixed)) n fs vs

      fills : Result (Memory Value) Op → Result (Done Value Pointer) Op
      fills r = and_then r (λ x. Ok (record { answer = At (Fixed (next_number m.fixed)) (pos 0); memory = x; world = w; events = seen }))

      is : made first_order n fs vs Compile (record { memory = m; world = w }) ≡ fills (Ok (store.fixed m (next_number m.fixed) (Cells (map Some cells))))
      is =
          ap (λ (b : Bool). if b then fills (put_fields (store.fixed m (next_number m.fixed) (Cells (replicate n None))) (At (Fixed (next_number m.fixed)) (pos 0)) fs vs) else Err ops.Size) size
          ∙ ap fills (fixed_filled m fs vs (replicate n None) (subst (λ l. Below l fs) (sym (length-replicate n None)) (below_each n fs once)))
          ∙ ap (λ cs. fills (Ok (store.fixed m (next_number m.fixed) (Cells cs)))) (sym placed)

  pub fixed_record : (es : List Event) (cells : List Value) (number : ℕ) (n' : Memory Value) → is_size n ≡ true → EachOnce n fs → map Some cells ≡ scattered fs (map Some vs) (replicate n None) →
      number ≡ next_number m.fixed → n' ≡ store.fixed m number (Cells (map Some cells)) →
      Acts (out.Value (value.Tuple k (At (Fixed number) (pos 0)))) (λ p. value.Tuple k p) Compile (made first_order n fs vs Compile (record { memory = m; world = w })) (state m w es) (state n' w es)
  fixed_record es cells number n' size once placed is leaves =
      subst (λ x. Acts (out.Value (value.Tuple k (At (Fixed number) (pos 0)))) (λ p. value.Tuple k p) Compile (made first_order n fs vs Compile (record { memory = m; world = w })) (state m w es) (state x w es)) (sym leaves)
      (subst (λ j. Acts (out.Value (value.Tuple k (At (Fixed j) (pos 0)))) (λ p. value.Tuple k p) Compile (made first_order n fs vs Compile (record { memory = m; world = w })) (state m w es) (state (store.fixed m j (Cells (map Some cells))) w es)) (sym is)
      (fixes_record es cells size once placed))

  pub no_size_fixed : is_size n ≡ false → made first_order n fs vs Compile (record { memory = m; world = w }) ≡ Err ops.Size
  no_size_fixed size = ap (λ (b : Bool). if b then filled first_order n fs vs (store.fixed m (next_number m.fixed) (Cells (replicate n None))) w (At (Fixed (next_number m.fixed)) (pos 0)) else Err ops.Size) size

  -- at run time
  abbrev fill : Allocation Value → Result (Done Value Pointer) Op
  fill a = filled first_order n fs vs a.memory a.world a.pointer

  pub no_size_made : is_size n ≡ false → made first_order n fs vs Run (record { memory = m; world = w }) ≡ Err ops.Size
  no_size_made size = ap (λ (b : Bool). and_then (if b then Ok (granted m w (Cells (replicate n None)) (next_grant w.grants)) else Err ops.Size) fill) size

  allocated : (b : Bool) → is_size n ≡ true → next_grant w.grants ≡ b → store.allocate_cells m w (pos n) None ≡ Ok (granted m w (Cells (replicate n None)) b)
  allocated b size grant = ap (λ (t : Bool). if t then Ok (granted m w (Cells (replicate n None)) (next_grant w.grants)) else Err ops.Size) size ∙ ap (λ (t : Bool). Ok (granted m w (Cells (replicate n None)) t)) grant

  pub refuses_record : (old : List Event) → is_size n ≡ true → next_grant w.grants ≡ false →
      Acts (out.Value (value.Tuple k Null)) (λ p. value.Tuple k p) Run (made first_order n fs vs Run (record { memory = m; world = w })) (state m w old) (state m (record w { grants = rest_of w.grants }) (old ++ events.Tuple (pos n) Null ∷ []))
  refuses_record old size grant = (Null, events.Tuple (pos n) Null ∷ [], ap (λ r. and_then r fill) (allocated false size grant), refl, refl)

  module _ (m1 : Memory Value) (w1 : Surroundings) (p : Pointer) (size : is_size n ≡ true) (grant : next_grant w.grants ≡ true) (at : store.allocate_cells m w (pos n) None ≡ Ok (record { memory = m1; world = w1; pointer = p })) where
    is_next : granted m w (Cells (replicate n None)) true ≡ record { memory = m1; world = w1; pointer = p }
    is_next = ok_same (sym (allocated true size grant) ∙ at)

    pub makes_record : (old new : List Event) (m2 : Memory Value) → put_fields m1 p fs vs ≡ Ok m2 → new ≡ old ++ record_seen first_order (Made (length m.made)) n fs vs →
        Acts (out.Value (value.Tuple k p)) (λ q. value.Tuple k q) Run (made first_order n fs vs Run (record { memory = m; world = w })) (state m w old) (state m2 w1 new)
    makes_record old new m2 puts told =
        (p, record_seen first_order (Made (length m.made)) n fs vs, ap (λ r. and_then r fill) at ∙ filled_at p (sym (ap (λ (a : Allocation Value). a.pointer) is_next)) puts, refl, told)
      where
        filled_at : (q : Pointer) → q ≡ At (Made (length m.made)) (pos 0) → put_fields m1 q fs vs ≡ Ok m2 →
            filled first_order n fs vs m1 w1 q ≡ Ok (record { answer = q; memory = m2; world = w1; events = record_seen first_order (Made (length m.made)) n fs vs })
        filled_at q is = subst (λ r. put_fields m1 r fs vs ≡ Ok m2 → filled first_order n fs vs m1 w1 r ≡ Ok (record { answer = r; memory = m2; world = w1; events = record_seen first_order (Made (length m.made)) n fs vs })) (sym is)
            (λ h. ap (λ r. and_then r (λ x. Ok (record { answer = At (Made (length m.made)) (pos 0); memory = x; world = w1; events = record_seen first_order (Made (length m.made)) n fs vs }))) h)

    pub always_filled : {A : Type 0} (op : Op) → EachOnce n fs → put_fields m1 p fs vs ≡ Err op → A
    always_filled op once not =
        err_ok (sym not ∙ ap (λ (a : Allocation Value). put_fields a.memory a.pointer fs vs) (sym is_next) ∙ made_filled m fs vs (replicate n None) (subst (λ l. Below l fs) (sym (length-replicate n None)) (below_each n fs once)))
