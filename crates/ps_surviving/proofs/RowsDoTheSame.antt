-- A primitive does the same on two memories whose fixed blocks are the same where a program reaches, and asks for as many cells.
-- For: `survivors_run_alike`
use Rattle.std.proofs.Common.{◌≡◌, ℕ, ℤ, pos, List, [], ◌∷◌, length, map, Bool, true, false, Option, Some, None, Result, Ok, Err, refl, sym, ap, subst, arith}
use Rattle.std.specs.Prelude.{◌&&◌, not, nat_eq, if◌then◌else◌}
use Rattle.std.specs.Int.{w64, int_bit_and, int_bit_or, int_bit_xor}
use Rattle.ps_base.specs.declared.faults.Op.{Op}
use Rattle.ps_base.specs.declared.language.PrimName.{PrimName}
use Rattle.ps_base.specs.declared.language.PrimName.TheVariants as prims
use Rattle.byte_store.specs.declared.event.Event.{Event}
use Rattle.byte_store.specs.declared.event.Event.TheVariants as events
use Rattle.byte_store.specs.declared.pointer.Pointer.{Pointer}
use Rattle.byte_store.specs.declared.pointer.Pointer.TheVariants.{Null, At}
use Rattle.byte_store.specs.declared.pointer.Value.{Value}
use Rattle.byte_store.specs.declared.pointer.Value.TheVariants as value
use Rattle.byte_store.specs.Worlds.{Surroundings, next_grant}
use Rattle.byte_store.specs.Blocks.{Block, Memory}
use Rattle.byte_store.specs.Operations as store
use Rattle.byte_store.specs.Operations.{and_then, plus, Allocation}
use Rattle.ps_prims.specs.declared.stages.Stage.TheVariants.{Run}
use Rattle.ps_prims.specs.declared.sorts.Sort.{Sort}
use Rattle.ps_prims.specs.declared.sorts.Sort.TheVariants.{Integer, Boolean, Char, Unit as Unit', Address, Text, Vector, Record, Any}
use Rattle.ps_prims.specs.Sorts.{Meant, Taking, and_seen, as_address, as_text, as_vector, as_record, read, answered, applied, and_takes, collecting}
use Rattle.ps_prims.specs.Rows.{Scene, Done, Act, Row, row, answers, gives, finds, changes, makes, reads, writes, byte_of, char_of, unseen, Performed, Answers, performed, at_scene, perform_row, perform}
use Rattle.ps_types.specs.declared.types.RecordKind.{RecordKind}
use Rattle.ps_prims.specs.Records.{fields, maker_order, sort_of_field, put_fields, filled, made, puts_seen}
use Rattle.ps_prims.specs.Cells.{asks, asked_at, counted, for_cells}
use Rattle.ps_prims.specs.Rows as rows
use Rattle.ps_meaning.specs.Eval.{belongs}
use Rattle.ps_meaning.specs.declared.values.RunValue.{RunValue, out-RunValue}
use Rattle.ps_meaning.specs.declared.values.RunValue.TheOpen.{RunValue-F}
use Rattle.ps_meaning.specs.declared.values.RunValue.TheVariants.{Plain}
use Rattle.ps_meaning.specs.declared.values.Binding.{Binding}
use Rattle.ps_meaning.specs.Values.{run_values, seen_of}
use Rattle.ps_surviving.proofs.ChangesPutOne.{none_some, some_same, Good}
use Rattle.ps_surviving.proofs.StoresDoTheSame.{other, pointer_reached, Beside, ChangesSame, look_same, null_same, compare_same, equal_same, text_at_same, moved_same, cell_inside, plus_reached, put_bytes_same, byte_same, release_same, put_same, AllocatesSame, cells_same, bytes_same}

abbrev nothing : Unit {0}
nothing = tt

module _ (reached : ℕ → Bool) where
  abbrev pub plain_inside : Value → Bool
  plain_inside (value.Integer i) = true
  plain_inside (value.Boolean b) = true
  plain_inside (value.Char c) = true
  plain_inside value.Unit = true
  plain_inside (value.Address p) = pointer_reached reached p
  plain_inside (value.Text p) = pointer_reached reached p
  plain_inside (value.Vector p) = pointer_reached reached p
  plain_inside (value.Tuple k p) = pointer_reached reached p

  abbrev pub LayerInside : RunValue-F RunValue Binding → Type 0
  LayerInside (RunValue-F.Plain v) = plain_inside v ≡ true
  LayerInside (RunValue-F.Procedure l bs) = Unit {0}

  -- what is asked of 'a value is inside'
  pub record Insides (inside : RunValue → Bool) : Type 0 where
    pub opens : (v : RunValue) → inside v ≡ true → LayerInside (out-RunValue v)
    pub plain : (v : Value) → plain_inside v ≡ true → inside (Plain v) ≡ true

module _ (reached : ℕ → Bool) (inside : RunValue → Bool) (laws : Insides reached inside) where
  abbrev pub Reach : Pointer → Type 0
  Reach p = pointer_reached reached p ≡ true

  -- what a row sees of a value that is inside
  abbrev pub Sees : (s : Sort) → Meant RunValue s → Type 0
  Sees Integer i = Unit {0}
  Sees Boolean b = Unit {0}
  Sees Char c = Unit {0}
  Sees Unit' u = Unit {0}
  Sees Address p = Reach p
  Sees Text p = Reach p
  Sees Vector p = Reach p
  Sees (Record k) p = Reach p
  Sees Any v = inside v ≡ true

  address_there : (x : RunValue-F RunValue Binding) (q : Pointer) → and_seen run_values (seen_of x) as_address ≡ Some q → LayerInside reached x → Reach q
  address_there (RunValue-F.Plain (value.Integer i)) q e h = absurd (none_some q e)
  address_there (RunValue-F.Plain (value.Boolean b)) q e h = absurd (none_some q e)
  address_there (RunValue-F.Plain (value.Char c)) q e h = absurd (none_some q e)
  address_there (RunValue-F.Plain value.Unit) q e h = absurd (none_some q e)
  address_there (RunValue-F.Plain (value.Address p)) q e h = subst Reach (some_same p q e) h
  address_there (RunValue-F.Plain (value.Text p)) q e h = absurd (none_some q e)
  address_there (RunValue-F.Plain (value.Vector p)) q e h = absurd (none_some q e)
  address_there (RunValue-F.Plain (value.Tuple k p)) q e h = absurd (none_some q e)
  address_there (RunValue-F.Procedure l bs) q e h = absurd (none_some q e)

  text_there : (x : RunValue-F RunValue Binding) (q : Pointer) → and_seen run_values (seen_of x) as_text ≡ Some q → LayerInside reached x → Reach q
  text_there (RunValue-F.Plain (value.Integer i)) q e h = absurd (none_some q e)
  text_there (RunValue-F.Plain (value.Boolean b)) q e h = absurd (none_some q e)
  text_there (RunValue-F.Plain (value.Char c)) q e h = absurd (none_some q e)
  text_there (RunValue-F.Plain value.Unit) q e h = absurd (none_some q e)
  text_there (RunValue-F.Plain (value.Address p)) q e h = absurd (none_some q e)
  text_there (RunValue-F.Plain (value.Text p)) q e h = subst Reach (some_same p q e) h
  text_there (RunValue-F.Plain (value.Vector p)) q e h = absurd (none_some q e)
  text_there (RunValue-F.Plain (value.Tuple k p)) q e h = absurd (none_some q e)
  text_there (RunValue-F.Procedure l bs) q e h = absurd (none_some q e)

  vector_there : (x : RunValue-F RunValue Binding) (q : Pointer) → and_seen run_values (seen_of x) as_vector ≡ Some q → LayerInside reached x → Reach q
  vector_there (RunValue-F.Plain (value.Integer i)) q e h = absurd (none_some q e)
  vector_there (RunValue-F.Plain (value.Boolean b)) q e h = absurd (none_some q e)
  vector_there (RunValue-F.Plain (value.Char c)) q e h = absurd (none_some q e)
  vector_there (RunValue-F.Plain value.Unit) q e h = absurd (none_some q e)
  vector_there (RunValue-F.Plain (value.Address p)) q e h = absurd (none_some q e)
  vector_there (RunValue-F.Plain (value.Text p)) q e h = absurd (none_some q e)
  vector_there (RunValue-F.Plain (value.Vector p)) q e h = subst Reach (some_same p q e) h
  vector_there (RunValue-F.Plain (value.Tuple k p)) q e h = absurd (none_some q e)
  vector_there (RunValue-F.Procedure l bs) q e h = absurd (none_some q e)

  record_there : (k : ℕ) (x : RunValue-F RunValue Binding) (q : Pointer) → and_seen run_values (seen_of x) (as_record k) ≡ Some q → LayerInside reached x → pointer_reached reached q ≡ true
  record_there k (RunValue-F.Plain (value.Integer i)) q e h = absurd (none_some q e)
  record_there k (RunValue-F.Plain (value.Boolean b)) q e h = absurd (none_some q e)
  record_there k (RunValue-F.Plain (value.Char c)) q e h = absurd (none_some q e)
  record_there k (RunValue-F.Plain value.Unit) q e h = absurd (none_some q e)
  record_there k (RunValue-F.Plain (value.Address p)) q e h = absurd (none_some q e)
  record_there k (RunValue-F.Plain (value.Text p)) q e h = absurd (none_some q e)
  record_there k (RunValue-F.Plain (value.Vector p)) q e h = absurd (none_some q e)
  record_there k (RunValue-F.Plain (value.Tuple j p)) q e h = one (nat_eq j k) e
    where
      one : (c : Bool) → (if c then Some p else None) ≡ Some q → pointer_reached reached q ≡ true
      one true g = subst (λ z. pointer_reached reached z ≡ true) (some_same p q g) h
      one false g = absurd (none_some q g)
  record_there k (RunValue-F.Procedure l bs) q e h = absurd (none_some q e)

  sees_there : (s : Sort) (v : RunValue) (x : Meant RunValue s) → read run_values s v ≡ Some x → inside v ≡ true → Sees s x
  sees_there Integer v x e h = tt
  sees_there Boolean v x e h = tt
  sees_there Char v x e h = tt
  sees_there Unit' v x e h = tt
  sees_there Address v p e h = address_there (out-RunValue v) p e (laws.opens v h)
  sees_there Text v p e h = text_there (out-RunValue v) p e (laws.opens v h)
  sees_there Vector v p e h = vector_there (out-RunValue v) p e (laws.opens v h)
  sees_there (Record k) v p e h = record_there k (out-RunValue v) p e (laws.opens v h)
  sees_there Any v x e h = subst (λ z. inside z ≡ true) (some_same v x e) h

  answered_inside : (s : Sort) (x : Meant RunValue s) → Sees s x → inside (answered run_values s x) ≡ true
  answered_inside Integer i h = laws.plain (value.Integer i) refl
  answered_inside Boolean b h = laws.plain (value.Boolean b) refl
  answered_inside Char c h = laws.plain (value.Char c) refl
  answered_inside Unit' u h = laws.plain value.Unit refl
  answered_inside Address p h = laws.plain (value.Address p) h
  answered_inside Text p h = laws.plain (value.Text p) h
  answered_inside Vector p h = laws.plain (value.Vector p) h
  answered_inside (Record k) p h = laws.plain (value.Tuple k p) h
  answered_inside Any v h = h

  -- ---- acts

  abbrev pub beside_scene : Scene RunValue → List (ℕ × Block RunValue) → Scene RunValue
  beside_scene s fixed = record s { memory = other s.memory fixed }

  pub record Does (X : Type 0) (Q : X → Type 0) (d : Done RunValue X) (y : Result (Done RunValue X) Op) : Type 0 where
    pub fixed : List (ℕ × Block RunValue)
    pub is : y ≡ Ok (record d { memory = other d.memory fixed })
    pub beside : Beside reached inside d.memory fixed
    pub answer : Q d.answer

  abbrev pub DoesSame : {X : Type 0} → (X → Type 0) → Result (Done RunValue X) Op → Result (Done RunValue X) Op → Type 0
  DoesSame {X} Q (Ok d) y = Does X Q d y
  DoesSame Q (Err op) y = y ≡ Err op

  pub record ActSame (X : Type 0) (Q : X → Type 0) (act : Act RunValue X) : Type 0 where
    pub same : (s : Scene RunValue) (fixed : List (ℕ × Block RunValue)) → Beside reached inside s.memory fixed → DoesSame Q (act Run s) (act Run (beside_scene s fixed))

  answers_same : {X : Type 0} (Q : X → Type 0) (r : Result X Op) → ((x : X) → Q x) → ActSame X Q (answers r)
  answers_same Q (Ok x) h = record { same = λ s fixed b. record { fixed = fixed; is = refl; beside = b; answer = h x } }
  answers_same Q (Err op) h = record { same = λ s fixed b. refl }

  gives_same : {X : Type 0} (Q : X → Type 0) (x : X) → Q x → ActSame X Q (gives x)
  gives_same Q x h = record { same = λ s fixed b. record { fixed = fixed; is = refl; beside = b; answer = h } }

  abbrev Looks : {X : Type 0} → (X → Type 0) → (Memory RunValue → Result X Op) → Type 0
  Looks Q look = (m : Memory RunValue) (fixed : List (ℕ × Block RunValue)) → Beside reached inside m fixed → (look (other m fixed) ≡ look m) × Good Q (look m)

  pub finds_same : {X : Type 0} (Q : X → Type 0) (look : Memory RunValue → Result X Op) (told : X → List Event) → Looks Q look → ActSame X Q (finds look told)
  finds_same {X} Q look told h = record {
    same = λ s fixed b.
        let l = h s.memory fixed b in
        subst (λ r. DoesSame Q (and_then (look s.memory) (λ x. Ok (record { answer = x; memory = s.memory; world = s.world; events = told x }))) (and_then r (λ x. Ok (record { answer = x; memory = other s.memory fixed; world = s.world; events = told x }))))
        (sym l.0) (one s fixed b (look s.memory) l.1);
  }
    where
      one : (s : Scene RunValue) (fixed : List (ℕ × Block RunValue)) → Beside reached inside s.memory fixed → (r : Result X Op) → Good Q r
          → DoesSame Q (and_then r (λ x. Ok (record { answer = x; memory = s.memory; world = s.world; events = told x }))) (and_then r (λ x. Ok (record { answer = x; memory = other s.memory fixed; world = s.world; events = told x })))
      one s fixed b (Ok x) q = record { fixed = fixed; is = refl; beside = b; answer = q }
      one s fixed b (Err op) q = refl

  abbrev pub U : {X : Type 0} → X → Type 0
  U x = Unit {0}

  pub any : {X : Type 0} (r : Result X Op) → Good U r
  any (Ok x) = tt
  any (Err op) = tt

  pub changes_same : (change : Memory RunValue → Result (Memory RunValue) Op) (event : Event) → ((m : Memory RunValue) (fixed : List (ℕ × Block RunValue)) → Beside reached inside m fixed → ChangesSame reached inside (change m) (change (other m fixed))) → ActSame (Unit {0}) U (changes change event)
  changes_same change event h = record { same = λ s fixed b. one s (change s.memory) (change (other s.memory fixed)) (h s.memory fixed b) }
    where
      one : (s : Scene RunValue) (x y : Result (Memory RunValue) Op) → ChangesSame reached inside x y
          → DoesSame U (and_then x (λ m. Ok (record { answer = nothing; memory = m; world = s.world; events = event ∷ [] }))) (and_then y (λ m. Ok (record { answer = nothing; memory = m; world = s.world; events = event ∷ [] })))
      one s (Ok m) (Ok y) c = record { fixed = c.fixed; is = ap (λ z. Ok (record { answer = nothing; memory = z; world = s.world; events = event ∷ [] })) c.is; beside = c.beside; answer = tt }
      one s (Ok m) (Err op) c = absurd c
      one s (Err op) y c = ap (λ z. and_then z (λ m. Ok (record { answer = nothing; memory = m; world = s.world; events = event ∷ [] }))) c

  makes_same : (make : Memory RunValue → Surroundings → Result (Allocation RunValue) Op) (event : Pointer → Event) → ((m : Memory RunValue) (fixed : List (ℕ × Block RunValue)) (w : Surroundings) (b : Beside reached inside m fixed) → AllocatesSame reached inside m fixed b (make m w) (make (other m fixed) w))
      → ActSame Pointer Reach (makes make event)
  makes_same make event h = record { same = λ s fixed b. one s fixed b (make s.memory s.world) (make (other s.memory fixed) s.world) (h s.memory fixed s.world b) }
    where
      one : (s : Scene RunValue) (fixed : List (ℕ × Block RunValue)) (b : Beside reached inside s.memory fixed) (x y : Result (Allocation RunValue) Op) → AllocatesSame reached inside s.memory fixed b x y
          → DoesSame Reach (and_then x (λ a. Ok (record { answer = a.pointer; memory = a.memory; world = a.world; events = event a.pointer ∷ [] }))) (and_then y (λ a. Ok (record { answer = a.pointer; memory = a.memory; world = a.world; events = event a.pointer ∷ [] })))
      one s fixed b (Ok a) y c = record { fixed = c.fixed_after; is = ap (λ z. and_then z (λ a. Ok (record { answer = a.pointer; memory = a.memory; world = a.world; events = event a.pointer ∷ [] }))) c.is; beside = c.beside; answer = c.reaches }
      one s fixed b (Err op) y c = ap (λ z. and_then z (λ a. Ok (record { answer = a.pointer; memory = a.memory; world = a.world; events = event a.pointer ∷ [] }))) c

  -- ---- rows

  abbrev TakesSame : {X : Type 0} → (X → Type 0) → (ss : List Sort) → Taking RunValue ss (Act RunValue X) → Type 0
  TakesSame {X} Q [] f = ActSame X Q f
  TakesSame Q (s ∷ ss) f = (x : Meant RunValue s) → Sees s x → TakesSame Q ss (f x)

  abbrev pub all_inside : List RunValue → Bool
  all_inside [] = true
  all_inside (v ∷ vs) = inside v && all_inside vs

  pub left_true : (a b : Bool) → (a && b) ≡ true → a ≡ true
  left_true true b h = refl
  left_true false b h = h

  pub right_true : (a b : Bool) → (a && b) ≡ true → b ≡ true
  right_true true b h = h
  right_true false b h = absurd (grind (arith, h))

  both_true : (a b : Bool) → a ≡ true → b ≡ true → (a && b) ≡ true
  both_true true b h g = g
  both_true false b h g = absurd (grind (arith, h))

  abbrev MaybeSame : {X : Type 0} → (X → Type 0) → Option (Act RunValue X) → Type 0
  MaybeSame Q None = Unit {0}
  MaybeSame {X} Q (Some act) = ActSame X Q act

  applied_same : {X : Type 0} (Q : X → Type 0) (ss : List Sort) (f : Taking RunValue ss (Act RunValue X)) (vs : List RunValue) → TakesSame Q ss f → all_inside vs ≡ true → MaybeSame Q (applied run_values ss f vs)
  applied_same Q [] f [] g h = g
  applied_same Q [] f (v ∷ vs) g h = tt
  applied_same Q (s ∷ ss) f [] g h = tt
  applied_same Q (s ∷ ss) f (v ∷ vs) g h = one (λ x e. applied_same Q ss (f x) vs (g x (sees_there s v x e (left_true (inside v) (all_inside vs) h))) (right_true (inside v) (all_inside vs) h)) (read run_values s v) refl
    where
      one : ((x : Meant RunValue s) → read run_values s v ≡ Some x → MaybeSame Q (applied run_values ss (f x) vs)) → (o : Option (Meant RunValue s)) → read run_values s v ≡ o → MaybeSame Q (and_takes run_values o (λ x. applied run_values ss (f x) vs))
      one later None e = tt
      one later (Some x) e = later x e

  writes_same : (i : ℤ) → ActSame (Unit {0}) U (writes i)
  writes_same i = record { same = λ s fixed b. one s fixed b (byte_of i) }
    where
      one : (s : Scene RunValue) (fixed : List (ℕ × Block RunValue)) → Beside reached inside s.memory fixed → (r : Result ℤ Op)
          → DoesSame U (and_then r (λ n. Ok (record { answer = nothing; memory = s.memory; world = s.world; events = events.Output n ∷ [] }))) (and_then r (λ n. Ok (record { answer = nothing; memory = other s.memory fixed; world = s.world; events = events.Output n ∷ [] })))
      one s fixed b (Ok n) = record { fixed = fixed; is = refl; beside = b; answer = tt }
      one s fixed b (Err op) = refl

  moved_reached : (p : Pointer) (k : ℤ) → Reach p → (m : Memory RunValue) → Good Reach (store.moved m p k)
  moved_reached p k h m = one (store.look m (plus p k) store.place_at)
    where
      on : (p : Pointer) → Reach p → Reach (plus p k)
      on Null h = refl
      on (At base offset) h = h

      one : (r : Result ℤ Op) → Good Reach (and_then r (λ at. Ok (plus p k)))
      one (Ok at) = on p h
      one (Err op) = tt

  -- ---- records

  then_put : (m : Memory RunValue) (p : Pointer) (fs : List ℕ) (vs : List RunValue) → Reach p → all_inside vs ≡ true → (fixed : List (ℕ × Block RunValue)) → Beside reached inside m fixed
      → ChangesSame reached inside (put_fields m p fs vs) (put_fields (other m fixed) p fs vs)
  then_put m p [] vs r h fixed b = record { fixed = fixed; is = refl; beside = b }
  then_put m p (f ∷ fs) [] r h fixed b = record { fixed = fixed; is = refl; beside = b }
  then_put m p (f ∷ fs) (v ∷ vs) r h fixed b =
      one (λ m' fixed' b'. then_put m' p fs vs r (right_true (inside v) (all_inside vs) h) fixed' b') (store.put m p (pos f) v) (store.put (other m fixed) p (pos f) v)
      (put_same reached inside m fixed b p (pos f) v r (left_true (inside v) (all_inside vs) h))
    where
      one : ((m' : Memory RunValue) (fixed' : List (ℕ × Block RunValue)) → Beside reached inside m' fixed' → ChangesSame reached inside (put_fields m' p fs vs) (put_fields (other m' fixed') p fs vs)) → (x y : Result (Memory RunValue) Op) → ChangesSame reached inside x y
          → ChangesSame reached inside (and_then x (λ m'. put_fields m' p fs vs)) (and_then y (λ m'. put_fields m' p fs vs))
      one later (Ok m') (Ok y) c = subst (λ z. ChangesSame reached inside (put_fields m' p fs vs) (put_fields z p fs vs)) (sym c.is) (later m' c.fixed c.beside)
      one later (Ok m') (Err op) c = absurd c
      one later (Err op) y c = ap (λ z. and_then z (λ m'. put_fields m' p fs vs)) c

  filled_same : (n : ℕ) (fs : List ℕ) (vs : List RunValue) (m : Memory RunValue) (w : Surroundings) (p : Pointer) (fixed : List (ℕ × Block RunValue)) → Beside reached inside m fixed → Reach p → all_inside vs ≡ true
      → DoesSame Reach (filled run_values n fs vs m w p) (filled run_values n fs vs (other m fixed) w p)
  filled_same n fs vs m w Null fixed b r h = record { fixed = fixed; is = refl; beside = b; answer = refl }
  filled_same n fs vs m w (At base o) fixed b r h = one (put_fields m (At base o) fs vs) (put_fields (other m fixed) (At base o) fs vs) (then_put m (At base o) fs vs r h fixed b)
    where
      ends : Memory RunValue → Result (Done RunValue Pointer) Op
      ends m' = Ok (record { answer = At base o; memory = m'; world = w; events = events.Tuple (pos n) (At base o) ∷ puts_seen run_values (At base o) fs vs })

      one : (x y : Result (Memory RunValue) Op) → ChangesSame reached inside x y → DoesSame Reach (and_then x ends) (and_then y ends)
      one (Ok m') (Ok y) c = record { fixed = c.fixed; is = ap ends c.is; beside = c.beside; answer = r }
      one (Ok m') (Err op) c = absurd c
      one (Err op) y c = ap (λ z. and_then z ends) c

  made_same : (n : ℕ) (fs : List ℕ) (vs : List RunValue) → all_inside vs ≡ true → ActSame Pointer Reach (made run_values n fs vs)
  made_same n fs vs h = record {
    same = λ s fixed b. one s fixed b (store.allocate_cells s.memory s.world (pos n) None) (store.allocate_cells (other s.memory fixed) s.world (pos n) None)
        (cells_same reached inside s.memory fixed b s.world (pos n) None (λ v e. absurd (none_some v e)));
  }
    where
      ends : Allocation RunValue → Result (Done RunValue Pointer) Op
      ends a = filled run_values n fs vs a.memory a.world a.pointer

      one : (s : Scene RunValue) (fixed : List (ℕ × Block RunValue)) (b : Beside reached inside s.memory fixed) (x y : Result (Allocation RunValue) Op) → AllocatesSame reached inside s.memory fixed b x y → DoesSame Reach (and_then x ends) (and_then y ends)
      one s fixed b (Ok a) y c = subst (λ z. DoesSame Reach (ends a) (and_then z ends)) (sym c.is) (filled_same n fs vs a.memory a.world a.pointer c.fixed_after c.beside c.reaches h)
      one s fixed b (Err op) y c = ap (λ z. and_then z ends) c

  -- what collects its operands
  collecting_same : {X : Type 0} (Q : X → Type 0) (ss : List Sort) (f : List RunValue → Act RunValue X) → ((vs : List RunValue) → all_inside vs ≡ true → ActSame X Q (f vs)) → TakesSame Q ss (collecting run_values ss f)
  collecting_same Q [] f h = h [] refl
  collecting_same Q (s ∷ ss) f h = λ x sees. collecting_same Q ss (λ vs. f (answered run_values s x ∷ vs)) (λ vs all. h (answered run_values s x ∷ vs) (both_true (inside (answered run_values s x)) (all_inside vs) (answered_inside s x sees) all))

  -- each row that belongs to run time
  row_same : (kinds : List RecordKind) (p : PrimName) → belongs (row run_values kinds p).stages Run ≡ true → TakesSame (λ x. Sees (row run_values kinds p).answer x) (row run_values kinds p).operands (row run_values kinds p).does
  row_same kinds prims.Add b = λ i hi j hj. answers_same U _ (λ k. tt)
  row_same kinds prims.Subtract b = λ i hi j hj. answers_same U _ (λ k. tt)
  row_same kinds prims.Multiply b = λ i hi j hj. answers_same U _ (λ k. tt)
  row_same kinds prims.Quotient b = λ i hi j hj. answers_same U _ (λ k. tt)
  row_same kinds prims.Remainder b = λ i hi j hj. answers_same U _ (λ k. tt)
  row_same kinds prims.Modulo b = λ i hi j hj. answers_same U _ (λ k. tt)
  row_same kinds prims.Equal b = λ i hi j hj. gives_same U _ tt
  row_same kinds prims.Less b = λ i hi j hj. gives_same U _ tt
  row_same kinds prims.Greater b = λ i hi j hj. gives_same U _ tt
  row_same kinds prims.LessOrEqual b = λ i hi j hj. gives_same U _ tt
  row_same kinds prims.GreaterOrEqual b = λ i hi j hj. gives_same U _ tt
  row_same kinds prims.IsZero b = λ i hi. gives_same U _ tt
  row_same kinds prims.IsPositive b = λ i hi. gives_same U _ tt
  row_same kinds prims.IsNegative b = λ i hi. gives_same U _ tt
  row_same kinds prims.BitwiseAnd b = λ i hi j hj. answers_same U (Ok (int_bit_and w64 i j)) (λ k. tt)
  row_same kinds prims.BitwiseOr b = λ i hi j hj. answers_same U (Ok (int_bit_or w64 i j)) (λ k. tt)
  row_same kinds prims.BitwiseXor b = λ i hi j hj. answers_same U (Ok (int_bit_xor w64 i j)) (λ k. tt)
  row_same kinds prims.BitwiseNot b = λ x0 h0. gives_same U _ tt
  row_same kinds prims.ShiftLeft b = λ i hi j hj. answers_same U _ (λ k. tt)
  row_same kinds prims.ArithmeticShiftRight b = λ i hi j hj. answers_same U _ (λ k. tt)
  row_same kinds prims.LogicalShiftRight b = λ i hi j hj. answers_same U _ (λ k. tt)
  row_same kinds prims.Not b = λ x0 h0. gives_same U _ tt
  row_same kinds prims.BooleanEqual b = λ x0 h0 x1 h1. gives_same U _ tt
  row_same kinds prims.CharEqual b = λ x0 h0 x1 h1. gives_same U _ tt
  row_same kinds prims.CharLess b = λ x0 h0 x1 h1. gives_same U _ tt
  row_same kinds prims.CharToAscii b = λ x0 h0. gives_same U _ tt
  row_same kinds prims.AsciiToChar b = λ x0 h0. answers_same U _ (λ k. tt)
  row_same kinds prims.Unspecific b = gives_same U _ tt
  row_same kinds prims.StringLength b = λ p hp. finds_same U (λ m. store.text_length m p) _ (λ m fixed b. (look_same reached inside m fixed b p store.text_from hp, any (store.text_length m p)))
  row_same kinds prims.StringRef b = λ p hp k hk. finds_same U (λ m. and_then (store.text_at m p k) char_of) _ (λ m fixed b. (ap (λ r. and_then r char_of) (text_at_same reached inside m fixed b p k hp), any (and_then (store.text_at m p k) char_of)))
  row_same kinds prims.MakeVector b = λ n hn x hx. record { same = λ s fixed b. (makes_same (λ m w. store.allocate_cells m w n (Some x)) (λ p. events.Fill n (run_values.word x) p) (λ m fixed w b. cells_same reached inside m fixed b w n (Some x) (λ v e. subst (λ z. inside z ≡ true) (some_same x v e) hx))).same s fixed b }
  row_same kinds prims.VectorRef b = λ p hp k hk. finds_same (λ v. inside v ≡ true) (λ m. store.get m p k) _ (λ m fixed b. (look_same reached inside m fixed b (plus p k) store.cell_at (plus_reached reached inside m fixed b p k hp), cell_inside reached inside m fixed b (plus p k) (plus_reached reached inside m fixed b p k hp)))
  row_same kinds prims.VectorSet b = λ p hp k hk x hx. changes_same (λ m. store.put m p k x) _ (λ m fixed b. put_same reached inside m fixed b p k x hp hx)
  row_same kinds prims.IsNullVector b = λ p hp. finds_same U (λ m. store.is_null m p) _ (λ m fixed b. (null_same reached inside m fixed b p hp, any (store.is_null m p)))
  row_same kinds prims.DeallocateVector b = λ p hp. changes_same (λ m. store.release m p) _ (λ m fixed b. release_same reached inside m fixed b p)
  row_same kinds prims.ReadByte b = record { same = λ s fixed b. record { fixed = fixed; is = refl; beside = b; answer = tt } }
  row_same kinds prims.WriteByte b = λ i hi. writes_same i
  row_same kinds prims.NullAddress b = gives_same Reach Null refl
  row_same kinds prims.IsNullAddress b = λ p hp. finds_same U (λ m. store.is_null m p) _ (λ m fixed b. (null_same reached inside m fixed b p hp, any (store.is_null m p)))
  row_same kinds prims.AllocateMemory b = λ n hn. makes_same (λ m w. store.allocate m w n) _ (λ m fixed w b. bytes_same reached inside m fixed b w n)
  row_same kinds prims.DeallocateMemory b = λ p hp. changes_same (λ m. store.release m p) _ (λ m fixed b. release_same reached inside m fixed b p)
  row_same kinds prims.UnsignedByteRef b = λ p hp. finds_same U (λ m. store.load m p) _ (λ m fixed b. (look_same reached inside m fixed b p store.byte_at hp, any (store.load m p)))
  row_same kinds prims.UnsignedByteSet b = λ p hp n hn. changes_same (λ m. store.set_byte m p n) _ (λ m fixed b. byte_same reached inside m fixed b p n hp)
  row_same kinds prims.WordRef b = λ p hp. finds_same U (λ m. store.load_word m p) _ (λ m fixed b. (look_same reached inside m fixed b p store.word_at hp, any (store.load_word m p)))
  row_same kinds prims.WordSet b = λ p hp i hi. changes_same (λ m. store.set_word m p i) _ (λ m fixed b. put_bytes_same reached inside m fixed b p (store.bytes_of_word i) hp)
  row_same kinds prims.AddressAdd b = λ p hp k hk. finds_same Reach (λ m. store.moved m p k) _ (λ m fixed b. (moved_same reached inside m fixed b p k hp, moved_reached p k hp m))
  row_same kinds prims.AddressDifference b = λ p hp q hq. finds_same U (λ m. store.difference m p q) _ (λ m fixed b. (compare_same reached inside m fixed b p q store.distance hp hq, any (store.difference m p q)))
  row_same kinds prims.AddressEqual b = λ p hp q hq. finds_same U (λ m. store.same m p q) _ (λ m fixed b. (equal_same reached inside m fixed b p q hp hq, any (store.same m p q)))
  row_same kinds prims.AddressLess b = λ p hp q hq. finds_same U (λ m. store.before m p q) _ (λ m fixed b. (compare_same reached inside m fixed b p q _ hp hq, any (store.before m p q)))
  row_same kinds prims.StringAppend b = absurd (grind (arith, b))
  row_same kinds prims.StringEqual b = absurd (grind (arith, b))
  row_same kinds prims.VectorLength b = absurd (grind (arith, b))
  row_same kinds (prims.Maker k) b = collecting_same Reach (map (sort_of_field (fields kinds k)) (maker_order kinds k)) (made run_values (length (fields kinds k)) (maker_order kinds k)) (λ vs h. made_same (length (fields kinds k)) (maker_order kinds k) vs h)
  row_same kinds (prims.Predicate k) b = λ p hp. finds_same U (λ m. and_then (store.is_null m p) (λ c. Ok (not c))) _ (λ m fixed b. (ap (λ z. and_then z (λ c. Ok (not c))) (null_same reached inside m fixed b p hp), any (and_then (store.is_null m p) (λ c. Ok (not c)))))
  row_same kinds (prims.Accessor k f) b = λ p hp. finds_same (λ v. inside v ≡ true) (λ m. store.get m p (pos f)) _ (λ m fixed b. (look_same reached inside m fixed b (plus p (pos f)) store.cell_at (plus_reached reached inside m fixed b p (pos f) hp), cell_inside reached inside m fixed b (plus p (pos f)) (plus_reached reached inside m fixed b p (pos f) hp)))
  row_same kinds (prims.Modifier k f) b = λ p hp x hx. changes_same (λ m. store.put m p (pos f) (answered run_values (sort_of_field (fields kinds k) f) x)) _ (λ m fixed b. put_same reached inside m fixed b p (pos f) (answered run_values (sort_of_field (fields kinds k) f) x) hp (answered_inside (sort_of_field (fields kinds k) f) x hx))

  -- ---- performing

  pub record Performs (d : Done RunValue RunValue) (y : Performed RunValue) : Type 0 where
    pub fixed : List (ℕ × Block RunValue)
    pub is : y ≡ Answers (record d { memory = other d.memory fixed })
    pub beside : Beside reached inside d.memory fixed
    pub answer : inside d.answer ≡ true

  abbrev pub PerformsSame : Performed RunValue → Performed RunValue → Type 0
  PerformsSame (Answers d) y = Performs d y
  PerformsSame (rows.Undefined op) y = y ≡ rows.Undefined op
  PerformsSame rows.Wrong y = y ≡ rows.Wrong

  performed_same : (s : Sort) (x y : Result (Done RunValue (Meant RunValue s)) Op) → DoesSame (Sees s) x y → PerformsSame (performed (answered run_values s) Run (Some x)) (performed (answered run_values s) Run (Some y))
  performed_same s (Ok d) y h = record { fixed = h.fixed; is = ap (λ z. performed (answered run_values s) Run (Some z)) h.is; beside = h.beside; answer = answered_inside s d.answer h.answer }
  performed_same s (Err op) y h = ap (λ z. performed (answered run_values s) Run (Some z)) h

  maybe_same : (s : Sort) (o : Option (Act RunValue (Meant RunValue s))) → MaybeSame (Sees s) o → (sc : Scene RunValue) (fixed : List (ℕ × Block RunValue)) → Beside reached inside sc.memory fixed
      → PerformsSame (performed (answered run_values s) Run (at_scene Run sc o)) (performed (answered run_values s) Run (at_scene Run (beside_scene sc fixed) o))
  maybe_same s None h sc fixed b = refl
  maybe_same s (Some act) h sc fixed b = performed_same s (act Run sc) (act Run (beside_scene sc fixed)) (h.same sc fixed b)

  -- a primitive does the same in both scenes
  pub perform_same : (kinds : List RecordKind) (p : PrimName) (vs : List RunValue) (s : Scene RunValue) (fixed : List (ℕ × Block RunValue)) → belongs (row run_values kinds p).stages Run ≡ true → all_inside vs ≡ true → Beside reached inside s.memory fixed
      → PerformsSame (perform run_values kinds p vs Run s) (perform run_values kinds p vs Run (beside_scene s fixed))
  perform_same kinds p vs s fixed belongs_to h b = maybe_same (row run_values kinds p).answer (applied run_values (row run_values kinds p).operands (row run_values kinds p).does vs) (applied_same (λ x. Sees (row run_values kinds p).answer x) (row run_values kinds p).operands (row run_values kinds p).does vs (row_same kinds p belongs_to) h) s fixed b

-- ---- cells

-- what does not look at the memory
abbrev IsConst : (ss : List Sort) → Taking RunValue ss (Memory RunValue → ℕ) → Type 0
IsConst [] f = (m n : Memory RunValue) → f m ≡ f n
IsConst (s ∷ ss) f = (x : Meant RunValue s) → IsConst ss (f x)

applied_const : (ss : List Sort) (f : Taking RunValue ss (Memory RunValue → ℕ)) → IsConst ss f → (vs : List RunValue) (m n : Memory RunValue) → counted (applied run_values ss f vs) m ≡ counted (applied run_values ss f vs) n
applied_const [] f h [] m n = h m n
applied_const [] f h (v ∷ vs) m n = refl
applied_const (s ∷ ss) f h [] m n = refl
applied_const (s ∷ ss) f h (v ∷ vs) m n = one (read run_values s v) (λ x. applied_const ss (f x) (h x) vs m n)
  where
    one : (o : Option (Meant RunValue s)) → ((x : Meant RunValue s) → counted (applied run_values ss (f x) vs) m ≡ counted (applied run_values ss (f x) vs) n)
        → counted (and_takes run_values o (λ x. applied run_values ss (f x) vs)) m ≡ counted (and_takes run_values o (λ x. applied run_values ss (f x) vs)) n
    one None ih = refl
    one (Some x) ih = ih x

collecting_const : (ss : List Sort) (c : ℕ) → IsConst ss (collecting run_values ss (λ vs m. c))
collecting_const [] c = λ m n. refl
collecting_const (s ∷ ss) c = λ x. collecting_const ss c

asks_const : (kinds : List RecordKind) (p : PrimName) → belongs (row run_values kinds p).stages Run ≡ true → IsConst (row run_values kinds p).operands (asks run_values kinds p)
asks_const kinds prims.MakeVector b = λ n x m k. refl
asks_const kinds prims.AllocateMemory b = λ n m k. refl
asks_const kinds prims.StringAppend b = absurd (grind (arith, b))
asks_const kinds (prims.Maker k) b = collecting_const (row run_values kinds (prims.Maker k)).operands (for_cells (pos (length (fields kinds k))))
asks_const kinds p b = collecting_const (row run_values kinds p).operands 0

pub asked_same : (kinds : List RecordKind) (p : PrimName) (vs : List RunValue) (s : Scene RunValue) (fixed : List (ℕ × Block RunValue)) → belongs (row run_values kinds p).stages Run ≡ true
    → asked_at run_values kinds p vs Run (record s { memory = other s.memory fixed }) ≡ asked_at run_values kinds p vs Run s
asked_same kinds p vs s fixed b =
    ap (λ (c : ℕ). if next_grant s.world.grants then c else 0) (applied_const (row run_values kinds p).operands (asks run_values kinds p) (asks_const kinds p b) vs (other s.memory fixed) s.memory)
