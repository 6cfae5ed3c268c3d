-- Data that are read one after another, by what was read so far, and the parts of a list that a pattern names.
-- For: form_of, has_form
use Rattle.std.proofs.Common.{◌≡◌, ℕ, suc, zero, ◌+◌, ◌-◌, ◌<◌, ◌≤◌, List, [], ◌∷◌, ◌++◌, length, map, take, drop, get_or, Bool, true, false, Result, Ok, Err, refl, sym, ap, subst, ◌∙◌, append_assoc, append-nil, add-one, drop-cons, arith, length-drop, ◌||◌, slice_get, Some}
use Rattle.std.specs.List.{list_any}
use Rattle.std.proofs.lemmas.List.{take_all, drop_all, map-id}
use Rattle.ps_base.specs.declared.faults.Place.{Place}
use Rattle.ps_datum.specs.declared.datum.Datum.{Datum}
use Rattle.ps_modules.specs.declared.shapes.Broken.{Broken}
use Rattle.ps_modules.specs.declared.shapes.Broken.TheVariants as broken
use Rattle.ps_modules.specs.declared.shapes.Clauses.{Clauses}
use Rattle.ps_modules.specs.declared.shapes.OpenedName.{OpenedName}
use Rattle.ps_modules.specs.declared.shapes.Part.{Part}
use Rattle.ps_modules.specs.Shapes.{Shaped, shaped_then, each, gathered, none, behind}
use Rattle.ps_modules.specs.InsideShapes.{Says, Adds, put, PutSo, JoinedSo}

-- ---- parts of a list

-- the items from i on are that of i and those behind it
pub item_at : {A : Type 0} (xs : List A) (i : ℕ) (x : A) → i < length xs → x ≡ get_or xs i x → drop i xs ≡ x ∷ drop (i + 1) xs
item_at xs i x lt is = drop-cons xs i x lt ∙ ap (λ y. y ∷ drop (suc i) xs) (sym is) ∙ ap (λ (n : ℕ). x ∷ drop n xs) (sym (add-one i))

item_same : {A : Type 0} (xs : List A) (i : ℕ) (d e : A) → i < length xs → get_or xs i d ≡ get_or xs i e
item_same [] i d e lt = absurd (omega arith)
item_same (x ∷ xs) zero d e lt = refl
item_same (x ∷ xs) (suc i) d e lt = item_same xs i d e (omega arith)

-- an item is itself, whatever stands in for one that is not there
pub item_is : {A : Type 0} (xs : List A) (i : ℕ) (d : A) → i < length xs → get_or xs i d ≡ get_or xs i (get_or xs i d)
item_is xs i d lt = item_same xs i d (get_or xs i d) lt

pub get_some : {A : Type 0} (xs : List A) (i : ℕ) (d : A) → i < length xs → slice_get xs i ≡ Some (get_or xs i d)
get_some [] i d lt = absurd (omega arith)
get_some (x ∷ xs) zero d lt = refl
get_some (x ∷ xs) (suc i) d lt = get_some xs i d (omega arith)

-- the first of a list, and the slice behind it
pub one_up : {A : Type 0} (xs : List A) (x : A) → 1 ≤ length xs → x ≡ get_or xs 0 x → xs ≡ x ∷ take (length xs - 1) (drop 1 xs)
one_up xs x some is = item_at xs 0 x (omega arith) is ∙ ap (λ ys. x ∷ ys) (sym (take_all (length xs - 1) (drop 1 xs) (omega (arith, length-drop 1 xs))))

-- the first two of a list, and the slice behind them
pub two_up : {A : Type 0} (xs : List A) (x y : A) → 2 ≤ length xs → x ≡ get_or xs 0 x → y ≡ get_or xs 1 y → xs ≡ x ∷ y ∷ take (length xs - 2) (drop 2 xs)
two_up xs x y some is also =
    item_at xs 0 x (omega arith) is ∙ ap (λ ys. x ∷ ys) (item_at xs 1 y (omega arith) also)
    ∙ ap (λ ys. x ∷ y ∷ ys) (sym (take_all (length xs - 2) (drop 2 xs) (omega (arith, length-drop 2 xs))))

-- ---- whether one of a list passes

pub any_next : {A : Type 0} (p : A → Bool) (xs : List A) (i : ℕ) (x : A) → i < length xs → x ≡ get_or xs i x → p x ≡ false → list_any p (drop i xs) ≡ list_any p (drop (i + 1) xs)
any_next p xs i x lt is fails = ap (list_any p) (item_at xs i x lt is) ∙ ap (λ b. b || list_any p (drop (i + 1) xs)) fails

pub any_here : {A : Type 0} (p : A → Bool) (xs : List A) (i : ℕ) (x : A) → i < length xs → x ≡ get_or xs i x → p x ≡ true → list_any p (drop i xs) ≡ true
any_here p xs i x lt is holds = ap (list_any p) (item_at xs i x lt is) ∙ ap (λ b. b || list_any p (drop (i + 1) xs)) holds

pub any_end : {A : Type 0} (p : A → Bool) (xs : List A) (i : ℕ) → length xs ≤ i → list_any p (drop i xs) ≡ false
any_end p xs i past = ap (list_any p) (drop_all i xs past)

-- ---- answers

abbrev pub unit : Unit {0}
unit = tt

abbrev pub okay : {A : Type 0} → A → Shaped A
okay a = Ok a

okay_is : {A : Type 0} (x y : A) → okay x ≡ okay y → x ≡ y
okay_is x y e = cc

abbrev pub stopped : (A : Type 0) → Place → Shaped A
stopped A p = Err p

pub same_place : (A : Type 0) (p q : Place) → stopped A p ≡ stopped A q → p ≡ q
same_place A p q e = cc

-- what is put onto an answer breaks only where the answer does
pub then_err : {A B : Type 0} (g : A → B) (r : Shaped A) (p : Place) → shaped_then r (λ a. okay (g a)) ≡ Err p → r ≡ Err p
then_err g (Ok a) p e = let h : okay (g a) ≡ Err p = e in absurd (cc)
then_err {A = A} {B = B} g (Err q) p e = let same : q ≡ p = same_place B q p e in ap (stopped A) same

-- what breaks a part breaks the whole in which it stands, of whatever it is a part
pub says_err : {A B : Type 0} (r : Shaped A) (w : Shaped B) (e : Broken) → ((p : Place) → r ≡ Err p → w ≡ Err p) → Says r (Err e) → Says w (Err e)
says_err r w (broken.At place) breaks h = breaks place h
says_err r w broken.NoMemory breaks h = tt

pub says_adds : {A B C : Type 0} (r : Shaped A) (w : Shaped B) (onto : B → C) (after : C) (e : Broken) → ((p : Place) → r ≡ Err p → w ≡ Err p) → Says r (Err e) → Adds onto w after (Err e)
says_adds r w onto after (broken.At place) breaks h = breaks place h
says_adds r w onto after broken.NoMemory breaks h = tt

pub adds_says : {A B C : Type 0} (r : Shaped A) (w : Shaped B) (onto : A → C) (after : C) (e : Broken) → ((p : Place) → r ≡ Err p → w ≡ Err p) → Adds onto r after (Err e) → Says w (Err e)
adds_says r w onto after (broken.At place) breaks h = breaks place h
adds_says r w onto after broken.NoMemory breaks h = tt

pub adds_adds : {A B C D : Type 0} (r : Shaped A) (w : Shaped B) (onto : A → C) (after : C) (over : B → D) (last : D) (e : Broken)
    → ((p : Place) → r ≡ Err p → w ≡ Err p) → Adds onto r after (Err e) → Adds over w last (Err e)
adds_adds r w onto after over last (broken.At place) breaks h = breaks place h
adds_adds r w onto after over last broken.NoMemory breaks h = tt

-- an answer goes on, or stops
pub then_ok : {A B : Type 0} (r : Shaped A) (a : A) (goes_on : A → Shaped B) → r ≡ Ok a → shaped_then r goes_on ≡ goes_on a
then_ok r a goes_on e = ap (λ q. shaped_then q goes_on) e

pub then_stops : {A B : Type 0} (r : Shaped A) (goes_on : A → Shaped B) (p : Place) → r ≡ Err p → shaped_then r goes_on ≡ Err p
then_stops r goes_on p e = ap (λ q. shaped_then q goes_on) e

pub says_same : {A : Type 0} (v w : Shaped A) (r : Result A Broken) → w ≡ v → Says v r → Says w r
says_same v w r e h = subst (λ x. Says x r) (sym e) h

pub adds_same : {A B : Type 0} (v w : Shaped A) (onto : A → B) (after : B) (r : Result (Unit {0}) Broken) → w ≡ v → Adds onto v after r → Adds onto w after r
adds_same v w onto after r e h = subst (λ x. Adds onto x after r) (sym e) h

-- ---- data of which each is put behind what is there

put_more : {A B : Type 0} (f : A → B) (before after : List B) (a : A) (r : Shaped (List A)) → after ≡ before ++ f a ∷ []
    → shaped_then (shaped_then r (λ rest. okay (a ∷ rest))) (λ more. okay (before ++ map f more)) ≡ shaped_then r (λ more. okay (after ++ map f more))
put_more f before after a (Ok xs) e = ap okay (sym (append_assoc before (f a ∷ []) (map f xs)) ∙ ap (λ z. z ++ map f xs) (sym e))
put_more f before after a (Err p) e = refl

put_next : {A B : Type 0} (f : A → B) (read : Datum → Shaped A) (ds : List Datum) (before : List B) (i : ℕ) (d : Datum) (r : Shaped A)
    → i < length ds → d ≡ get_or ds i d → read d ≡ r
    → put before f read (drop i ds) ≡ shaped_then (shaped_then r (λ a. shaped_then (each read (drop (i + 1) ds)) (λ rest. okay (a ∷ rest)))) (λ more. okay (before ++ map f more))
put_next f read ds before i d r lt is reads = ap (put before f read) (item_at ds i d lt is)
    ∙ ap (λ q. shaped_then (shaped_then q (λ a. shaped_then (each read (drop (i + 1) ds)) (λ rest. okay (a ∷ rest)))) (λ more. okay (before ++ map f more))) reads

pub put_starts : {A B : Type 0} (f : A → B) (read : Datum → Shaped A) (ds : List Datum) (first : List B) → PutSo f read ds first first 0
put_starts f read ds first = record { is = refl }

module _ {A B : Type 0} (f : A → B) (read : Datum → Shaped A) (ds : List Datum) (first before : List B) where
  module _ (i : ℕ) (so : PutSo f read ds first before i) where
    pub put_goes_on : (d : Datum) → i < length ds → d ≡ get_or ds i d → (a : A) → read d ≡ Ok a → (after : List B) → after ≡ before ++ f a ∷ [] → PutSo f read ds first after (i + 1)
    put_goes_on d lt is a reads after e = record {
      is = so.is ∙ put_next f read ds before i d (Ok a) lt is reads ∙ put_more f before after a (each read (drop (i + 1) ds)) e;
    }

    pub put_breaks : (d : Datum) → i < length ds → d ≡ get_or ds i d → (p : Place) → read d ≡ Err p → each read ds ≡ Err p
    put_breaks d lt is p breaks = then_err (λ more. first ++ map f more) (each read ds) p (so.is ∙ put_next f read ds before i d (Err p) lt is breaks)

    pub put_ends : length ds ≤ i → put first f read ds ≡ Ok before
    put_ends past = so.is ∙ ap (put before f read) (drop_all i ds past) ∙ ap okay (append-nil before)

-- where what is put is as it is read
as_read_by : {A : Type 0} (before : List A) (r : Shaped (List A)) → shaped_then r (λ more. okay (before ++ more)) ≡ shaped_then r (λ more. okay (before ++ map (λ (a : A). a) more))
as_read_by before (Ok xs) = ap (λ z. okay (before ++ z)) (sym (map-id xs))
as_read_by before (Err p) = refl

pub as_read : {A : Type 0} (before : List A) (read : Datum → Shaped A) (ds : List Datum) → shaped_then (each read ds) (λ more. okay (before ++ more)) ≡ put before (λ a. a) read ds
as_read before read ds = as_read_by before (each read ds)

-- ---- data whose answers are joined

pub joined_from : {A : Type 0} (empty : A) (join : A → A → A) (read : Datum → Shaped A) (ds : List Datum) (first now : A) → now ≡ first → JoinedSo empty join read ds first now 0
joined_from empty join read ds first now e = record { is = ap (λ z. shaped_then (gathered empty join read ds) (λ more. okay (join z more))) (sym e) }

module _ {A : Type 0} (join : A → A → A) (assoc : (a b c : A) → join (join a b) c ≡ join a (join b c)) where
  joined_more : (before after : A) (r s : Shaped A) → shaped_then r (λ more. okay (join before more)) ≡ okay after
      → shaped_then (shaped_then r (λ a. shaped_then s (λ rest. okay (join a rest)))) (λ more. okay (join before more)) ≡ shaped_then s (λ more. okay (join after more))
  joined_more before after (Ok a) (Ok b) e = let same : join before a ≡ after = okay_is (join before a) after e in ap okay (sym (assoc before a b) ∙ ap (λ z. join z b) same)
  joined_more before after (Ok a) (Err p) e = refl
  joined_more before after (Err p) s e = let h : Err p ≡ okay after = e in absurd (cc)

  module _ (empty : A) (read : Datum → Shaped A) (ds : List Datum) (first before : A) where
    module _ (i : ℕ) (so : JoinedSo empty join read ds first before i) where
      pub joined_goes_on : (d : Datum) → i < length ds → d ≡ get_or ds i d → (after : A) → shaped_then (read d) (λ more. okay (join before more)) ≡ okay after → JoinedSo empty join read ds first after (i + 1)
      joined_goes_on d lt is after e = record {
        is = so.is ∙ ap (λ xs. shaped_then (gathered empty join read xs) (λ more. okay (join before more))) (item_at ds i d lt is)
            ∙ joined_more before after (read d) (gathered empty join read (drop (i + 1) ds)) e;
      }

      pub joined_breaks : (d : Datum) → i < length ds → d ≡ get_or ds i d → (p : Place) → read d ≡ Err p → gathered empty join read ds ≡ Err p
      joined_breaks d lt is p breaks = then_err (join first) (gathered empty join read ds) p
          (so.is ∙ ap (λ xs. shaped_then (gathered empty join read xs) (λ more. okay (join before more))) (item_at ds i d lt is)
          ∙ ap (λ q. shaped_then (shaped_then q (λ a. shaped_then (gathered empty join read (drop (i + 1) ds)) (λ rest. okay (join a rest)))) (λ more. okay (join before more))) breaks)

      joined_past : length ds ≤ i → shaped_then (gathered empty join read ds) (λ more. okay (join first more)) ≡ okay (join before empty)
      joined_past past = so.is ∙ ap (λ xs. shaped_then (gathered empty join read xs) (λ more. okay (join before more))) (drop_all i ds past)

  -- from nothing, all that was joined is what they give
  drops_first : (empty : A) (r : Shaped A) (a : A) → ((b : A) → join empty b ≡ b) → shaped_then r (λ more. okay (join empty more)) ≡ okay a → r ≡ okay a
  drops_first empty (Ok b) a left e = let h : join empty b ≡ a = okay_is (join empty b) a e in ap okay (sym (left b) ∙ h)
  drops_first empty (Err p) a left e = let h : Err p ≡ okay a = e in absurd (cc)

  pub joined_ends : (empty : A) (read : Datum → Shaped A) (ds : List Datum) (before : A) (i : ℕ) → JoinedSo empty join read ds empty before i
      → ((b : A) → join empty b ≡ b) → ((b : A) → join b empty ≡ b) → length ds ≤ i → gathered empty join read ds ≡ okay before
  joined_ends empty read ds before i so left right past = drops_first empty (gathered empty join read ds) before left (joined_past empty read ds empty before i so past ∙ ap okay (right before))

-- ---- clauses, one after another

abbrev clauses_with : List OpenedName → List Part → Clauses
clauses_with opens parts = record { opens = opens; parts = parts }

pub same_clauses : (o q : List OpenedName) (p r : List Part) → o ≡ q → p ≡ r → clauses_with o p ≡ clauses_with q r
same_clauses o q p r e h = ap (λ os. clauses_with os p) e ∙ ap (λ ps. clauses_with q ps) h

pub behind_assoc : (a b c : Clauses) → behind (behind a b) c ≡ behind a (behind b c)
behind_assoc a b c = same_clauses _ _ _ _ (append_assoc a.opens b.opens c.opens) (append_assoc a.parts b.parts c.parts)

pub behind_none : (c : Clauses) → behind c none ≡ c
behind_none c = same_clauses _ _ _ _ (append-nil c.opens) (append-nil c.parts)

pub none_behind : (c : Clauses) → behind none c ≡ c
none_behind c = refl
