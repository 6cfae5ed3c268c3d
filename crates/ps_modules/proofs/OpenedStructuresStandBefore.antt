-- In what a walk comes to, each structure opens only such as stand before it, and the last is the entry.
-- For: structures_stand_in_order
use Rattle.std.proofs.Common.{◌≡◌, ℕ, zero, suc, ◌+◌, ◌-◌, ◌<◌, List, [], ◌∷◌, ◌++◌, length, slice_get, Bool, true, false, ◌||◌, ⊎_elim, nat_eq, nat_lt, Option, Some, None, Result, Ok, Err, refl, sym, ap, ◌∙◌, subst, arith, length-append, if◌then◌else◌}
use Rattle.std.specs.Prelude.{codes}
use Rattle.std.specs.Option.{option_map}
use Rattle.std.specs.List.{list_any, list_all}
use Rattle.std.specs.Str.{bytes_eq}
use Rattle.std.proofs.lemmas.Slice.Eq.{bytes_eq-Decides}
use Rattle.std.proofs.lemmas.Bool.{lt-ltb, or_cases}
use Rattle.std.proofs.lemmas.List.{map-append}
use Rattle.std.proofs.lemmas.List.Folds.{list_all-append}
use Rattle.ps_base.proofs.Choices.{and_both, and_true, some_same, ok_same}
use Rattle.ps_base.specs.Names.{number_of}
use Rattle.ps_base.specs.declared.faults.ModuleKind.TheVariants as kinds
use Rattle.ps_base.specs.declared.faults.Place.{Place}
use Rattle.ps_base.specs.declared.limits.Limits.{Limits}
use Rattle.ps_datum.specs.declared.datum.Datum.{Datum}
use Rattle.ps_library.specs.LibraryStates.{LibraryState}
use Rattle.ps_read.proofs.AddedNamesAreNumbered.{stands}
use Rattle.ps_read.proofs.TablesOnlyGrow.{grown_same, grown_then, grown_listed}
use Rattle.ps_read.specs.Lexical.{Table, added, added_by, name_in, number_or}
use Rattle.ps_read.specs.Reading.{Reads, Grown}
use Rattle.ps_modules.specs.declared.files.Count.{Count}
use Rattle.ps_modules.specs.declared.openings.Meant.{Meant}
use Rattle.ps_modules.specs.declared.shapes.OpenedName.{OpenedName}
use Rattle.ps_modules.specs.declared.shapes.Part.{Part}
use Rattle.ps_modules.specs.declared.shapes.Part.TheVariants as parts
use Rattle.ps_modules.specs.declared.shapes.Shape.{Shape}
use Rattle.ps_modules.specs.declared.types.Export.{Export}
use Rattle.ps_modules.specs.declared.types.Opened.{Opened}
use Rattle.ps_modules.specs.declared.types.Opened.TheVariants as opened
use Rattle.ps_modules.specs.declared.types.Structure.{Structure}
use Rattle.ps_modules.specs.BuiltIn.{built_in}
use Rattle.ps_modules.specs.Linking.{Links}
use Rattle.ps_modules.specs.Laws.{is_before, open_before, StandInOrder}
use Rattle.ps_modules.specs.Openings.{two_opened}
use Rattle.ps_modules.specs.Playing.{Outcome, Plays, done, stopped, fetched, unreadable, missed, no_memory}
use Rattle.ps_modules.specs.Runs.{Run, Done, Stops, Wants}
use Rattle.ps_modules.specs.Shapes.{Shaped, text_of, text_by}
use Rattle.ps_modules.specs.Texts.{Trouble, Defined, place_in, structure_at, resolved, last_of, is_main, is_body, defined_by, nothing}
use Rattle.ps_modules.specs.Walking.{State, Goes, Enters, parts_then, counted, next_number, is_on, by_path, by_place, by_number, by_built_in, opening, opens_then, at_place, meant, meant_at, meant_by, opened_by, opens_of, unless_clash, leaving, leaves, stops, opens_left, entered, enters, start, starting, from_entry, by_entry, by_text, walk_of, user, with_user, body_run, linked}

-- ---- what is opened stands before

before_more : (k : ℕ) (order : List Structure) (s : Structure) → open_before k order ≡ true → list_all (is_before (k + length order)) s.opens ≡ true → open_before k (order ++ s ∷ []) ≡ true
before_more k [] s h all = and_both _ true (subst (λ n. list_all (is_before n) s.opens ≡ true) (let e : k + 0 ≡ k = omega arith in e) all) refl
before_more k (o ∷ order) s h all = let parts = and_true (list_all (is_before k) o.opens) (open_before (suc k) order) h in
    and_both _ _ parts.0 (before_more (suc k) order s parts.1 (subst (λ n. list_all (is_before n) s.opens ≡ true) (let e : k + suc (length order) ≡ suc k + length order = omega arith in e) all))

at_end : {A : Type 0} (xs : List A) (x : A) → slice_get (xs ++ x ∷ []) (length xs) ≡ Some x
at_end [] x = refl
at_end (y ∷ xs) x = at_end xs x

last_more : (order : List Structure) (s : Structure) → slice_get (order ++ s ∷ []) (length (order ++ s ∷ []) - 1) ≡ Some s
last_more order s = let x = length-append order (s ∷ []) in let e : length (order ++ s ∷ []) - 1 ≡ length order = omega arith in ap (slice_get (order ++ s ∷ [])) e ∙ at_end order s

place_below : (numbers : List ℕ) (j k : ℕ) → place_in numbers j ≡ Some k → k < length numbers
place_below [] j k e = let x : None ≡ Some k = e in absurd (cc)
place_below (i ∷ numbers) j k e = by (nat_eq j i) e (λ m h. place_below numbers j m h)
  where
    later : (o : Option ℕ) → option_map suc o ≡ Some k → ((m : ℕ) → o ≡ Some m → m < length numbers) → k < suc (length numbers)
    later None h below = let x : None ≡ Some k = h in absurd (cc)
    later (Some m) h below = let x : suc m ≡ k = some_same h in let y = below m refl in omega arith

    by : (b : Bool) → (if b then Some 0 else option_map suc (place_in numbers j)) ≡ Some k → ((m : ℕ) → place_in numbers j ≡ Some m → m < length numbers) → k < suc (length numbers)
    by true h below = let x : 0 ≡ k = some_same h in omega arith
    by false h below = later (place_in numbers j) h below

all_before : ℕ → List Opened → Type 0
all_before n os = list_all (is_before n) os ≡ true

built_before : (n : ℕ) (name : List ℕ) (o : Opened) → built_in name ≡ Some o → is_before n o ≡ true
built_before n name opened.Prescheme e = refl
built_before n name opened.Memory e = refl
built_before n name opened.Records e = refl
built_before n name (opened.At j) e = by (bytes_eq name (codes "prescheme")) (bytes_eq name (codes "ps-memory")) (bytes_eq name (codes "ps-record-types")) e
  where
    by : (a b c : Bool) → (if a then Some opened.Prescheme else (if b then Some opened.Memory else (if c then Some opened.Records else None))) ≡ Some (opened.At j) → is_before n (opened.At j) ≡ true
    by true b c h = absurd (cc)
    by false true c h = absurd (cc)
    by false false true h = absurd (cc)
    by false false false h = absurd (cc)

module _ (shapes : List Shape) (table : Table) (walked : List ℕ) where
  meant_before : (place : Place) (name : List ℕ) (b : Option Opened) (p : Option ℕ) → built_in name ≡ b → list_all (is_before (length walked)) (opens_of (meant_at place (meant walked b p))) ≡ true
  meant_before place name (Some o) p e = and_both (is_before (length walked) o) true (built_before (length walked) name o e) refl
  meant_before place name None None e = refl
  meant_before place name None (Some j) e = by (place_in walked j) refl
    where
      by : (q : Option ℕ) → place_in walked j ≡ q → list_all (is_before (length walked)) (opens_of (meant_at place (at_place q))) ≡ true
      by None h = refl
      by (Some k) h = and_both (nat_lt k (length walked)) true (lt-ltb k (length walked) (place_below walked j k h)) refl

  opened_before : (opens : List OpenedName) → list_all (is_before (length walked)) (opens_of (opened_by table shapes walked opens)) ≡ true
  opened_before [] = refl
  opened_before (o ∷ opens) =
      ap (list_all (is_before (length walked))) (map-append (λ m. m.opened) (meant_by table shapes walked o) (opened_by table shapes walked opens))
      ∙ list_all-append (is_before (length walked)) (opens_of (meant_by table shapes walked o)) (opens_of (opened_by table shapes walked opens))
      ∙ and_both _ _ (meant_before o.place (text_of table o.name) (built_in (text_of table o.name)) (structure_at shapes o.name) refl) (opened_before opens)

-- ---- what a walk can come to

-- whatever the files are, where the walk comes to structures, these and the table have P
pub data Comes (P : List Structure → Table → Type 0) : Run → Type 0 where
  ends : {order : List Structure} {table : Table} → P order table → Comes P (Done order table)
  never : {trouble : Trouble} → Comes P (Stops trouble)
  asks : {name : List ℕ} {room : ℕ} {place : Place} {count : Count} {table : Table} {goes_on : List ℕ → List Datum → Table → Run}
      → ((text : List ℕ) (ds : List Datum) (behind : Table) → Reads table (next_number count) text ds behind → Comes P (goes_on text ds behind)) → Comes P (Wants name room place count table goes_on)

came : (P : List Structure → Table → Type 0) (run : Run) (olds news : List LibraryState) (out : Outcome) (order : List Structure) (table : Table) → out ≡ Ok (order, table) → Plays run olds news out → Comes P run → P order table
came P run olds news out order table e done (ends p) = let x = ok_same e in subst (λ q. P q.0 q.1) x p
came P run olds news out order table e stopped c = absurd (cc)
came P run olds news out order table e (fetched {behind = behind} {goes_on = goes_on} {mids = mids} {text = text} {ds = ds} got reads rest) (asks more) = came P (goes_on text ds behind) mids news out order table e rest (more text ds behind reads)
came P run olds news out order table e (unreadable got first) c = absurd (cc)
came P run olds news out order table e (missed got) c = absurd (cc)
came P run olds news out order table e (no_memory stay) c = absurd (cc)

module _ (names : Table) (text : Defined) (limits : Limits) (P : List Structure → Table → Type 0) where
  -- a state on the way
  pub record Fit (state : State) : Type 0 where
    pub same : length state.walked ≡ length state.order
    pub before : open_before 0 state.order ≡ true
    pub grown : Grown names state.table

  -- the structure i was left last
  pub record Left (i : ℕ) (state : State) : Type 0 where
    pub shape : Shape
    pub at : slice_get text.shapes i ≡ Some shape
    pub exports : List Export
    pub lists : resolved text.definitions (length text.definitions) [] shape.interface ≡ Ok exports
    pub structure : Structure
    pub last : slice_get state.order (length state.order - 1) ≡ Some structure
    pub gives : structure.exports ≡ exports

  parts_come : (ps : List Part) (body : List Datum) (count : Count) (table : Table) (goes_on : List Datum → Count → Table → Run) → Grown names table
      → ((body : List Datum) (count : Count) (table : Table) → Grown names table → Comes P (goes_on body count table)) → Comes P (parts_then limits ps body count table goes_on)
  parts_come [] body count table goes_on g k = k body count table g
  parts_come (parts.Forms ds ∷ ps) body count table goes_on g k = parts_come ps (body ++ ds) count table goes_on g k
  parts_come (parts.File f ∷ ps) body count table goes_on g k = asks (λ text ds behind reads.
      parts_come ps (body ++ ds) (counted count (length text)) behind goes_on (grown_then names table behind g (subst (Grown table) (sym reads.names_are) (grown_listed table 0 text))) k)

  module _ (i : ℕ) (shape : Shape) (at : slice_get text.shapes i ≡ Some shape) (exports : List Export) (lists : resolved text.definitions (length text.definitions) [] shape.interface ≡ Ok exports) where
    leaves_come : (state : State) (goes_on : Goes) → Fit state → ((after : State) → Fit after → Left i after → Comes P (goes_on after)) → Comes P (leaves text.shapes limits i shape exports state goes_on)
    leaves_come state goes_on fit k = by (two_opened state.table state.order [] meants)
      where
        meants : List Meant
        meants = opened_by state.table text.shapes state.walked shape.clauses.opens

        behind : List Datum → Count → Table → Run
        behind body count table = goes_on (leaving i (record { name = shape.name.name; opens = opens_of meants; exports = exports; body = body }) state count table)

        fits : (body : List Datum) (count : Count) (table : Table) → Grown names table → Fit (leaving i (record { name = shape.name.name; opens = opens_of meants; exports = exports; body = body }) state count table)
        fits body count table g = record {
          same = let x = fit.same in let y = length-append state.walked (i ∷ []) in let z = length-append state.order (record { name = shape.name.name; opens = opens_of meants; exports = exports; body = body } ∷ []) in omega (arith, y, z);
          before = before_more 0 state.order (record { name = shape.name.name; opens = opens_of meants; exports = exports; body = body }) fit.before
              (subst (λ n. list_all (is_before n) (opens_of meants) ≡ true) (let x = fit.same in let e : length state.walked ≡ 0 + length state.order = omega arith in e) (opened_before text.shapes state.table state.walked shape.clauses.opens));
          grown = g;
        }

        by : (clash : Option Place) → Comes P (unless_clash clash (parts_then limits shape.clauses.parts [] state.count state.table behind))
        by (Some place) = never
        by None = parts_come shape.clauses.parts [] state.count state.table behind fit.grown (λ body count table g. k _ (fits body count table g)
            (record { shape = shape; at = at; exports = exports; lists = lists; structure = _; last = last_more state.order _; gives = refl }))

  -- entering a structure comes to what it goes on with
  abbrev pub EntersSo : Enters → Type 0
  EntersSo en = (place : Place) (j : ℕ) (state : State) (goes_on : Goes) → Fit state → ((after : State) → Fit after → Left j after → Comes P (goes_on after)) → Comes P (en place j state goes_on)

  module _ (en : Enters) (so : EntersSo en) (path : List ℕ) where
    opening_comes : (o : OpenedName) (state : State) (goes_on : Goes) → Fit state → ((after : State) → Fit after → Comes P (goes_on after)) → Comes P (opening text.shapes en path o state goes_on)
    opening_comes o state goes_on fit k = by_known (built_in (text_of state.table o.name)) (structure_at text.shapes o.name)
      where
        by_way : (j : ℕ) (b : Bool) → Comes P (by_path en o.place j b state goes_on)
        by_way j true = never
        by_way j false = so o.place j state goes_on fit (λ after f l. k after f)

        by_walked : (j : ℕ) (p : Option ℕ) → Comes P (by_place en path o.place j p state goes_on)
        by_walked j None = by_way j (is_on j path)
        by_walked j (Some q) = k state fit

        by_name : (p : Option ℕ) → Comes P (by_number en path o.place p state goes_on)
        by_name None = never
        by_name (Some j) = by_walked j (place_in state.walked j)

        by_known : (b : Option Opened) (p : Option ℕ) → Comes P (by_built_in en path o.place b p state goes_on)
        by_known (Some b) p = k state fit
        by_known None p = by_name p

    opens_come : (opens : List OpenedName) (state : State) (goes_on : Goes) → Fit state → ((after : State) → Fit after → Comes P (goes_on after)) → Comes P (opens_then text.shapes en path opens state goes_on)
    opens_come [] state goes_on fit k = k state fit
    opens_come (o ∷ opens) state goes_on fit k = opening_comes o state (λ after. opens_then text.shapes en path opens after goes_on) fit (λ after f. opens_come opens after goes_on f k)

    entered_comes : (place : Place) (i : ℕ) (s : Option Shape) → slice_get text.shapes i ≡ s → (state : State) (goes_on : Goes) → Fit state → ((after : State) → Fit after → Left i after → Comes P (goes_on after))
        → Comes P (entered text limits en path place i s state goes_on)
    entered_comes place i None at state goes_on fit k = never
    entered_comes place i (Some shape) at state goes_on fit k = by (resolved text.definitions (length text.definitions) [] shape.interface) refl
      where
        by : (r : Shaped (List Export)) → resolved text.definitions (length text.definitions) [] shape.interface ≡ r
            → Comes P (stops r (λ exports. opens_left text limits en path i shape exports shape.clauses.opens state goes_on))
        by (Err p) e = never
        by (Ok exports) e = opens_come shape.clauses.opens state (λ after. leaves text.shapes limits i shape exports after goes_on) fit (λ after f. leaves_come i shape at exports e after goes_on f k)

  pub enters_come : (n : ℕ) (path : List ℕ) → EntersSo (enters text limits n path)
  unfolding enters
  enters_come zero path place i state goes_on fit k = never
  enters_come (suc n) path place i state goes_on fit k = entered_comes (enters text limits n (i ∷ path)) (enters_come n (i ∷ path)) (i ∷ path) place i (slice_get text.shapes i) refl state goes_on fit k

-- ---- the whole

text_grown : (names more : Table) (n : ℕ) (word : List ℕ) → slice_get names n ≡ Some word → slice_get (names ++ more) n ≡ Some word
text_grown [] more n word e = let x : None ≡ Some word = e in absurd (cc)
text_grown (t ∷ names) more zero word e = e
text_grown (t ∷ names) more (suc n) word e = text_grown names more n word e

-- the value `main` is one still where the table has grown
word_grown : (o q : Option (List ℕ)) → ((w : List ℕ) → o ≡ Some w → q ≡ Some w) → bytes_eq (text_by o) (codes "main") ≡ true → bytes_eq (text_by q) (codes "main") ≡ true
word_grown None q k h = let x = ap length ((bytes_eq-Decides [] (codes "main")).0 h) in absurd (omega arith)
word_grown (Some w) q k h = ap (λ o. bytes_eq (text_by o) (codes "main")) (k w refl) ∙ h

or_right : (b c : Bool) → c ≡ true → (b || c) ≡ true
or_right true c h = refl
or_right false c h = h

or_left : (b c : Bool) → b ≡ true → (b || c) ≡ true
or_left b c h = ap (λ t. t || c) h

module _ (names later : Table) (grown : Grown names later) where
  is_main_grown : (e : Export) → is_main names e ≡ true → is_main later e ≡ true
  is_main_grown e h = let both = and_true _ _ h in and_both _ _ both.0 (word_grown (slice_get names e.name.0) (slice_get later e.name.0)
      (λ w at. ap (λ (t : Table). slice_get t e.name.0) grown.is ∙ text_grown names grown.more e.name.0 w at) both.1)

  main_grown : (es : List Export) → list_any (is_main names) es ≡ true → list_any (is_main later) es ≡ true
  main_grown [] h = h
  main_grown (e ∷ es) h = ⊎_elim (λ here. or_left _ _ (is_main_grown e here)) (λ there. or_right _ _ (main_grown es there)) (or_cases _ _ h)

abbrev InOrder : List Structure → Table → Type 0
InOrder order table = StandInOrder table order

-- the structure `user`
text_added : (t : Table) (x : List ℕ) → text_of (added t x) (name_in t x) ≡ x
text_added t x = by (number_of t x) refl
  where
    by : (o : Option ℕ) → number_of t x ≡ o → text_by (slice_get (added_by t x o) (number_or (length t) o)) ≡ x
    by None e = ap text_by (at_end t x)
    by (Some n) e = ap text_by (stands t x n e)

body_comes : (names : Table) (ds : List Datum) → Comes InOrder (body_run names ds)
body_comes names ds = ends (record {
  before = refl;
  entry = _;
  last = last_more [] (user (name_in names (codes "user")) (name_in (with_user names) (codes "main")) ds);
  main = or_left _ false ((bytes_eq-Decides _ (codes "main")).1 (text_added (with_user names) (codes "main")));
})

module _ (names : Table) (limits : Limits) (taken : ℕ) where
  module _ (text : Defined) where
    entry_comes : (s : Option Shape) → last_of text.shapes ≡ s → Comes InOrder (by_entry names text limits taken s)
    entry_comes None is = never
    entry_comes (Some shape) is = by (resolved text.definitions (length text.definitions) [] shape.interface) refl
      where
        in_order : (exports : List Export) → resolved text.definitions (length text.definitions) [] shape.interface ≡ Ok exports → list_any (is_main names) exports ≡ true
            → (after : State) → Fit names text limits InOrder after → Left names text limits InOrder (length text.shapes - 1) after → StandInOrder after.table after.order
        in_order exports e main after fit left =
            let entry : left.shape ≡ shape = some_same (sym left.at ∙ is) in
            let same : left.exports ≡ exports = ok_same (sym left.lists ∙ ap (λ (s : Shape). resolved text.definitions (length text.definitions) [] s.interface) entry ∙ e) in
            record {
              before = fit.before;
              entry = left.structure;
              last = left.last;
              main = subst (λ es. list_any (is_main after.table) es ≡ true) (sym (left.gives ∙ same)) (main_grown names after.table fit.grown exports main);
            }

        by_main : (exports : List Export) → resolved text.definitions (length text.definitions) [] shape.interface ≡ Ok exports → (b : Bool) → list_any (is_main names) exports ≡ b
            → Comes InOrder (if b then enters text limits (length text.shapes) [] start (length text.shapes - 1) (starting names taken) (λ state. Done state.order state.table) else Stops (record { kind = kinds.NoMain; place = shape.form }))
        by_main exports e true main = enters_come names text limits InOrder (length text.shapes) [] start (length text.shapes - 1) (starting names taken) (λ state. Done state.order state.table)
            (record { same = refl; before = refl; grown = grown_same names }) (λ after fit left. ends (in_order exports e main after fit left))
        by_main exports e false main = never

        by : (r : Shaped (List Export)) → resolved text.definitions (length text.definitions) [] shape.interface ≡ r → Comes InOrder (stops r (from_entry names text limits taken shape))
        by (Err p) e = never
        by (Ok exports) e = by_main exports e (list_any (is_main names) exports) refl

  text_comes : (r : Result Defined Trouble) → Comes InOrder (by_text names limits taken r)
  text_comes (Err trouble) = never
  text_comes (Ok text) = entry_comes text (last_of text.shapes) refl

  linked_comes : (ds : List Datum) (b : Bool) → Comes InOrder (if b then body_run names ds else walk_of names limits ds taken)
  linked_comes ds true = body_comes names ds
  linked_comes ds false = text_comes (defined_by names nothing ds)

pub in_order : (names : Table) (limits : Limits) (ds : List Datum) (taken : ℕ) (olds news : List LibraryState) (order : List Structure) (table : Table) → Links (linked names limits ds taken) olds news (Ok (order, table)) → StandInOrder table order
in_order names limits ds taken olds news order table h = came InOrder (linked names limits ds taken) olds news _ order table refl h.plays (linked_comes names limits taken ds (is_body names ds))
