-- Data have no fault exactly where they are a program.
-- For: `faults_tell_programs`
use Rattle.std.proofs.Common.{◌≡◌, ℕ, List, [], ◌∷◌, ◌++◌, Option, Some, None, refl, sym, ap, ◌∙◌, subst}
use Rattle.std.specs.Prelude.{Bool, true, false, ◌&&◌, ◌||◌, if◌then◌else◌, codes, is_some}
use Rattle.std.specs.List.{AllByRecursion, list_any}
use Rattle.std.specs.Str.{bytes_eq}
use Rattle.std.proofs.lemmas.Bool.{and_parts, and_from, or_right}
use Rattle.std.proofs.lemmas.Slice.Eq.{bytes_eq-Decides}
use Rattle.ps_base.specs.Names.{AreDistinct}
use Rattle.ps_base.specs.declared.faults.Place.{Place}
use Rattle.ps_datum.specs.declared.datum.Datum.{Datum}
use Rattle.ps_plain.specs.declared.program.Program.{Program}
use Rattle.ps_plain.specs.Forms.{Head, and_also, part, heads_of, names_in, scope_in, procedures_in, main_head, IsHead, IsProgram}
use Rattle.ps_plain.specs.Meaning.{start_place}
use Rattle.ps_plain.specs.Faults.{or_else, flaws, shapes_fault, names_from, names_fault, no_parameters, is_main, main_fault, text_fault, fault_of}
use Rattle.ps_plain.specs.Laws.{FaultsTellPrograms}
use Rattle.ps_plain.proofs.Lists.{joined}
use Rattle.ps_plain.proofs.Clear.{is_clear, clear_none, clear_both, both_hold, held, and_by, across, inward}
use Rattle.ps_plain.proofs.Distinct.{moved_back, moved_front, new_before, is_fine_head, are_fine_heads, fine_heads, heads_fine}
use Rattle.ps_plain.proofs.Positions.{fits}
use Rattle.ps_plain.proofs.Steady.{SameHeads, moved_heads, definition_names_steady}

-- ---- lists in two parts

all_front : (P : Head → Type 0) (xs ys : List Head) (y : Head) → AllByRecursion P (xs ++ y ∷ ys) → AllByRecursion P (y ∷ (xs ++ ys))
all_front P [] ys y all = all
all_front P (x ∷ xs) ys y all = let rest = all_front P xs ys y all.1 in (rest.0, (all.0, rest.1))

all_back : (P : Head → Type 0) (xs ys : List Head) (y : Head) → AllByRecursion P (y ∷ (xs ++ ys)) → AllByRecursion P (xs ++ y ∷ ys)
all_back P [] ys y all = all
all_back P (x ∷ xs) ys y all = (all.1.0, all_back P xs ys y (all.0, all.1.1))

names_joined : (xs ys : List Head) → names_in (xs ++ ys) ≡ names_in xs ++ names_in ys
names_joined [] ys = refl
names_joined (x ∷ xs) ys = ap (λ (ns : List (List ℕ)). x.name ∷ ns) (names_joined xs ys)

distinct_front : (xs ys : List Head) (y : Head) → AreDistinct (names_in (xs ++ y ∷ ys)) → AreDistinct (names_in (y ∷ (xs ++ ys)))
distinct_front xs ys y are =
    subst (λ (ns : List (List ℕ)). AreDistinct (y.name ∷ ns)) (sym (names_joined xs ys)) (moved_front (names_in xs) (names_in ys) y.name (subst AreDistinct (names_joined xs (y ∷ ys)) are))

distinct_back : (xs ys : List Head) (y : Head) → AreDistinct (names_in (y ∷ (xs ++ ys))) → AreDistinct (names_in (xs ++ y ∷ ys))
distinct_back xs ys y are =
    subst AreDistinct (sym (names_joined xs (y ∷ ys))) (moved_back (names_in xs) (names_in ys) y.name (subst (λ (ns : List (List ℕ)). AreDistinct (y.name ∷ ns)) (names_joined xs ys) are))

-- a head of another name than those before it may come first: all names keep their numbers of parameters
same_heads : (xs ys : List Head) (y : Head) → AreDistinct (names_in (xs ++ y ∷ ys)) → SameHeads (xs ++ y ∷ ys) (y ∷ (xs ++ ys))
same_heads xs ys y are = moved_heads xs ys y (new_before (names_in xs) y.name (names_in ys) (subst AreDistinct (names_joined xs (y ∷ ys)) are))

clear_all : (a b c d : Option Place) → is_clear (or_else a (or_else b (or_else c d))) ≡ (is_clear a && (is_clear b && (is_clear c && is_clear d)))
clear_all a b c d = clear_both a (or_else b (or_else c d)) ∙ and_by refl (clear_both b (or_else c d) ∙ and_by refl (clear_both c d))

-- ---- the head of `main`

main_is : (h : Head) → is_main h ≡ true → h ≡ main_head
main_is h is =
    let parts = and_parts (bytes_eq h.name (codes "main")) (no_parameters h.parameters) is in
    ap (λ (w : List ℕ). record { name = w; parameters = h.parameters }) ((bytes_eq-Decides h.name (codes "main")).0 parts.0) ∙ ap (λ (ps : List (List ℕ)). record { name = codes "main"; parameters = ps }) (none_is h.parameters parts.1)
  where
    none_is : (ps : List (List ℕ)) → no_parameters ps ≡ true → ps ≡ []
    none_is [] is = refl
    none_is (p ∷ ps) is = cc

-- `main` is among the heads
has_main : (xs ys : List Head) → list_any is_main (xs ++ main_head ∷ ys) ≡ true
has_main [] ys = refl
has_main (x ∷ xs) ys = or_right (is_main x) (list_any is_main (xs ++ main_head ∷ ys)) (has_main xs ys)

-- whether there is a fault of `main`
any_main : (b : Bool) → is_clear (if b then None else Some start_place) ≡ b
any_main true = refl
any_main false = refl

-- a text with a definition is not empty
text_there : (before : List Datum) (main : Datum) (after : List Datum) → text_fault (before ++ main ∷ after) ≡ None
text_there [] main after = refl
text_there (d ∷ before) main after = refl

module _ (names : List (List ℕ)) where
  -- ---- heads

  heads_joined : (ds es : List Datum) (hs gs : List Head) → heads_of names ds ≡ Some hs → heads_of names es ≡ Some gs → heads_of names (ds ++ es) ≡ Some (hs ++ gs)
  heads_joined [] es hs gs is also = let none : [] ≡ hs = cc in subst (λ (x : List Head). heads_of names es ≡ Some (x ++ gs)) none also
  heads_joined (d ∷ ds) es hs gs is also =
      let js = joined ((part names d).head) (heads_of names ds) hs is in
      let rest = heads_joined ds es js.rest gs js.is_rest also in
      ap (λ (o : Option Head). and_also o (heads_of names (ds ++ es))) js.is_first ∙ ap (λ (o : Option (List Head)). and_also (Some js.first) o) rest ∙ ap (λ (x : List Head). Some (x ++ gs)) (sym js.is)

  record Parted (ds es : List Datum) (hs : List Head) : Type 0 where
    front : List Head
    back : List Head
    are_front : heads_of names ds ≡ Some front
    are_back : heads_of names es ≡ Some back
    are : hs ≡ front ++ back

  -- the heads of a list in two parts
  heads_parted : (ds es : List Datum) (hs : List Head) → heads_of names (ds ++ es) ≡ Some hs → Parted ds es hs
  heads_parted [] es hs is = record { front = []; back = hs; are_front = refl; are_back = is; are = refl }
  heads_parted (d ∷ ds) es hs is =
      let js = joined ((part names d).head) (heads_of names (ds ++ es)) hs is in
      let rest = heads_parted ds es js.rest js.is_rest in
      record {
        front = js.first ∷ rest.front;
        back = rest.back;
        are_front = ap (λ (o : Option Head). and_also o (heads_of names ds)) js.is_first ∙ ap (λ (o : Option (List Head)). and_also (Some js.first) o) rest.are_front;
        are_back = rest.are_back;
        are = js.is ∙ ap (λ (x : List Head). js.first ∷ x) rest.are;
      }

  -- where no definition has a fault of its shape, each has a head
  heads_there : (ds : List Datum) → is_clear (shapes_fault names ds) ≡ true → is_some (heads_of names ds) ≡ true
  heads_there [] is = refl
  heads_there (d ∷ ds) is =
      let shape = (flaws names d).definition_shape in
      let parts = and_parts (is_clear shape) (is_clear (shapes_fault names ds)) (sym (clear_both shape (shapes_fault names ds)) ∙ is) in
      both_hold ((part names d).head) (heads_of names ds) ∙ and_from (is_some ((part names d).head)) (is_some (heads_of names ds)) ((fits names d).definition parts.0) (heads_there ds parts.1)

  -- ---- procedures

  -- definitions read as procedures, and their heads are fine, exactly where they have no fault
  definitions_fit : (heads : List Head) (defined : List (List ℕ)) (hs : List Head) (ds : List Datum) → heads_of names ds ≡ Some hs
      → (is_some (procedures_in names heads hs ds) && are_fine_heads defined hs) ≡ (is_clear (shapes_fault names ds) && is_clear (names_from names heads defined hs ds))
  definitions_fit heads defined [] [] is = refl
  definitions_fit heads defined [] (d ∷ ds) is = let js = joined ((part names d).head) (heads_of names ds) [] is in let e = js.is in cc
  definitions_fit heads defined (h ∷ hs) [] is = cc
  definitions_fit heads defined (h ∷ hs) (d ∷ ds) is =
      let js = joined ((part names d).head) (heads_of names ds) (h ∷ hs) is in
      let head : (part names d).head ≡ Some h = let e = js.is in let f = js.is_first in cc in
      let others : heads_of names ds ≡ Some hs = let e = js.is in let f = js.is_rest in cc in
      let first = (fits names d).procedure heads defined h head in
      let rest = definitions_fit heads (defined ++ h.name ∷ []) hs ds others in
      let p = (part names d).procedure (scope_in heads h) in
      let ps = procedures_in names heads hs ds in
      let shape = (flaws names d).definition_shape in
      let name = (flaws names d).definition_names heads defined in
      let shapes = shapes_fault names ds in
      let later = names_from names heads (defined ++ h.name ∷ []) hs ds in
      and_by (both_hold p ps) refl
      ∙ across (is_some p) (is_some ps) (is_fine_head defined h) (are_fine_heads (defined ++ h.name ∷ []) hs)
      ∙ and_by first rest
      ∙ across (is_clear shape) (is_clear name) (is_clear shapes) (is_clear later)
      ∙ sym (and_by (clear_both shape shapes) (clear_both name later))

  -- the faults of names are the same among heads in another order
  names_steady : (heads others : List Head) → SameHeads heads others → (defined : List (List ℕ)) (hs : List Head) (ds : List Datum) → names_from names heads defined hs ds ≡ names_from names others defined hs ds
  names_steady heads others same defined [] ds = refl
  names_steady heads others same defined (h ∷ hs) [] = refl
  names_steady heads others same defined (h ∷ hs) (d ∷ ds) =
      let later = names_from names heads (defined ++ h.name ∷ []) hs ds in
      ap (λ (o : Option Place). or_else o later) (definition_names_steady names d heads others defined same)
      ∙ ap (λ (o : Option Place). or_else ((flaws names d).definition_names others defined) o) (names_steady heads others same (defined ++ h.name ∷ []) hs ds)

  -- a definition that comes first may stand between the others
  procedures_moved : (heads before : List Head) (m : Head) (after : List Head) (ds : List Datum) (d : Datum) (es : List Datum) → heads_of names ds ≡ Some before
      → is_some (procedures_in names heads (before ++ m ∷ after) (ds ++ d ∷ es)) ≡ is_some (procedures_in names heads (m ∷ (before ++ after)) (d ∷ (ds ++ es)))
  procedures_moved heads [] m after [] d es is = refl
  procedures_moved heads [] m after (x ∷ ds) d es is = let js = joined ((part names x).head) (heads_of names ds) [] is in let e = js.is in cc
  procedures_moved heads (h ∷ before) m after [] d es is = cc
  procedures_moved heads (h ∷ before) m after (x ∷ ds) d es is =
      let js = joined ((part names x).head) (heads_of names ds) (h ∷ before) is in
      let others : heads_of names ds ≡ Some before = let e = js.is in let f = js.is_rest in cc in
      let p = (part names x).procedure (scope_in heads h) in
      let q = (part names d).procedure (scope_in heads m) in
      let ps = procedures_in names heads (before ++ after) (ds ++ es) in
      both_hold p (procedures_in names heads (before ++ m ∷ after) (ds ++ d ∷ es))
      ∙ and_by refl (procedures_moved heads before m after ds d es others ∙ both_hold q ps)
      ∙ inward (is_some p) (is_some q) (is_some ps)
      ∙ sym (both_hold q (and_also p ps) ∙ and_by refl (both_hold p ps))

  -- ---- the definition of `main`

  -- definitions, among them one of `main`
  record HasMain (ds : List Datum) (hs : List Head) : Type 0 where
    before : List Datum
    main : Datum
    after : List Datum
    form : ds ≡ before ++ main ∷ after
    front : List Head
    back : List Head
    are_front : heads_of names before ≡ Some front
    are_back : heads_of names after ≡ Some back
    is_head : (part names main).head ≡ Some main_head
    heads : hs ≡ front ++ main_head ∷ back

  main_first : (d : Datum) (ds : List Datum) (h : Head) (hs : List Head) → (part names d).head ≡ Some h → heads_of names ds ≡ Some hs → is_main h ≡ true → HasMain (d ∷ ds) (h ∷ hs)
  main_first d ds h hs head are is = record {
    before = [];
    main = d;
    after = ds;
    form = refl;
    front = [];
    back = hs;
    are_front = refl;
    are_back = are;
    is_head = head ∙ ap (λ x. Some x) (main_is h is);
    heads = ap (λ (x : Head). x ∷ hs) (main_is h is);
  }

  main_later : (d : Datum) (ds : List Datum) (h : Head) (hs : List Head) → (part names d).head ≡ Some h → HasMain ds hs → HasMain (d ∷ ds) (h ∷ hs)
  main_later d ds h hs head has = record {
    before = d ∷ has.before;
    main = has.main;
    after = has.after;
    form = ap (λ (x : List Datum). d ∷ x) has.form;
    front = h ∷ has.front;
    back = has.back;
    are_front = ap (λ (o : Option Head). and_also o (heads_of names has.before)) head ∙ ap (λ (o : Option (List Head)). and_also (Some h) o) has.are_front;
    are_back = has.are_back;
    is_head = has.is_head;
    heads = ap (λ (x : List Head). h ∷ x) has.heads;
  }

  main_by : (d : Datum) (ds : List Datum) (h : Head) (hs : List Head) → (part names d).head ≡ Some h → heads_of names ds ≡ Some hs → (b : Bool) → is_main h ≡ b → (b || list_any is_main hs) ≡ true → (list_any is_main hs ≡ true → HasMain ds hs) → HasMain (d ∷ ds) (h ∷ hs)
  main_by d ds h hs head are true is any later = main_first d ds h hs head are is
  main_by d ds h hs head are false is any later = main_later d ds h hs head (later any)

  -- heads with one of `main` come from definitions with one of `main`
  main_there : (ds : List Datum) (hs : List Head) → heads_of names ds ≡ Some hs → list_any is_main hs ≡ true → HasMain ds hs
  main_there ds [] is any = cc
  main_there [] (h ∷ hs) is any = cc
  main_there (d ∷ ds) (h ∷ hs) is any =
      let js = joined ((part names d).head) (heads_of names ds) (h ∷ hs) is in
      let head : (part names d).head ≡ Some h = let e = js.is in let f = js.is_first in cc in
      let others : heads_of names ds ≡ Some hs = let e = js.is in let f = js.is_rest in cc in
      main_by d ds h hs head others (is_main h) refl any (λ more. main_there ds hs others more)

  -- ---- both ways

  -- the heads of a program, `main` first
  abbrev in_order : {ds : List Datum} {hs : List Head} → HasMain ds hs → List Head
  in_order has = main_head ∷ (has.front ++ has.back)

  -- the same of the definitions in their order as a program, whose heads stand for the procedures
  program_fits : (ds : List Datum) (hs : List Head) (has : HasMain ds hs) → heads_of names ds ≡ Some hs → AreDistinct (names_in hs)
      → (is_some (procedures_in names (in_order has) (in_order has) (has.main ∷ (has.before ++ has.after))) && are_fine_heads [] hs) ≡ (is_clear (shapes_fault names ds) && is_clear (names_from names hs [] hs ds))
  program_fits ds hs has is distinct =
      let heads = in_order has in
      let same : SameHeads hs heads = subst (λ (x : List Head). SameHeads x heads) (sym has.heads) (same_heads has.front has.back main_head (subst (λ (x : List Head). AreDistinct (names_in x)) has.heads distinct)) in
      and_by
      (sym (procedures_moved heads has.front main_head has.back has.before has.main has.after has.are_front)
      ∙ ap (λ (x : List Head). is_some (procedures_in names heads x (has.before ++ has.main ∷ has.after))) (sym has.heads)
      ∙ ap (λ (x : List Datum). is_some (procedures_in names heads hs x)) (sym has.form))
      refl
      ∙ definitions_fit heads [] hs ds is
      ∙ and_by refl (ap is_clear (sym (names_steady hs heads same [] hs ds)))

  -- definitions of these heads, without faults
  program_by : (ds : List Datum) (hs : List Head) → heads_of names ds ≡ Some hs → is_clear (shapes_fault names ds) ≡ true → is_clear (names_from names hs [] hs ds) ≡ true → list_any is_main hs ≡ true → (p : Program) × IsProgram names ds p
  program_by ds hs is shapes clear any =
      let both = and_from (is_clear (shapes_fault names ds)) (is_clear (names_from names hs [] hs ds)) shapes clear in
      let fine = fine_heads hs (and_parts (is_some (procedures_in names hs hs ds)) (are_fine_heads [] hs) (definitions_fit hs [] hs ds is ∙ both)).1 in
      let has = main_there ds hs is any in
      let heads = in_order has in
      let definitions = has.main ∷ (has.before ++ has.after) in
      let read = held (procedures_in names heads heads definitions) (and_parts (is_some (procedures_in names heads heads definitions)) (are_fine_heads [] hs) (program_fits ds hs has is fine.0 ∙ both)).0 in (
        record { procedures = read.0 },
        record {
          before = has.before;
          main = has.main;
          after = has.after;
          form = has.form;
          heads = heads;
          are_heads = ap (λ (o : Option Head). and_also o (heads_of names (has.before ++ has.after))) has.is_head ∙ ap (λ (o : Option (List Head)). and_also (Some main_head) o) (heads_joined has.before has.after has.front has.back has.are_front has.are_back);
          is_main = has.is_head;
          distinct = distinct_front has.front has.back main_head (subst (λ (x : List Head). AreDistinct (names_in x)) has.heads fine.0);
          parameters = all_front IsHead has.front has.back main_head (subst (λ (x : List Head). AllByRecursion IsHead x) has.heads fine.1);
          procedures = read.1;
        },
      )

  -- where there is no fault, the data are a program
  no_fault_program : (ds : List Datum) → fault_of names ds ≡ None → (p : Program) × IsProgram names ds p
  no_fault_program ds none =
      let text = text_fault ds in
      let shapes = shapes_fault names ds in
      let named = names_fault names (heads_of names ds) ds in
      let main = main_fault (heads_of names ds) in
      let all : (is_clear text && (is_clear shapes && (is_clear named && is_clear main))) ≡ true = sym (clear_all text shapes named main) ∙ ap is_clear none in
      let behind = (and_parts (is_clear text) (is_clear shapes && (is_clear named && is_clear main)) all).1 in
      let shaped = and_parts (is_clear shapes) (is_clear named && is_clear main) behind in
      let rest = and_parts (is_clear named) (is_clear main) shaped.1 in
      let heads = held (heads_of names ds) (heads_there ds shaped.0) in
      let clear : is_clear (names_from names heads.0 [] heads.0 ds) ≡ true = sym (ap (λ (o : Option (List Head)). is_clear (names_fault names o ds)) heads.1) ∙ rest.0 in
      let any : list_any is_main heads.0 ≡ true = sym (any_main (list_any is_main heads.0)) ∙ sym (ap (λ (o : Option (List Head)). is_clear (main_fault o)) heads.1) ∙ rest.1 in
      program_by ds heads.0 heads.1 shaped.0 clear any

  -- definitions with one of `main`, without faults of shape and of names
  clear_by : (ds : List Datum) (hs : List Head) (has : HasMain ds hs) → heads_of names ds ≡ Some hs → is_clear (shapes_fault names ds) ≡ true → is_clear (names_from names hs [] hs ds) ≡ true → fault_of names ds ≡ None
  clear_by ds hs has is shaped clear =
      let text = text_fault ds in
      let shapes = shapes_fault names ds in
      let named = names_fault names (heads_of names ds) ds in
      let main = main_fault (heads_of names ds) in
      let first : is_clear text ≡ true = ap (λ (x : List Datum). is_clear (text_fault x)) has.form ∙ ap is_clear (text_there has.before has.main has.after) in
      let third : is_clear named ≡ true = ap (λ (o : Option (List Head)). is_clear (names_fault names o ds)) is ∙ clear in
      let last : is_clear main ≡ true = ap (λ (o : Option (List Head)). is_clear (main_fault o)) is ∙ any_main (list_any is_main hs) ∙ ap (λ (x : List Head). list_any is_main x) has.heads ∙ has_main has.front has.back in
      clear_none (fault_of names ds) (clear_all text shapes named main ∙ and_by first (and_by shaped (and_by third last)))

  -- and a program has no fault
  program_no_fault : (ds : List Datum) (p : Program) → IsProgram names ds p → fault_of names ds ≡ None
  program_no_fault ds p is =
      let js = joined ((part names is.main).head) (heads_of names (is.before ++ is.after)) is.heads is.are_heads in
      let parted = heads_parted is.before is.after js.rest js.is_rest in
      let front = parted.front in
      let back = parted.back in
      let hs = front ++ main_head ∷ back in
      let first : js.first ≡ main_head = let e = js.is_first in let f = is.is_main in cc in
      let heads : is.heads ≡ main_head ∷ (front ++ back) = js.is ∙ ap (λ (x : Head). x ∷ js.rest) first ∙ ap (λ (x : List Head). main_head ∷ x) parted.are in
      let has : HasMain ds hs = record { before = is.before; main = is.main; after = is.after; form = is.form; front = front; back = back; are_front = parted.are_front; are_back = parted.are_back; is_head = is.is_main; heads = refl } in
      let behind : heads_of names (is.main ∷ is.after) ≡ Some (main_head ∷ back) = ap (λ (o : Option Head). and_also o (heads_of names is.after)) is.is_main ∙ ap (λ (o : Option (List Head)). and_also (Some main_head) o) parted.are_back in
      let are : heads_of names ds ≡ Some hs = ap (λ (x : List Datum). heads_of names x) is.form ∙ heads_joined is.before (is.main ∷ is.after) front (main_head ∷ back) parted.are_front behind in
      let distinct = distinct_back front back main_head (subst (λ (x : List Head). AreDistinct (names_in x)) heads is.distinct) in
      let fine = heads_fine hs distinct (all_back IsHead front back main_head (subst (λ (x : List Head). AllByRecursion IsHead x) heads is.parameters)) in
      let read : is_some (procedures_in names (in_order has) (in_order has) (is.main ∷ (is.before ++ is.after))) ≡ true = sym (ap (λ (x : List Head). is_some (procedures_in names x x (is.main ∷ (is.before ++ is.after)))) heads) ∙ ap is_some is.procedures in
      let both = and_parts (is_clear (shapes_fault names ds)) (is_clear (names_from names hs [] hs ds)) (sym (program_fits ds hs has are distinct) ∙ and_by read fine) in
      clear_by ds hs has are both.0 both.1

pub faults_tell : FaultsTellPrograms
faults_tell names ds = (no_fault_program names ds, λ found. program_no_fault names ds found.0 found.1)
