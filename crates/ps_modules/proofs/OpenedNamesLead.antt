-- Where an opened name leads, and what a structure opens.
-- For: leading, meaning, opens_of_shape, leave
use Rattle.std.proofs.Common.{◌≡◌, ℕ, ◌+◌, ◌<◌, ◌≤◌, List, [], ◌∷◌, ◌++◌, length, drop, get_or, slice_get, Bool, true, false, ◌||◌, Option, Some, None, Result, Ok, Err, refl, sym, ap, ◌∙◌, subst, MatchResult}
use Rattle.std.specs.Prelude.{is_some}
use Rattle.std.proofs.lemmas.List.{drop_all, append-nil, append_assoc}
use Rattle.ps_base.specs.declared.faults.ModuleKind.TheVariants as kinds
use Rattle.ps_base.specs.declared.faults.Place.{Place}
use Rattle.ps_base.specs.declared.faults.Refusal.{Refusal}
use Rattle.ps_base.specs.declared.faults.Refusal.TheVariants as refusals
use Rattle.ps_base.specs.declared.limits.Limits.{Limits}
use Rattle.ps_library.specs.LibraryStates.{LibraryState}
use Rattle.ps_read.specs.Lexical.{Table}
use Rattle.ps_modules.specs.declared.files.Body.{Body}
use Rattle.ps_modules.specs.declared.files.Count.{Count}
use Rattle.ps_modules.specs.declared.openings.Meant.{Meant}
use Rattle.ps_modules.specs.declared.shapes.OpenedName.{OpenedName}
use Rattle.ps_modules.specs.declared.shapes.Shape.{Shape}
use Rattle.ps_modules.specs.declared.types.Export.{Export}
use Rattle.ps_modules.specs.declared.types.Opened.{Opened}
use Rattle.ps_modules.specs.declared.types.Structure.{Structure}
use Rattle.ps_modules.specs.BuiltIn.{built_in}
use Rattle.ps_modules.specs.InsideTexts.{Comes}
use Rattle.ps_modules.specs.InsideWalking.{IsMet, LeadsTo, OpensAre, LeftSo, LeftIs, Gathered, Ungathered, listing}
use Rattle.ps_modules.specs.Openings.{two_opened}
use Rattle.ps_modules.specs.Playing.{Outcome, Plays, stopped, no_memory, module_fault}
use Rattle.ps_modules.specs.Runs.{Run, Stops}
use Rattle.ps_modules.specs.Shapes.{text_of}
use Rattle.ps_modules.specs.Texts.{place_in, structure_at}
use Rattle.ps_modules.specs.Walking.{State, Goes, Enters, by_path, by_place, by_number, by_built_in, opening, is_on, meant, walked_at, at_place, meant_at, opened_by, opens_of, unless_clash, parts_then, leaving, leaves}
use Rattle.ps_modules.proofs.Gathering.{item_at}
use Rattle.ps_modules.proofs.PartsAreGathered.{all_stay_same}

some_is : {A : Type 0} (o : Option A) → is_some o ≡ true → (a : A) × (o ≡ Some a)
some_is (Some a) h = (a, refl)
some_is None h = absurd (cc)

none_is : {A : Type 0} (o : Option A) → is_some o ≡ false → o ≡ None
none_is None h = refl
none_is (Some a) h = absurd (cc)

same_flag : (a b : Bool) → Some a ≡ Some b → a ≡ b
same_flag a b e = cc

or_none : (o : Option ℕ) (b c : Bool) → o ≡ None → (is_some o || b) ≡ c → b ≡ c
or_none None b c e h = h
or_none (Some n) b c e h = absurd (cc)

-- ---- where an opened name leads

module _ (shapes : List Shape) (o : OpenedName) (table : Table) (walked : List ℕ) (ms : List Bool) where
  abbrev state : List Structure → Count → State
  state order count = record { walked = walked; order = order; count = count; table = table }

  pub leads_to_known : (b : Bool) → b ≡ is_some (built_in (text_of table o.name)) → b ≡ true → (path : List ℕ) → LeadsTo shapes path o table walked ms (Ok None)
  leads_to_known b is holds path enters order count goes_on = let (known, at) = some_is (built_in (text_of table o.name)) (sym is ∙ holds) in
      ap (λ k. by_built_in enters path o.place k (structure_at shapes o.name) (state order count) goes_on) at

  module _ (b : Bool) (is : b ≡ is_some (built_in (text_of table o.name))) (fails : b ≡ false) where
    by_own : (enters : Enters) (path : List ℕ) (order : List Structure) (count : Count) (goes_on : Goes) (p : Option ℕ) → structure_at shapes o.name ≡ p
        → opening shapes enters path o (state order count) goes_on ≡ by_number enters path o.place p (state order count) goes_on
    by_own enters path order count goes_on p e = ap (λ k. by_built_in enters path o.place k (structure_at shapes o.name) (state order count) goes_on) (none_is (built_in (text_of table o.name)) (sym is ∙ fails))
        ∙ ap (λ q. by_number enters path o.place q (state order count) goes_on) e

    pub leads_nowhere : structure_at shapes o.name ≡ None → (e : Refusal) → e ≡ module_fault (record { kind = kinds.UnknownStructure; place = o.place }) → (path : List ℕ) → LeadsTo shapes path o table walked ms (Err e)
    leads_nowhere none e is path enters order count goes_on = subst (λ x. Comes (opening shapes enters path o (state order count) goes_on) x) (sym is) (_, by_own enters path order count goes_on None none, refl)

    module _ (j : ℕ) (at : structure_at shapes o.name ≡ Some j) where
      by_walked : (enters : Enters) (path : List ℕ) (order : List Structure) (count : Count) (goes_on : Goes) (p : Option ℕ) → place_in walked j ≡ p
          → opening shapes enters path o (state order count) goes_on ≡ by_place enters path o.place j p (state order count) goes_on
      by_walked enters path order count goes_on p e = by_own enters path order count goes_on (Some j) at ∙ ap (λ q. by_place enters path o.place j q (state order count) goes_on) e

      pub leads_to_walked : (w : Bool) → w ≡ is_some (place_in walked j) → w ≡ true → (path : List ℕ) → LeadsTo shapes path o table walked ms (Ok None)
      leads_to_walked w is holds path enters order count goes_on = let (k, there) = some_is (place_in walked j) (sym is ∙ holds) in by_walked enters path order count goes_on (Some k) there

      module _ (w : Bool) (is_walked : w ≡ is_some (place_in walked j)) (not_walked : w ≡ false) (below : j < length shapes) (m : Bool) (met : slice_get ms j ≡ Some m) where
        new : place_in walked j ≡ None
        new = none_is (place_in walked j) (sym is_walked ∙ not_walked)

        on_path : (path : List ℕ) → IsMet (length shapes) ms path walked → is_on j path ≡ m
        on_path path so = or_none (place_in walked j) (is_on j path) m new (same_flag _ _ (sym (so.are j below) ∙ met))

        by_flag : (enters : Enters) (path : List ℕ) (order : List Structure) (count : Count) (goes_on : Goes) (c : Bool) → is_on j path ≡ c
            → opening shapes enters path o (state order count) goes_on ≡ by_path enters o.place j c (state order count) goes_on
        by_flag enters path order count goes_on c e = by_walked enters path order count goes_on None new ∙ ap (λ d. by_path enters o.place j d (state order count) goes_on) e

        pub leads_in_circle : m ≡ true → (e : Refusal) → e ≡ module_fault (record { kind = kinds.Circle; place = o.place }) → (path : List ℕ) → IsMet (length shapes) ms path walked → LeadsTo shapes path o table walked ms (Err e)
        leads_in_circle holds e is path so enters order count goes_on = subst (λ x. Comes (opening shapes enters path o (state order count) goes_on) x) (sym is) (_, by_flag enters path order count goes_on true (on_path path so ∙ holds), refl)

        pub leads_to_new : m ≡ false → (path : List ℕ) → IsMet (length shapes) ms path walked → LeadsTo shapes path o table walked ms (Ok (Some j))
        leads_to_new holds path so = (below, met ∙ ap (λ (c : Bool). Some c) holds, λ enters order count goes_on. by_flag enters path order count goes_on false (on_path path so ∙ holds))

-- ---- what an opened name means

pub means_known : (walked : List ℕ) (known : Option Opened) (p : Option ℕ) (o : Opened) → known ≡ Some o → listing (Some o) ≡ meant walked known p
means_known walked known p o e = sym (ap (λ k. meant walked k p) e)

module _ (walked : List ℕ) (known : Option Opened) (p : Option ℕ) (none : known ≡ None) where
  by_place_of : meant walked known p ≡ walked_at walked p
  by_place_of = ap (λ k. meant walked k p) none

  pub means_none : p ≡ None → listing None ≡ meant walked known p
  means_none e = sym (by_place_of ∙ ap (walked_at walked) e)

  pub means_at : (j : ℕ) (q : Option ℕ) → p ≡ Some j → place_in walked j ≡ q → meant walked known p ≡ at_place q
  means_at j q e h = by_place_of ∙ ap (walked_at walked) e ∙ ap at_place h

-- the first i opened names mean these
pub record MeantSo (table : Table) (shapes : List Shape) (walked : List ℕ) (opens : List OpenedName) (meants : List Meant) (i : ℕ) : Type 0 where
  pub is : opened_by table shapes walked opens ≡ meants ++ opened_by table shapes walked (drop i opens)

module _ (table : Table) (shapes : List Shape) (walked : List ℕ) (opens : List OpenedName) where
  pub none_meant : (meants : List Meant) → meants ≡ [] → MeantSo table shapes walked opens meants 0
  none_meant meants e = record { is = ap (λ ms. ms ++ opened_by table shapes walked opens) (sym e) }

  module _ (meants : List Meant) (i : ℕ) (so : MeantSo table shapes walked opens meants i) where
    module _ (o : OpenedName) (lt : i < length opens) (at : o ≡ get_or opens i o) (r : Option Opened) (means : listing r ≡ meant walked (built_in (text_of table o.name)) (structure_at shapes o.name)) where
      here : opened_by table shapes walked opens ≡ meants ++ (meant_at o.place (listing r) ++ opened_by table shapes walked (drop (i + 1) opens))
      here = so.is ∙ ap (λ os. meants ++ opened_by table shapes walked os) (item_at opens i o lt at)
          ∙ ap (λ os. meants ++ (meant_at o.place os ++ opened_by table shapes walked (drop (i + 1) opens))) (sym means)

      pub meant_more : (known : Opened) (after : List Meant) → r ≡ Some known → after ≡ meants ++ record { place = o.place; opened = known } ∷ [] → MeantSo table shapes walked opens after (i + 1)
      meant_more known after e is = record {
        is = here ∙ ap (λ q. meants ++ (meant_at o.place (listing q) ++ opened_by table shapes walked (drop (i + 1) opens))) e
            ∙ sym (append_assoc meants (record { place = o.place; opened = known } ∷ []) (opened_by table shapes walked (drop (i + 1) opens)))
            ∙ ap (λ ms. ms ++ opened_by table shapes walked (drop (i + 1) opens)) (sym is);
      }

      pub meant_none : r ≡ None → MeantSo table shapes walked opens meants (i + 1)
      meant_none e = record { is = here ∙ ap (λ q. meants ++ (meant_at o.place (listing q) ++ opened_by table shapes walked (drop (i + 1) opens))) e }

    pub meant_all : length opens ≤ i → meants ≡ opened_by table shapes walked opens
    meant_all past = sym (so.is ∙ ap (λ os. meants ++ opened_by table shapes walked os) (drop_all i opens past) ∙ append-nil meants)

-- ---- what a structure opens

module _ (table : Table) (order : List Structure) (meants all : List Meant) (is : meants ≡ all) where
  pub opens_differ : (p : Option Place) (place : Place) → p ≡ two_opened table order [] meants → p ≡ Some place → (e : Refusal) → e ≡ module_fault (record { kind = kinds.TwoOpened; place = place }) → OpensAre table order all (Err e)
  opens_differ p place told some e same run = subst (λ x. Comes (unless_clash (two_opened table order [] all) run) x) (sym same)
      (record { kind = kinds.TwoOpened; place = place }, ap (λ ms. unless_clash (two_opened table order [] ms) run) (sym is) ∙ ap (λ q. unless_clash q run) (sym told ∙ some), refl)

  pub opens_agree : (p : Option Place) → p ≡ two_opened table order [] meants → p ≡ None → (r : Result (List Opened) Refusal) → MatchResult r (λ opens. opens ≡ opens_of meants) (λ e. e ≡ refusals.NoMemory) → OpensAre table order all r
  opens_agree p told none (Ok opens) h = (ap (two_opened table order []) (sym is) ∙ sym told ∙ none, h ∙ ap opens_of is)
  opens_agree p told none (Err e) h = λ run. subst (λ x. Comes (unless_clash (two_opened table order [] all) run) x) (sym h) tt

-- ---- a structure is left

-- a walk that stops where it stands asks the libraries for nothing
pub comes_so : (run : Run) (e : Refusal) (states : List LibraryState) → Comes run e → Plays run states states (Err e)
comes_so run refusals.NoMemory states h = no_memory (all_stay_same states)
comes_so run (refusals.Fault f) states h = let (t, is, same) = h in
    subst (λ r. Plays r states states (Err (refusals.Fault f))) (sym is) (subst (λ x. Plays (Stops t) states states (Err x)) (sym same) stopped)

module _ (shapes : List Shape) (limits : Limits) (shape : Shape) (exports : List Export) (state : State) (olds : List LibraryState) where
  abbrev meants : List Meant
  meants = opened_by state.table shapes state.walked shape.clauses.opens

  pub left_stuck : (e : Refusal) → OpensAre state.table state.order meants (Err e) → (later : Table) → LeftIs shapes limits shape exports state olds later olds (Err e)
  left_stuck e h later i goes = comes_so _ e olds (h _)

  module _ (opens : List Opened) (agree : OpensAre state.table state.order meants (Ok opens)) (later : Table) (news : List LibraryState) where
    by_parts : (i : ℕ) (goes : Goes) (out : Outcome) (last : List LibraryState) → Plays (parts_then limits shape.clauses.parts [] state.count state.table (λ body count table.
        goes (leaving i (record { name = shape.name.name; opens = opens_of meants; exports = exports; body = body }) state count table))) olds last out
        → Plays (leaves shapes limits i shape exports state goes) olds last out
    by_parts i goes out last h = subst (λ q. Plays (unless_clash q (parts_then limits shape.clauses.parts [] state.count state.table (λ body count table.
        goes (leaving i (record { name = shape.name.name; opens = opens_of meants; exports = exports; body = body }) state count table)))) olds last out) (sym agree.0) h

    pub left_refused : (parts : _) → parts ≡ shape.clauses.parts → (e : Refusal) → Ungathered limits parts state.count state.table olds news e → LeftIs shapes limits shape exports state olds later news (Err e)
    left_refused parts is e given i goes = let h = subst (λ ps. Ungathered limits ps state.count state.table olds news e) is given in by_parts i goes (Err e) news (h.refuses _)

    pub left_so : (parts : _) → parts ≡ shape.clauses.parts → (body : Body) → Gathered limits parts state.count state.table olds later news body
        → LeftSo shapes limits shape exports state olds later news (record { structure = record { name = shape.name.name; opens = opens; exports = exports; body = body.forms }; count = body.count })
    left_so parts is body given = let h = subst (λ ps. Gathered limits ps state.count state.table olds later news body) is given in
        subst (λ os. LeftSo shapes limits shape exports state olds later news (record { structure = record { name = shape.name.name; opens = os; exports = exports; body = body.forms }; count = body.count })) (sym agree.1) (record {
          taken = h.taken;
          room = h.room;
          stay = h.stay;
          goes_on = λ i goes last out plays. by_parts i goes out last (h.goes_on _ last out plays);
        })
