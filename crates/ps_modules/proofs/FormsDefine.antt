-- Forms define structures and interfaces one after another, and the last structure is the entry.
-- For: text_of_forms, add_form, add_structure, add_interface, entry_of
use Rattle.std.proofs.Common.{◌≡◌, ℕ, ◌+◌, ◌-◌, ◌^◌, ◌<◌, ◌≤◌, List, [], ◌∷◌, ◌++◌, length, drop, get_or, Bool, true, false, ◌||◌, Option, Some, None, Result, Ok, Err, refl, sym, ap, subst, ◌∙◌, arith, if◌then◌else◌}
use Rattle.std.specs.Prelude.{is_some}
use Rattle.std.specs.List.{list_any}
use Rattle.std.proofs.lemmas.List.{map-append, length-map, drop_all}
use Rattle.ps_base.proofs.Choices.{or_false}
use Rattle.ps_base.specs.declared.faults.ModuleKind.{ModuleKind}
use Rattle.ps_base.specs.declared.faults.ModuleKind.TheVariants as kinds
use Rattle.ps_base.specs.declared.faults.Place.{Place}
use Rattle.ps_base.specs.declared.faults.Refusal.{Refusal}
use Rattle.ps_base.specs.declared.faults.Refusal.TheVariants as refusals
use Rattle.ps_datum.specs.declared.datum.Datum.{Datum}
use Rattle.ps_read.specs.Lexical.{Table}
use Rattle.ps_modules.specs.declared.shapes.Broken.{Broken}
use Rattle.ps_modules.specs.declared.shapes.Broken.TheVariants as broken
use Rattle.ps_modules.specs.declared.shapes.Definition.{Definition}
use Rattle.ps_modules.specs.declared.shapes.Form.{Form}
use Rattle.ps_modules.specs.declared.shapes.Form.TheVariants as forms
use Rattle.ps_modules.specs.declared.shapes.Shape.{Shape}
use Rattle.ps_modules.specs.declared.text.Text.{Text}
use Rattle.ps_modules.specs.declared.types.Export.{Export}
use Rattle.ps_modules.specs.BuiltIn.{built_in}
use Rattle.ps_modules.specs.InsideShapes.{Says}
use Rattle.ps_modules.specs.InsideTexts.{Indexed, defined, Troubles, Comes, AddsForm, EntryIs, refusal_by}
use Rattle.ps_modules.specs.Playing.{module_fault}
use Rattle.ps_modules.specs.Runs.{Run, Done, Stops}
use Rattle.ps_modules.specs.Shapes.{Shaped, form, text_of}
use Rattle.ps_modules.specs.Texts.{Trouble, Defined, place_in, shape_names, definition_names, structure_at, with_form, formed, and_then, defined_by, nothing, resolved, is_main}
use Rattle.ps_modules.specs.Walking.{stops, enters, starting, from_entry, by_entry, start}
use Rattle.ps_modules.proofs.Gathering.{item_at}
use Rattle.ps_modules.proofs.Places.{not_there}

abbrev okay : Defined → Result Defined Trouble
okay text = Ok text

abbrev trouble : ModuleKind → Place → Trouble
trouble kind place = record { kind = kind; place = place }

-- ---- what a form adds

pub adds_as : (want v : Result Defined Trouble) (after : Text) (r : Result (Unit {0}) Refusal) → v ≡ want → AddsForm want after r → AddsForm v after r
adds_as want v after r e h = subst (λ w. AddsForm w after r) (sym e) h

broken_by : (names : Table) (text : Defined) (r : Shaped Form) (b : Broken) → Says r (Err b) → Troubles (formed names text r) (refusal_by kinds.BadClause b)
broken_by names text r (broken.At place) h = (trouble kinds.BadClause place, ap (formed names text) h, refl)
broken_by names text r broken.NoMemory h = tt

pub form_breaks : (names : Table) (text : Defined) (r : Shaped Form) (b : Broken) (e : Refusal) → e ≡ refusal_by kinds.BadClause b → Says r (Err b) → Troubles (formed names text r) e
form_breaks names text r b e is h = subst (λ x. Troubles (formed names text r) x) (sym is) (broken_by names text r b h)

abbrev with_shape : Defined → Shape → Defined
with_shape text s = record { shapes = text.shapes ++ s ∷ []; definitions = text.definitions }

abbrev with_definition : Defined → Definition → Defined
with_definition text d = record { shapes = text.shapes; definitions = text.definitions ++ d ∷ [] }

abbrev shape_by : Defined → Shape → Bool → Result Defined Trouble
shape_by text s b = if b then Err (trouble kinds.DefinedTwice s.name.place) else Ok (with_shape text s)

abbrev definition_by : Defined → Definition → Bool → Result Defined Trouble
definition_by text d b = if b then Err (trouble kinds.DefinedTwice d.name.place) else Ok (with_definition text d)

twice_by : (want : Result Defined Trouble) (t : Trouble) (e : Refusal) → e ≡ module_fault t → want ≡ Err t → Troubles want e
twice_by want t e is h = subst (λ x. Troubles want x) (sym is) (t, h, refl)

module _ (names : Table) (text : Text) (so : Indexed text) where
  module _ (s : Shape) (taken : Bool) (is : taken ≡ (is_some (built_in (text_of names s.name.name)) || is_some (structure_at text.shapes s.name.name))) where
    pub shape_twice : (e : Refusal) → e ≡ module_fault (trouble kinds.DefinedTwice s.name.place) → taken ≡ true → Troubles (with_form names (defined text) (forms.Structure s)) e
    shape_twice e told holds = twice_by _ _ e told (ap (shape_by (defined text) s) (sym is ∙ holds))

    pub shape_new : taken ≡ false → place_in text.structures s.name.name.0 ≡ None
    shape_new fails = not_there _ (ap (λ ns. is_some (place_in ns s.name.name.0)) so.structures ∙ (or_false _ _ (sym is ∙ fails)).1)

    pub shape_added : taken ≡ false → with_form names (defined text) (forms.Structure s) ≡ Ok (with_shape (defined text) s)
    shape_added fails = ap (shape_by (defined text) s) (sym is ∙ fails)

  module _ (d : Definition) (taken : Bool) (is : taken ≡ is_some (place_in text.interfaces d.name.name.0)) where
    known : is_some (place_in (definition_names text.definitions) d.name.name.0) ≡ taken
    known = ap (λ ns. is_some (place_in ns d.name.name.0)) (sym so.interfaces) ∙ sym is

    pub definition_twice : (e : Refusal) → e ≡ module_fault (trouble kinds.DefinedTwice d.name.place) → taken ≡ true → Troubles (with_form names (defined text) (forms.Interface d)) e
    definition_twice e told holds = twice_by _ _ e told (ap (definition_by (defined text) d) (known ∙ holds))

    pub definition_new : taken ≡ false → place_in text.interfaces d.name.name.0 ≡ None
    definition_new fails = not_there _ (sym is ∙ fails)

    pub definition_added : taken ≡ false → with_form names (defined text) (forms.Interface d) ≡ Ok (with_definition (defined text) d)
    definition_added fails = ap (definition_by (defined text) d) (known ∙ fails)

-- a structure has a place wherever its name has
pub few_shapes : (shapes : List Shape) (numbers : List ℕ) → numbers ≡ shape_names shapes → length numbers ≤ 2 ^ 32 → length shapes ≤ 2 ^ 32
few_shapes shapes numbers e h = let x = ap length e in let y = length-map shapes (λ s. s.name.name.0) in omega arith

-- the rows of names with one more
pub shape_names_more : (shapes : List Shape) (s : Shape) (numbers : List ℕ) → numbers ≡ shape_names shapes → numbers ++ s.name.name.0 ∷ [] ≡ shape_names (shapes ++ s ∷ [])
shape_names_more shapes s numbers e = ap (λ ns. ns ++ s.name.name.0 ∷ []) e ∙ sym (map-append (λ s. s.name.name.0) shapes (s ∷ []))

module _ (names : Table) (text : Text) (so : Indexed text) (s : Shape) (taken : Bool) (is : taken ≡ (is_some (built_in (text_of names s.name.name)) || is_some (structure_at text.shapes s.name.name))) where
  pub structure_added : taken ≡ false → (numbers : List ℕ) → numbers ≡ text.structures ++ s.name.name.0 ∷ [] → length numbers ≤ 2 ^ 32 → (shapes : List Shape) → shapes ≡ text.shapes ++ s ∷ []
      → AddsForm (with_form names (defined text) (forms.Structure s)) (record { shapes = shapes; definitions = text.definitions; structures = numbers; interfaces = text.interfaces }) (Ok tt)
  structure_added fails numbers more few shapes grown =
      let numbered : numbers ≡ shape_names shapes = more ∙ shape_names_more text.shapes s text.structures so.structures ∙ ap shape_names (sym grown) in (
        record { structures = numbered; interfaces = so.interfaces; few = few_shapes shapes numbers numbered few },
        shape_added names text so s taken is fails ∙ ap (λ (ss : List Shape). okay (record { shapes = ss; definitions = text.definitions })) (sym grown),
      )

pub definition_names_more : (definitions : List Definition) (d : Definition) (numbers : List ℕ) → numbers ≡ definition_names definitions → numbers ++ d.name.name.0 ∷ [] ≡ definition_names (definitions ++ d ∷ [])
definition_names_more definitions d numbers e = ap (λ ns. ns ++ d.name.name.0 ∷ []) e ∙ sym (map-append (λ d. d.name.name.0) definitions (d ∷ []))

-- ---- all forms

-- the first i forms define what is in the text
pub record DefinedSo (names : Table) (ds : List Datum) (text : Text) (i : ℕ) : Type 0 where
  pub is : defined_by names nothing ds ≡ defined_by names (defined text) (drop i ds)
  pub indexed : Indexed text

pub nothing_defined : (names : Table) (ds : List Datum) (text : Text) → text.shapes ≡ [] → text.definitions ≡ [] → text.structures ≡ [] → text.interfaces ≡ [] → DefinedSo names ds text 0
nothing_defined names ds text s d n m = record {
  is = ap (λ ss. defined_by names (record { shapes = ss; definitions = [] }) ds) (sym s) ∙ ap (λ dd. defined_by names (record { shapes = text.shapes; definitions = dd }) ds) (sym d);
  indexed = record { structures = n ∙ sym (ap shape_names s); interfaces = m ∙ sym (ap definition_names d); few = let x = ap length s in omega arith };
}

module _ (names : Table) (ds : List Datum) (text : Text) (i : ℕ) (so : DefinedSo names ds text i) where
  module _ (d : Datum) (lt : i < length ds) (at : d ≡ get_or ds i d) where
    by_form : (r : Result Defined Trouble) → formed names (defined text) (form names d) ≡ r → defined_by names nothing ds ≡ and_then r (λ more. defined_by names more (drop (i + 1) ds))
    by_form r e = so.is ∙ ap (defined_by names (defined text)) (item_at ds i d lt at) ∙ ap (λ q. and_then q (λ more. defined_by names more (drop (i + 1) ds))) e

    pub form_added : (after : Text) → Indexed after × (formed names (defined text) (form names d) ≡ Ok (defined after)) → DefinedSo names ds after (i + 1)
    form_added after h = record { is = by_form (Ok (defined after)) h.1; indexed = h.0 }

    pub form_refused : (e : Refusal) → Troubles (formed names (defined text) (form names d)) e → Troubles (defined_by names nothing ds) e
    form_refused refusals.NoMemory h = tt
    form_refused (refusals.Fault f) h = let (t, is, same) = h in (t, by_form (Err t) is, same)

  pub forms_end : length ds ≤ i → Indexed text × (defined_by names nothing ds ≡ Ok (defined text))
  forms_end past = (so.indexed, so.is ∙ ap (defined_by names (defined text)) (drop_all i ds past))

-- ---- the entry

stopped_at : (run : Run) (t : Trouble) (e : Refusal) → e ≡ module_fault t → run ≡ Stops t → Comes run e
stopped_at run t e is h = subst (λ x. Comes run x) (sym is) (t, h, refl)

stopped_by : (r : Shaped (List Export)) (goes : List Export → Run) (b : Broken) → Says r (Err b) → Comes (stops r goes) (refusal_by kinds.UnknownInterface b)
stopped_by r goes (broken.At place) h = (trouble kinds.UnknownInterface place, ap (λ q. stops q goes) h, refl)
stopped_by r goes broken.NoMemory h = tt

-- an interface that leads to no list stops a walk
pub interface_stops : (r : Shaped (List Export)) (goes : List Export → Run) (b : Broken) (e : Refusal) → e ≡ refusal_by kinds.UnknownInterface b → Says r (Err b) → Comes (stops r goes) e
interface_stops r goes b e is h = subst (λ x. Comes (stops r goes) x) (sym is) (stopped_by r goes b h)

module _ (names : Table) (text : Defined) (entry : Shape) where
  pub no_main : (exports : List Export) (e : Refusal) → e ≡ module_fault (trouble kinds.NoMain entry.form) → resolved text.definitions (length text.definitions) [] entry.interface ≡ Ok exports
      → list_any (is_main names) exports ≡ false → EntryIs names text (Some entry) (Err e)
  no_main exports e is lists fails limits taken = stopped_at _ _ e is (ap (λ q. stops q (from_entry names text limits taken entry)) lists ∙ ap (λ (b : Bool). if b then enters text limits (length text.shapes) [] start (length text.shapes - 1) (starting names taken) (λ state. Done state.order state.table)
      else Stops (trouble kinds.NoMain entry.form)) fails)

  pub no_list : (b : Broken) (e : Refusal) → e ≡ refusal_by kinds.UnknownInterface b → Says (resolved text.definitions (length text.definitions) [] entry.interface) (Err b) → EntryIs names text (Some entry) (Err e)
  no_list b e is h limits taken = interface_stops _ (from_entry names text limits taken entry) b e is h

pub entry_as : (names : Table) (text : Defined) (shape : Option Shape) (entry : Shape) (r : Result (List Export) Refusal) → shape ≡ Some entry → EntryIs names text (Some entry) r → EntryIs names text shape r
entry_as names text shape entry r e h = subst (λ s. EntryIs names text s r) (sym e) h

pub no_entry : (names : Table) (text : Defined) (shape : Option Shape) (e : Refusal) → shape ≡ None → e ≡ module_fault (trouble kinds.NoMain start) → EntryIs names text shape (Err e)
no_entry names text shape e none is limits taken = stopped_at _ _ e is (ap (by_entry names text limits taken) none)
