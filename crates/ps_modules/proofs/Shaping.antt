-- The shapes of forms, by the parts that the code took from a list.
-- For: form_of
use Rattle.std.proofs.Common.{◌≡◌, Bool, List, [], ◌∷◌, Result, Ok, Err, sym, ap, ◌∙◌}
use Rattle.ps_base.specs.declared.faults.Place.{Place}
use Rattle.ps_datum.specs.declared.datum.Datum.{Datum}
use Rattle.ps_read.specs.Lexical.{Table}
use Rattle.ps_modules.specs.declared.types.Export.{Export}
use Rattle.ps_modules.specs.declared.shapes.Broken.{Broken}
use Rattle.ps_modules.specs.declared.shapes.Broken.TheVariants as broken
use Rattle.ps_modules.specs.declared.shapes.Clauses.{Clauses}
use Rattle.ps_modules.specs.declared.shapes.Form.TheVariants as forms
use Rattle.ps_modules.specs.declared.shapes.Interface.{Interface}
use Rattle.ps_modules.specs.declared.shapes.OpenedName.{OpenedName}
use Rattle.ps_modules.specs.Shapes.{Shaped, shaped_then, place_of, open_of, symbol, parts_of, headed, fronted, ended, interface, clauses, structure_form, interface_form, listed, is_syntax, item_parts, marked}
use Rattle.ps_modules.specs.InsideShapes.{Says, Adds}
use Rattle.ps_modules.proofs.Gathering.{okay, unit, stopped, same_place, then_ok, then_stops}

-- ---- the front of a list

pub front_is : (d : Datum) (ds rest : List Datum) (head : Datum) (word : OpenedName) → parts_of 1 d ≡ Ok ds → ds ≡ head ∷ rest → symbol head ≡ Ok word → fronted d ≡ okay (word, rest)
front_is d ds rest head word has is front = then_ok (parts_of 1 d) ds (headed (place_of d)) has ∙ ap (headed (place_of d)) is ∙ then_ok (symbol head) word (λ w. okay (w, rest)) front

pub front_breaks : (d : Datum) (ds rest : List Datum) (head : Datum) (p : Place) → parts_of 1 d ≡ Ok ds → ds ≡ head ∷ rest → symbol head ≡ Err p → fronted d ≡ Err p
front_breaks d ds rest head p has is breaks = then_ok (parts_of 1 d) ds (headed (place_of d)) has ∙ ap (headed (place_of d)) is ∙ then_stops (symbol head) (λ w. okay (w, rest)) p breaks

-- ---- no part too many

pub ended_ok : {A : Type 0} (a : A) (ds : List Datum) → ended unit ds ≡ okay unit → ended a ds ≡ Ok a
ended_ok a [] e = ap (λ z. okay a) e
ended_ok a (d ∷ ds) e = let h : Err (place_of d) ≡ okay unit = e in absurd (cc)

pub ended_err : {A : Type 0} (a : A) (ds : List Datum) (p : Place) → ended unit ds ≡ Err p → ended a ds ≡ Err p
ended_err a [] p e = let h : okay unit ≡ Err p = e in absurd (cc)
ended_err {A = A} a (d ∷ ds) p e = let same : place_of d ≡ p = same_place (Unit {0}) (place_of d) p e in ap (stopped A) same

-- ---- forms, whose parts are a name, an interface and the rest

module _ (table : Table) (place : Place) (ds rest : List Datum) (name value : Datum) (is : ds ≡ name ∷ value ∷ rest) where
  pub structure_name : (p : Place) → symbol name ≡ Err p → structure_form table place ds ≡ Err p
  structure_name p e = ap (structure_form table place) is ∙ then_stops (symbol name) _ p e

  pub interface_name : (p : Place) → symbol name ≡ Err p → interface_form table place ds ≡ Err p
  interface_name p e = ap (interface_form table place) is ∙ then_stops (symbol name) _ p e

  module _ (n : OpenedName) (named : symbol name ≡ Ok n) where
    structure_named : structure_form table place ds ≡ shaped_then (interface table value) (λ i. shaped_then (clauses table rest)
        (λ c. okay (forms.Structure (record { form = place; name = n; interface = i; clauses = c }))))
    structure_named = ap (structure_form table place) is ∙ then_ok (symbol name) n _ named

    interface_named : interface_form table place ds ≡ shaped_then (interface table value) (λ i. ended (forms.Interface (record { name = n; interface = i })) rest)
    interface_named = ap (interface_form table place) is ∙ then_ok (symbol name) n _ named

    pub structure_value : (p : Place) → interface table value ≡ Err p → structure_form table place ds ≡ Err p
    structure_value p e = structure_named ∙ then_stops (interface table value) _ p e

    pub interface_value : (p : Place) → interface table value ≡ Err p → interface_form table place ds ≡ Err p
    interface_value p e = interface_named ∙ then_stops (interface table value) _ p e

    module _ (i : Interface) (valued : interface table value ≡ Ok i) where
      pub structure_rest : (p : Place) → clauses table rest ≡ Err p → structure_form table place ds ≡ Err p
      structure_rest p e = structure_named ∙ then_ok (interface table value) i _ valued ∙ then_stops (clauses table rest) _ p e

      pub structure_is : (c : Clauses) → clauses table rest ≡ Ok c → structure_form table place ds ≡ okay (forms.Structure (record { form = place; name = n; interface = i; clauses = c }))
      structure_is c e = structure_named ∙ then_ok (interface table value) i _ valued ∙ then_ok (clauses table rest) c _ e

      pub interface_rest : (p : Place) → ended unit rest ≡ Err p → interface_form table place ds ≡ Err p
      interface_rest p e = interface_named ∙ then_ok (interface table value) i _ valued ∙ ended_err _ rest p e

      pub interface_is : ended unit rest ≡ okay unit → interface_form table place ds ≡ okay (forms.Interface (record { name = n; interface = i }))
      interface_is e = interface_named ∙ then_ok (interface table value) i _ valued ∙ ended_ok _ rest e

-- ---- items that are lists

module _ (table : Table) (d : Datum) (ds rest : List Datum) (front kind : Datum) (has : parts_of 2 d ≡ Ok ds) (is : ds ≡ front ∷ kind ∷ rest) (syntax : Bool) (marks : syntax ≡ is_syntax table (open_of kind)) where
  marked_by : marked table d ≡ shaped_then (listed syntax front) (λ exports. ended exports rest)
  marked_by = then_ok (parts_of 2 d) ds (item_parts table (place_of d)) has ∙ ap (item_parts table (place_of d)) is
      ∙ ap (λ b. shaped_then (listed b front) (λ exports. ended exports rest)) (sym marks)

  pub marked_names : (p : Place) → listed syntax front ≡ Err p → marked table d ≡ Err p
  marked_names p e = marked_by ∙ then_stops (listed syntax front) (λ exports. ended exports rest) p e

  module _ (onto : List Export → List Export) (after : List Export) where
    -- the names that are put onto what is there, where no part stands behind the kind, or one too many
    named_on : (r : Shaped (List Export)) → shaped_then r (λ more. okay (onto more)) ≡ okay after → ended unit rest ≡ okay unit
        → shaped_then (shaped_then r (λ exports. ended exports rest)) (λ more. okay (onto more)) ≡ okay after
    named_on (Ok exports) e end = ap (λ q. shaped_then q (λ more. okay (onto more))) (ended_ok exports rest end) ∙ e
    named_on (Err p) e end = e

    end_breaks : (p : Place) (r : Shaped (List Export)) → shaped_then r (λ more. okay (onto more)) ≡ okay after → ended unit rest ≡ Err p → shaped_then r (λ exports. ended exports rest) ≡ Err p
    end_breaks p (Ok exports) e end = ended_err exports rest p end
    end_breaks p (Err q) e end = let h : Err q ≡ okay after = e in absurd (cc)

    pub marked_ends : shaped_then (listed syntax front) (λ more. okay (onto more)) ≡ okay after → (r : Result (Unit {0}) Broken) → Says (ended unit rest) r → Adds onto (marked table d) after r
    marked_ends e (Ok u) end = ap (λ q. shaped_then q (λ more. okay (onto more))) marked_by ∙ named_on (listed syntax front) e end
    marked_ends e (Err (broken.At place)) end = marked_by ∙ end_breaks place (listed syntax front) e end
    marked_ends e (Err broken.NoMemory) end = tt
