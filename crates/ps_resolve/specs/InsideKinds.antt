-- What is wrong with a datum, by its kind, and what a list reads as.
use Rattle.std.specs.Prelude.{◌≡◌, ℕ, List, map, Option, Some, None}
use Rattle.ps_base.specs.declared.faults.Place.{Place}
use Rattle.ps_datum.specs.declared.datum.Datum.{Datum, out-Datum}
use Rattle.ps_plain.specs.Faults.{Flaws, flaws, list_flaws, first_of}
use Rattle.ps_plain.specs.Forms.{Scope, part, list_part}

-- the datum is a list of these parts
pub record IsList (d : Datum) (parts : List Datum) : Type 0 where
  pub is : (names : List (List ℕ)) → flaws names d ≡ list_flaws (out-Datum d).place (map (flaws names) parts)
  pub reads : (names : List (List ℕ)) → part names d ≡ list_part (out-Datum d).place (map (part names) parts)

-- the datum is no list
pub record IsNoList (d : Datum) : Type 0 where
  pub write : (names : List (List ℕ)) → (flaws names d).write_shape ≡ Some (out-Datum d).place
  pub head : (names : List (List ℕ)) → (flaws names d).head_shape ≡ Some (out-Datum d).place
  pub definition : (names : List (List ℕ)) → (flaws names d).definition_shape ≡ Some (out-Datum d).place
  pub write_names : (names : List (List ℕ)) (s : Scope) → (flaws names d).write_names s ≡ None

abbrev pub write_shapes : List Flaws → Option Place
write_shapes fs = first_of (map (λ (f : Flaws). f.write_shape) fs)

abbrev pub name_shapes : List Flaws → Option Place
name_shapes fs = first_of (map (λ (f : Flaws). f.name_shape) fs)
