-- Data that are a program convert.
-- For: `programs_convert`
use Rattle.std.proofs.Common.{◌≡◌, inl, inr, ℕ, zero, suc, List, [], ◌∷◌, ◌++◌, length, Some, refl, sym, ap}
use Rattle.std.specs.Prelude.{Bool, true, false, slice_get, codes}
use Rattle.std.specs.Str.{bytes_eq}
use Rattle.std.proofs.lemmas.Slice.Eq.{bytes_eq-Decides}
use Rattle.ps_base.specs.Names.{IsNew, Adds}
use Rattle.ps_base.specs.declared.names.Name.{Name}
use Rattle.ps_datum.specs.declared.datum.Datum.{Datum}
use Rattle.ps_plain.specs.declared.program.Program.{Program as PlainProgram}
use Rattle.ps_plain.specs.Forms.{IsProgram}
use Rattle.ps_plain.proofs.Programs.{program_valid}
use Rattle.ps_convert.specs.Kernels.{kernel_of}
use Rattle.ps_convert.specs.Laws.{run_of}
use Rattle.ps_convert.specs.Converting.{Converts, ProgramsConvert}
use Rattle.ps_convert.proofs.Runs.{forms_do_nothing, kernels_do_the_same}

-- ---- a name that is added to a table

-- where a name is, or that it is new
data Where (names : List (List ℕ)) (w : List ℕ) : Type 0 where
  at : (n : ℕ) → slice_get names n ≡ Some w → Where names w
  nowhere : IsNew names w → Where names w

behind : (t : List ℕ) (names : List (List ℕ)) (w : List ℕ) → (t ≡ w → ⊥) → Where names w → Where (t ∷ names) w
behind t names w other (at n is) = at (suc n) is
behind t names w other (nowhere new) = nowhere is_new
  where
    is_new : IsNew (t ∷ names) w
    is_new zero is = other (let same : t ≡ w = cc in same)
    is_new (suc i) is = new i is

first_or : (t : List ℕ) (names : List (List ℕ)) (w : List ℕ) (b : Bool) → bytes_eq w t ≡ b → Where names w → Where (t ∷ names) w
first_or t names w true is rest = at 0 (ap Some (sym ((bytes_eq-Decides w t).0 is)))
first_or t names w false is rest = behind t names w (λ e. let clash : bytes_eq w t ≡ true = (bytes_eq-Decides w t).1 (sym e) in cc) rest

where_is : (names : List (List ℕ)) (w : List ℕ) → Where names w
where_is [] w = nowhere (λ i is. cc)
where_is (t ∷ names) w = first_or t names w (bytes_eq w t) refl (where_is names w)

last : (names : List (List ℕ)) (w : List ℕ) → slice_get (names ++ w ∷ []) (length names) ≡ Some w
last [] w = refl
last (t ∷ names) w = last names w

record Added (names : List (List ℕ)) (w : List ℕ) : Type 0 where
  table : List (List ℕ)
  number : ℕ
  adds : Adds names table w number

added_by : (names : List (List ℕ)) (w : List ℕ) → Where names w → Added names w
added_by names w (at n is) = record { table = names; number = n; adds = record { stands = is; grown = inl refl } }
added_by names w (nowhere new) = record { table = names ++ w ∷ []; number = length names; adds = record { stands = last names w; grown = inr (refl, refl, new) } }

-- ---- data that are a program

converts_with : (names : List (List ℕ)) (forms : List Datum) (p : PlainProgram) → IsProgram names forms p → Added names (codes "user") → Converts names forms p
converts_with names forms p is user =
    let structure : Name = record { 0 = user.number } in
    record {
      kernel = kernel_of structure p;
      is_kernel = record { program = p; is_program = is; table = user.table; structure = structure; is_user = user.adds; is_kernel = refl };
      program = run_of structure p;
      comes = λ budget cells. record { kernel = refl; finished = forms_do_nothing structure p budget cells };
      same = λ w. kernels_do_the_same structure p w (program_valid names forms p is);
    }

pub programs_convert : ProgramsConvert
programs_convert names forms p is = converts_with names forms p is (added_by names (codes "user") (where_is names (codes "user")))
