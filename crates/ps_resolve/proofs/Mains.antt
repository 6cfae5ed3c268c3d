-- The first definition of `main`.
-- For: `around_main`
use Rattle.std.proofs.Common.{◌≡◌, ℕ, ◌<◌, ◌≤◌, List, ◌∷◌, length, Some, ap, ◌∙◌, arith}
use Rattle.std.specs.Prelude.{slice_get}
use Rattle.std.proofs.lemmas.List.{length-append}
use Rattle.ps_datum.specs.declared.datum.Datum.{Datum}
use Rattle.ps_plain.specs.Forms.{part, main_head}
use Rattle.ps_resolve.specs.InsideDefinitions.{IsAround}
use Rattle.ps_resolve.proofs.Parameters.{slice_get-behind}

-- none of the first i data is a definition of `main`
pub record NoMainBelow (names : List (List ℕ)) (i : ℕ) (ds : List Datum) : Type 0 where
  pub none : (k : ℕ) (d : Datum) → k < i → slice_get ds k ≡ Some d → (part names d).head ≡ Some main_head → ⊥

-- a list without a definition of `main`
pub no_form : (names : List (List ℕ)) (ds : List Datum) (i : ℕ) → length ds ≤ i → NoMainBelow names i ds → (before after : List Datum) (main : Datum) → IsAround names ds before main after → ⊥
no_form names ds i long so_far before after main is =
    let n = ap length is.form in
    so_far.none (length before) main (omega (arith, n, length-append before (main ∷ after))) (ap (λ z. slice_get z (length before)) is.form ∙ slice_get-behind before after main) is.is_main
