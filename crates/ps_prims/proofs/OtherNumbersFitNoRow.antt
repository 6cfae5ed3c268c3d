-- Operands of another number fit no row.
-- For: the functions of operands.rt
use Rattle.std.proofs.Common.{◌≡◌, ◌≢◌, suc, List, [], ◌∷◌, length, Bool, true, false, Option, Some, None, refl, ap, ◌∙◌}
use Rattle.std.specs.Prelude.{◌&&◌, is_some}
use Rattle.ps_prims.specs.Sorts.{Sort, Values, Meant, Taking, applied, and_takes, fits, read}
use Rattle.ps_base.proofs.Choices.{true_false}

and_false : (b : Bool) → b && false ≡ false
and_false true = refl
and_false false = refl

pub other_number : {V : Type 0} (values : Values V) (ss : List Sort) (vs : List V) → length vs ≢ length ss → fits values ss vs ≡ false
other_number values [] [] other = absurd (other refl)
other_number values [] (v ∷ vs) other = refl
other_number values (s ∷ ss) [] other = refl
other_number values (s ∷ ss) (v ∷ vs) other = ap (λ b. is_some (read values s v) && b) (other_number values ss vs (λ same. other (ap suc same))) ∙ and_false (is_some (read values s v))

-- a row is wrong where the operands do not fit it
pub applied_none : {V R : Type 0} (values : Values V) (ss : List Sort) (f : Taking V ss R) (vs : List V) → fits values ss vs ≡ false → applied values ss f vs ≡ None
applied_none values [] f [] other = true_false other
applied_none values [] f (v ∷ vs) other = refl
applied_none values (s ∷ ss) f [] other = refl
applied_none values (s ∷ ss) f (v ∷ vs) other = go (read values s v) other (λ x. applied_none values ss (f x) vs)
  where
    go : (r : Option (Meant _ s)) → is_some r && fits values ss vs ≡ false → ((x : Meant _ s) → fits values ss vs ≡ false → applied values ss (f x) vs ≡ None) → and_takes values r (λ x. applied values ss (f x) vs) ≡ None
    go None h ih = refl
    go (Some x) h ih = ih x h
