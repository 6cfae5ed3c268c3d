-- What a list of options holds, where each holds something.
-- For: `data_have_one_program`, `program_is_valid` and `faults_tell_programs`
use Rattle.std.proofs.Common.{◌≡◌, List, ◌∷◌, Option, Some, None, refl}
use Rattle.ps_plain.specs.Forms.{and_also}

-- the parts of what a first option and the others hold
pub record Joined {A : Type 0} (x : Option A) (xs : Option (List A)) (ys : List A) : Type 0 where
  pub first : A
  pub rest : List A
  pub is_first : x ≡ Some first
  pub is_rest : xs ≡ Some rest
  pub is : ys ≡ first ∷ rest

pub joined : {A : Type 0} (x : Option A) (xs : Option (List A)) (ys : List A) → and_also x xs ≡ Some ys → Joined x xs ys
joined None xs ys h = cc
joined (Some x) None ys h = cc
joined (Some x) (Some xs) ys h = record { first = x; rest = xs; is_first = refl; is_rest = refl; is = cc }
