-- The sets of locals of which the functions of this library speak.
use Rattle.std.specs.Prelude.{ℕ, if◌then◌else◌, Option, Some, None, List, [], ◌∷◌}
use Rattle.std.specs.List.{fold}
use Rattle.std.specs.Ordering.{nat_cmp}
use Rattle.std.specs.BTreeSet.{insert_key}
use Rattle.ps_base.specs.declared.faults.Place.{Place}
use Rattle.ps_kernel.specs.declared.kernel.Lambda.{Lambda}
use Rattle.ps_kernel.specs.Lists.{stands_in}
use Rattle.ps_captured.specs.InsideReading.{Sight, Stood, Bound, Entered, Mentioned, Assigned, sights_of}

-- a set with one more local
abbrev pub with_local : List ℕ → ℕ → List ℕ
with_local xs x = insert_key nat_cmp xs x

-- with what a sight binds
abbrev pub with_bound : List ℕ → Sight → List ℕ
with_bound xs (Bound x) = with_local xs x
with_bound xs (Entered x) = with_local xs x
with_bound xs s = xs

-- with what a letrec binds there
abbrev pub with_entered : List ℕ → Sight → List ℕ
with_entered xs (Entered x) = with_local xs x
with_entered xs s = xs

-- with a local that is not among these
abbrev pub with_other : List ℕ → List ℕ → ℕ → List ℕ
with_other bound xs x = if stands_in x bound then xs else with_local xs x

-- with what is named there and is not among these
abbrev pub with_free : List ℕ → List ℕ → Sight → List ℕ
with_free bound xs (Mentioned x) = with_other bound xs x
with_free bound xs (Assigned at x) = with_other bound xs x
with_free bound xs s = xs

-- with the locals that a text names and binds nowhere
abbrev pub with_all_free : List ℕ → List Sight → List ℕ
with_all_free xs ss = fold (with_free (fold with_bound [] ss)) xs ss

-- with the free locals of a lambda that stands there
abbrev pub with_kept : List Lambda → List ℕ → Sight → List ℕ
with_kept ms xs (Stood l g) = with_all_free xs (sights_of ms l)
with_kept ms xs s = xs

-- the first assignment of one of these
abbrev pub first_among : List ℕ → List Sight → Option Place
first_among xs [] = None
first_among xs (Assigned at x ∷ ss) = if stands_in x xs then Some at else first_among xs ss
first_among xs (s ∷ ss) = first_among xs ss
