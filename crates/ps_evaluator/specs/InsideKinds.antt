-- Tests of the kinds of records.
use Rattle.std.specs.Prelude.{ℕ, zero, suc, nat_lt, Bool, true, not, ◌&&◌, List, [], ◌∷◌, length}
use Rattle.ps_types.specs.declared.types.RecordKind.{RecordKind}
use Rattle.ps_kernel.specs.Lists.{stands_in}

-- no number stands at two places
abbrev pub differ : List ℕ → Bool
differ [] = true
differ (x ∷ xs) = not (stands_in x xs) && differ xs

-- each number stands below n
abbrev pub below : ℕ → List ℕ → Bool
below n [] = true
below n (x ∷ xs) = nat_lt x n && below n xs

-- each number below n stands there
abbrev pub has_all : ℕ → List ℕ → Bool
has_all zero xs = true
has_all (suc n) xs = stands_in n xs && has_all n xs

abbrev pub is_filled : RecordKind → Bool
is_filled kind = nat_lt 0 (length kind.fields) && (has_all (length kind.fields) kind.maker && (below (length kind.fields) kind.maker && differ kind.maker))

abbrev pub all_filled : List RecordKind → Bool
all_filled [] = true
all_filled (kind ∷ kinds) = is_filled kind && all_filled kinds
