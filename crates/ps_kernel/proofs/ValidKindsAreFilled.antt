-- Each kind of records of a valid kernel has fields, and a maker that names each once.
-- For: `kinds_are_filled`
use Rattle.std.proofs.Common.{◌≡◌, ℕ, zero, suc, List, [], ◌∷◌, length, Some, slice_get, subst}
use Rattle.ps_types.specs.declared.types.RecordKind.{RecordKind}
use Rattle.ps_prims.specs.Kinds.{IsFilled, AreKinds}
use Rattle.ps_kernel.specs.declared.kernel.Kernel.{Kernel}
use Rattle.ps_kernel.specs.Lists.{Each}
use Rattle.ps_kernel.specs.Valid.{IsKind, IsValid}

each_filled : (n : ℕ) (kinds : List RecordKind) → Each (IsKind n) kinds → (k : ℕ) (kind : RecordKind) → slice_get kinds k ≡ Some kind → IsFilled kind
each_filled n [] h k kind is = absurd cc
each_filled n (d ∷ kinds) h zero kind is = let e : d ≡ kind = cc in subst IsFilled e h.0.filled
each_filled n (d ∷ kinds) h (suc k) kind is = each_filled n kinds h.1 k kind is

pub are_filled : (k : Kernel) → IsValid k → AreKinds k.kinds
are_filled k h = record { each = each_filled (length k.kinds) k.kinds h.kinds }
