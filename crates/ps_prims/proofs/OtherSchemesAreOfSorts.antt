-- The type of a primitive that has nothing to do with records is that of its sorts.
-- For: scheme_of
use Rattle.std.proofs.Common.{◌≡◌, ℕ, List, refl}
use Rattle.ps_base.specs.declared.language.PrimName.{PrimName}
use Rattle.ps_base.specs.declared.language.PrimName.TheVariants as prims
use Rattle.ps_types.specs.declared.types.RecordKind.{RecordKind}
use Rattle.ps_prims.specs.Sorts.{first_order}
use Rattle.ps_prims.specs.Rows.{row}
use Rattle.ps_prims.specs.Schemes.{scheme, scheme_of_sorts}
use Rattle.ps_prims.specs.InsideSorts.{named_operands}

pub others_of_sorts : (kinds : List RecordKind) (p : PrimName) → ((k : ℕ) → p ≡ prims.Maker k → ⊥) → ((k : ℕ) → p ≡ prims.Predicate k → ⊥) →
    ((k f : ℕ) → p ≡ prims.Accessor k f → ⊥) → ((k f : ℕ) → p ≡ prims.Modifier k f → ⊥) →
    scheme_of_sorts (named_operands p) (row first_order kinds p).answer ≡ scheme kinds p
others_of_sorts kinds (prims.Maker k) a b c d = absurd (a k refl)
others_of_sorts kinds (prims.Predicate k) a b c d = absurd (b k refl)
others_of_sorts kinds (prims.Accessor k f) a b c d = absurd (c k f refl)
others_of_sorts kinds (prims.Modifier k f) a b c d = absurd (d k f refl)
others_of_sorts kinds p a b c d = refl
