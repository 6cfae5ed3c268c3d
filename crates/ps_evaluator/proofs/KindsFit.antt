-- Kinds of records that pass the tests are such as makers need.
-- For: `are_kinds`
use Rattle.std.proofs.Common.{◌≡◌, ℕ, zero, suc, ◌<◌, ◌≤◌, ◌==◌, Bool, true, false, List, [], ◌∷◌, length, Option, Some, None, refl, sym, ap, subst, arith}
use Rattle.std.specs.Prelude.{nat_lt, not, ◌&&◌, ◌||◌, slice_get, if◌then◌else◌}
use Rattle.std.proofs.lemmas.Bool.{and_parts, eqb-true, ltb-false, ltb-true, not-true, true≢false}
use Rattle.ps_types.specs.declared.types.RecordKind.{RecordKind}
use Rattle.ps_prims.specs.Once.{times}
use Rattle.ps_prims.specs.Kinds.{AreKinds, IsFilled}
use Rattle.ps_kernel.specs.Lists.{stands_in}
use Rattle.ps_evaluator.specs.InsideKinds.{differ, below, has_all, is_filled, all_filled}

some_times : (b s : Bool) (t : ℕ) → (b || s) ≡ true → (s ≡ true → 1 ≤ t) → 1 ≤ (if b then suc t else t)
some_times true s t h f = omega arith
some_times false s t h f = f h

stands_times : (x : ℕ) (ys : List ℕ) → stands_in x ys ≡ true → 1 ≤ times x ys
stands_times x [] h = absurd (true≢false (sym h))
stands_times x (y ∷ ys) h = some_times (x == y) (stands_in x ys) (times x ys) h (stands_times x ys)

no_times : (b s : Bool) (t : ℕ) → (b || s) ≡ false → (s ≡ false → t ≡ 0) → (if b then suc t else t) ≡ 0
no_times true s t h f = absurd (true≢false h)
no_times false s t h f = f h

missing_times : (x : ℕ) (ys : List ℕ) → stands_in x ys ≡ false → times x ys ≡ 0
missing_times x [] h = refl
missing_times x (y ∷ ys) h = no_times (x == y) (stands_in x ys) (times x ys) h (missing_times x ys)

once_by : (b : Bool) (t : ℕ) → (b ≡ true → t ≡ 0) → t ≤ 1 → (if b then suc t else t) ≤ 1
once_by true t f le = omega (arith, f refl)
once_by false t f le = le

none_by : (b : Bool) (t : ℕ) → (b ≡ true → ⊥) → t ≡ 0 → (if b then suc t else t) ≡ 0
none_by true t f none = absurd (f refl)
none_by false t f none = none

differ_times : (x : ℕ) (ys : List ℕ) → differ ys ≡ true → times x ys ≤ 1
differ_times x [] h = omega arith
differ_times x (y ∷ ys) h =
    let both = and_parts (not (stands_in y ys)) (differ ys) h in
    once_by (x == y) (times x ys) (λ e. missing_times x ys (subst (λ z. stands_in z ys ≡ false) (sym (eqb-true x y e)) (not-true (stands_in y ys) both.0))) (differ_times x ys both.1)

not_above : (n x y : ℕ) → y < n → n ≤ x → x ≡ y → ⊥
not_above n x y lt le is = omega (arith, lt, le, is)

below_times : (n x : ℕ) (ys : List ℕ) → below n ys ≡ true → n ≤ x → times x ys ≡ 0
below_times n x [] h le = refl
below_times n x (y ∷ ys) h le =
    let both = and_parts (nat_lt y n) (below n ys) h in
    none_by (x == y) (times x ys) (λ e. not_above n x y (ltb-true y n both.0) le (eqb-true x y e)) (below_times n x ys both.1 le)

all_but : (b : Bool) (n x : ℕ) (ys : List ℕ) → nat_lt x n ≡ b → x < suc n → stands_in n ys ≡ true → (x < n → stands_in x ys ≡ true) → stands_in x ys ≡ true
all_but true n x ys is lt last others = others (ltb-true x n is)
all_but false n x ys is lt last others = let same : n ≡ x = omega (arith, ltb-false x n is, lt) in subst (λ z. stands_in z ys ≡ true) same last

all_stand : (n x : ℕ) (ys : List ℕ) → has_all n ys ≡ true → x < n → stands_in x ys ≡ true
all_stand zero x ys h lt = absurd (omega (arith, lt))
all_stand (suc n) x ys h lt =
    let both = and_parts (stands_in n ys) (has_all n ys) h in
    all_but (nat_lt x n) n x ys refl lt both.0 (all_stand n x ys both.1)

kind_filled : (kind : RecordKind) → is_filled kind ≡ true → IsFilled kind
kind_filled kind h =
    let n = length kind.fields in
    let p = and_parts (nat_lt 0 n) (has_all n kind.maker && (below n kind.maker && differ kind.maker)) h in
    let q = and_parts (has_all n kind.maker) (below n kind.maker && differ kind.maker) p.1 in
    let r = and_parts (below n kind.maker) (differ kind.maker) q.1 in
    record {
      fields = ltb-true 0 n p.0;
      maker = record {
        once = λ x lt. omega (arith, stands_times x kind.maker (all_stand n x kind.maker q.0 lt), differ_times x kind.maker r.1);
        others = λ x le. below_times n x kind.maker r.0 le;
      };
    }

abbrev is_none : Option RecordKind → Bool
is_none None = true
is_none (Some kind) = false

abbrev or_kind : RecordKind → Option RecordKind → RecordKind
or_kind k None = k
or_kind k (Some kind) = kind

kinds_at : (kinds : List RecordKind) (i : ℕ) (kind : RecordKind) → all_filled kinds ≡ true → slice_get kinds i ≡ Some kind → is_filled kind ≡ true
kinds_at [] i kind h is = absurd (true≢false (ap is_none is))
kinds_at (k ∷ ks) zero kind h is = subst (λ z. is_filled z ≡ true) (ap (or_kind k) is) (and_parts (is_filled k) (all_filled ks) h).0
kinds_at (k ∷ ks) (suc i) kind h is = kinds_at ks i kind (and_parts (is_filled k) (all_filled ks) h).1 is

pub kinds_fit : (kinds : List RecordKind) → all_filled kinds ≡ true → AreKinds kinds
kinds_fit kinds h = record { each = λ i kind is. kind_filled kind (kinds_at kinds i kind h is) }
