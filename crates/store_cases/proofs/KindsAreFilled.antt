-- The maker of each kind of the cases names each field once.
-- For: kinds
use Rattle.std.proofs.Common.{◌≡◌, ◌≢◌, ℕ, zero, suc, ◌<◌, ◌≤◌, List, [], ◌∷◌, length, Bool, true, false, Some, refl, sym, ap, subst, ◌∙◌, arith}
use Rattle.std.specs.Prelude.{nat_eq, slice_get, if◌then◌else◌}
use Rattle.ps_base.proofs.Choices.{none_some, some_same}
use Rattle.ps_types.specs.declared.types.RecordKind.{RecordKind}
use Rattle.ps_prims.specs.Once.{times, EachOnce}
use Rattle.ps_prims.specs.Kinds.{AreKinds, IsFilled}
use Rattle.ps_prims.proofs.FieldsAreFilled.{nat_eq_same}

others : (x y : ℕ) (ys : List ℕ) → x ≢ y → times x (y ∷ ys) ≡ times x ys
others x y ys other = go (nat_eq x y) refl
  where
    go : (b : Bool) → nat_eq x y ≡ b → (if b then suc (times x ys) else times x ys) ≡ times x ys
    go true is = absurd (other (nat_eq_same x y is))
    go false is = refl

node_order : EachOnce 4 (2 ∷ 0 ∷ 3 ∷ 1 ∷ [])
node_order = record { once = once; others = more }
  where
    once : (x : ℕ) → x < 4 → times x (2 ∷ 0 ∷ 3 ∷ 1 ∷ []) ≡ 1
    once zero lt = refl
    once (suc zero) lt = refl
    once (suc (suc zero)) lt = refl
    once (suc (suc (suc zero))) lt = refl
    once (suc (suc (suc (suc x)))) lt = absurd (omega (arith, lt))

    more : (x : ℕ) → 4 ≤ x → times x (2 ∷ 0 ∷ 3 ∷ 1 ∷ []) ≡ 0
    more x le = others x 2 (0 ∷ 3 ∷ 1 ∷ []) (λ e. omega (arith, e, le)) ∙ others x 0 (3 ∷ 1 ∷ []) (λ e. omega (arith, e, le)) ∙ others x 3 (1 ∷ []) (λ e. omega (arith, e, le)) ∙ others x 1 [] (λ e. omega (arith, e, le))

leaf_order : EachOnce 4 (3 ∷ 2 ∷ 1 ∷ 0 ∷ [])
leaf_order = record { once = once; others = more }
  where
    once : (x : ℕ) → x < 4 → times x (3 ∷ 2 ∷ 1 ∷ 0 ∷ []) ≡ 1
    once zero lt = refl
    once (suc zero) lt = refl
    once (suc (suc zero)) lt = refl
    once (suc (suc (suc zero))) lt = refl
    once (suc (suc (suc (suc x)))) lt = absurd (omega (arith, lt))

    more : (x : ℕ) → 4 ≤ x → times x (3 ∷ 2 ∷ 1 ∷ 0 ∷ []) ≡ 0
    more x le = others x 3 (2 ∷ 1 ∷ 0 ∷ []) (λ e. omega (arith, e, le)) ∙ others x 2 (1 ∷ 0 ∷ []) (λ e. omega (arith, e, le)) ∙ others x 1 (0 ∷ []) (λ e. omega (arith, e, le)) ∙ others x 0 [] (λ e. omega (arith, e, le))

filled_by : (kind : RecordKind) (order : List ℕ) → EachOnce 4 order → length kind.fields ≡ 4 → kind.maker ≡ order → IsFilled kind
filled_by kind order once four is = record {
  fields = omega (arith, four);
  maker = subst (λ n. EachOnce n kind.maker) (sym four) (subst (EachOnce 4) (sym is) once);
}

pub are_kinds : (kinds : List RecordKind) (node leaf : RecordKind) → kinds ≡ node ∷ leaf ∷ [] → length node.fields ≡ 4 → node.maker ≡ 2 ∷ 0 ∷ 3 ∷ 1 ∷ [] → length leaf.fields ≡ 4 → leaf.maker ≡ 3 ∷ 2 ∷ 1 ∷ 0 ∷ [] → AreKinds kinds
are_kinds kinds node leaf is a b c d = subst AreKinds (sym is) (record { each = each })
  where
    each : (k : ℕ) (kind : RecordKind) → slice_get (node ∷ leaf ∷ []) k ≡ Some kind → IsFilled kind
    each zero kind at = subst IsFilled (some_same at) (filled_by node (2 ∷ 0 ∷ 3 ∷ 1 ∷ []) node_order a b)
    each (suc zero) kind at = subst IsFilled (some_same at) (filled_by leaf (3 ∷ 2 ∷ 1 ∷ 0 ∷ []) leaf_order c d)
    each (suc (suc k)) kind at = none_some at
