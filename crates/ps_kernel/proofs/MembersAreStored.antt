-- The parts of a vector that stands in a literal.
-- For: `all_right` of literals
use Rattle.std.proofs.Common.{◌≡◌, ℕ, zero, suc, ◌-◌, ◌<◌, ◌≤◌, length, Bool, true, false, List, [], ◌∷◌, map, refl, sym, ap, ◌∙◌, arith}
use Rattle.std.specs.Prelude.{◌&&◌, nat_le, max}
use Rattle.std.specs.List.{list_all}
use Rattle.std.proofs.lemmas.Bool.{and_parts, and_from, and_left, leb-true, le-leb, lt-leb}
use Rattle.std.proofs.Math.Nat.{le-max_left, le-max_right, max-le}
use Rattle.ps_datum.specs.declared.datum.Datum.{Datum, out-Datum, fold_out-Datum}
use Rattle.ps_datum.specs.declared.datum.DatumKind.{fold-DatumKind}
use Rattle.ps_datum.specs.declared.datum.DatumKind.TheVariants.{Vector}
use Rattle.ps_datum.proofs.Trees.{fold-vector}
use Rattle.ps_kernel.specs.Valid.{all_of, is_some_of, stored_node, is_stored, greatest, depth_node, datum_depth}
use Rattle.ps_kernel.specs.InsideWalks.{is_stored_within}

same_tests : (a b : Bool) → (a ≡ true → b ≡ true) → (b ≡ true → a ≡ true) → a ≡ b
same_tests true b f g = sym (f refl)
same_tests false true f g = g refl
same_tests false false f g = refl

parts_stored : (n : ℕ) (ds : List Datum) → list_all (is_stored_within n) ds ≡ true → (all_of (map is_stored ds) ≡ true) × (greatest (map datum_depth ds) ≤ n)
parts_stored n [] h = (refl, omega arith)
parts_stored n (d ∷ ds) h =
    let p = and_parts (is_stored_within n d) (list_all (is_stored_within n) ds) h in
    let q = and_parts (is_stored d) (nat_le (datum_depth d) n) p.0 in
    let rest = parts_stored n ds p.1 in
    (and_from (is_stored d) (all_of (map is_stored ds)) q.0 rest.0, max-le (leb-true (datum_depth d) n q.1) rest.1)

stored_parts : (n : ℕ) (ds : List Datum) → all_of (map is_stored ds) ≡ true → greatest (map datum_depth ds) ≤ n → list_all (is_stored_within n) ds ≡ true
stored_parts n [] a le = refl
stored_parts n (d ∷ ds) a le =
    let p = and_parts (is_stored d) (all_of (map is_stored ds)) a in
    let here : datum_depth d ≤ max (datum_depth d) (greatest (map datum_depth ds)) = le-max_left (datum_depth d) (greatest (map datum_depth ds)) in
    let there : greatest (map datum_depth ds) ≤ max (datum_depth d) (greatest (map datum_depth ds)) = le-max_right (datum_depth d) (greatest (map datum_depth ds)) in
    and_from (is_stored_within n d) (list_all (is_stored_within n) ds) (and_from (is_stored d) (nat_le (datum_depth d) n) p.0 (le-leb (datum_depth d) n (omega arith))) (stored_parts n ds p.1 (omega arith))

vector_within : (n : ℕ) (ds : List Datum) → (ds ≡ [] → ⊥) → list_all (is_stored_within n) ds ≡ ((is_some_of (map is_stored ds) && all_of (map is_stored ds)) && nat_le (suc (greatest (map datum_depth ds))) (suc n))
vector_within n [] h = absurd (h refl)
vector_within n (d ∷ ds) h = same_tests (list_all (is_stored_within n) (d ∷ ds)) (all_of (map is_stored (d ∷ ds)) && nat_le (suc (greatest (map datum_depth (d ∷ ds)))) (suc n))
    (λ e. let p = parts_stored n (d ∷ ds) e in and_from (all_of (map is_stored (d ∷ ds))) (nat_le (suc (greatest (map datum_depth (d ∷ ds)))) (suc n)) p.0 (le-leb (suc (greatest (map datum_depth (d ∷ ds)))) (suc n) (omega (arith, p.1))))
    (λ e. let p = and_parts (all_of (map is_stored (d ∷ ds))) (nat_le (suc (greatest (map datum_depth (d ∷ ds)))) (suc n)) e in let le : suc (greatest (map datum_depth (d ∷ ds))) ≤ suc n = leb-true (suc (greatest (map datum_depth (d ∷ ds)))) (suc n) p.1 in stored_parts n (d ∷ ds) p.0 (omega arith))

stored_vector : (d : Datum) (ds : List Datum) → (out-Datum d).kind ≡ Vector ds → is_stored d ≡ (is_some_of (map is_stored ds) && all_of (map is_stored ds))
stored_vector d ds e = fold_out-Datum Bool Bool stored_node (λ y. y.kind) d ∙ ap (fold-DatumKind Bool Bool stored_node (λ y. y.kind)) e ∙ fold-vector stored_node (λ y. y.kind) ds

depth_vector : (d : Datum) (ds : List Datum) → (out-Datum d).kind ≡ Vector ds → datum_depth d ≡ suc (greatest (map datum_depth ds))
depth_vector d ds e = fold_out-Datum ℕ ℕ depth_node (λ y. y.kind) d ∙ ap (fold-DatumKind ℕ ℕ depth_node (λ y. y.kind)) e ∙ fold-vector depth_node (λ y. y.kind) ds

-- a vector with members is stored so deep where they are stored one less deep
pub of_members : (n : ℕ) (d : Datum) (ds : List Datum) → (n ≡ 0 → ⊥) → (out-Datum d).kind ≡ Vector ds → (ds ≡ [] → ⊥) → list_all (is_stored_within (n - 1)) ds ≡ is_stored_within n d
of_members zero d ds some e full = absurd (some refl)
of_members (suc n) d ds some e full =
    let less : suc n - 1 ≡ n = omega arith in
    ap (λ (m : ℕ). list_all (is_stored_within m) ds) less ∙ vector_within n ds full ∙ ap (λ (b : Bool). b && nat_le (suc (greatest (map datum_depth ds))) (suc n)) (sym (stored_vector d ds e)) ∙ ap (λ (m : ℕ). is_stored d && nat_le m (suc n)) (sym (depth_vector d ds e))

-- one without members is not stored
pub of_no_members : (n m : ℕ) (d : Datum) (ds : List Datum) → (out-Datum d).kind ≡ Vector ds → m ≡ length ds → m < 1 → nat_le 1 m ≡ is_stored_within n d
of_no_members n m d [] e is low = lt-leb 1 m low ∙ sym (and_left (is_stored d) (nat_le (datum_depth d) n) (stored_vector d [] e))
of_no_members n m d (x ∷ xs) e is low = absurd (omega arith)

pub has_members : (m : ℕ) (ds : List Datum) → m ≡ length ds → 1 ≤ m → ds ≡ [] → ⊥
has_members m ds is high none = let e : m ≡ 0 = is ∙ ap length none in absurd (omega arith)
