-- The data of tokens are not larger than three times their number, and have no names but those of the tokens.
-- For: read_all (small, known)
use Rattle.std.proofs.Common.{◌≡◌, ℕ, ◌+◌, ◌*◌, ◌<◌, ◌≤◌, Bool, true, List, [], ◌∷◌, ◌++◌, length, map, refl, sym, ◌∙◌, arith}
use Rattle.std.specs.List.{AllByRecursion}
use Rattle.std.proofs.lemmas.Bool.{lt-ltb}
use Rattle.ps_base.specs.declared.faults.Place.{Place}
use Rattle.ps_base.specs.declared.names.Name.{Name}
use Rattle.ps_datum.specs.declared.datum.Datum.{Datum, out-Datum, fold_out-Datum}
use Rattle.ps_datum.specs.declared.datum.DatumKind.{DatumKind, map-DatumKind, fold-DatumKind, fold_out-DatumKind, out-DatumKind}
use Rattle.ps_datum.specs.declared.datum.DatumKind.TheOpen.{DatumKind-F}
use Rattle.ps_datum.specs.declared.datum.DatumKind.TheVariants as k
use Rattle.ps_datum.specs.Weight.{weight_node, weight, weights}
use Rattle.ps_datum.specs.Writing.{all_known, known_node, is_known}
use Rattle.ps_datum.proofs.Trees.{fold-datum, fold-list, fold-dotted, fold-vector, fold-symbol}
use Rattle.ps_read.specs.declared.token.Token.{Token}
use Rattle.ps_read.specs.declared.token.Word.{Word}
use Rattle.ps_read.specs.declared.token.Word.TheVariants as w
use Rattle.ps_read.specs.Grammar.{datum, quoted, joined_by, joined, IsDatum, atom, list, vector, quote, dotted, IsData, none, more}
use Rattle.ps_read.specs.Lexical.{Table}
use Rattle.ps_read.specs.Reading.{AllKnown}
use Rattle.ps_base.proofs.Choices.{and_true, and_both}

abbrev pub kind_weight : DatumKind → ℕ
kind_weight x = fold-DatumKind ℕ ℕ weight_node (λ d. d.kind) x

abbrev pub kind_known : Table → DatumKind → Bool
kind_known names x = fold-DatumKind Bool Bool (known_node names) (λ d. d.kind) x

weight_is : (p : Place) (x : DatumKind) → weight (datum p x) ≡ kind_weight x
unfolding datum
weight_is p x = fold-datum weight_node (λ d. d.kind) p x

known_is : (names : Table) (p : Place) (x : DatumKind) → is_known names (datum p x) ≡ kind_known names x
unfolding datum
known_is names p x = fold-datum (known_node names) (λ d. d.kind) p x

-- ---- sums and conjunctions over lists

pub sum_append : (ds es : List Datum) → weights (ds ++ es) ≡ weights ds + weights es
sum_append [] es = omega arith
sum_append (d ∷ ds) es = omega (arith, sum_append ds es)

known_append : (names : Table) (ds es : List Datum) → all_known (map (is_known names) ds) ≡ true → all_known (map (is_known names) es) ≡ true → all_known (map (is_known names) (ds ++ es)) ≡ true
known_append names [] es h g = g
known_append names (d ∷ ds) es h g =
    let p = and_true (is_known names d) (all_known (map (is_known names) ds)) h in
    and_both (is_known names d) _ p.0 (known_append names ds es p.1 g)

-- ---- a list with a tail

module _ (ds : List Datum) (tail : Datum) where
  weight_by : (y : DatumKind-F DatumKind Datum) → weight tail ≡ weight_node (map-DatumKind DatumKind Datum ℕ ℕ kind_weight weight y) → kind_weight (joined_by ds tail y) ≤ 3 + weights ds + weight tail
  weight_by (DatumKind-F.List xs) e = omega (arith, fold-list weight_node (λ d. d.kind) (ds ++ xs), sum_append ds xs, e)
  weight_by (DatumKind-F.Dotted xs last) e = omega (arith, fold-dotted weight_node (λ d. d.kind) (ds ++ xs) last, sum_append ds xs, e)
  weight_by (DatumKind-F.Boolean b) e = omega (arith, fold-dotted weight_node (λ d. d.kind) ds tail)
  weight_by (DatumKind-F.Integer i) e = omega (arith, fold-dotted weight_node (λ d. d.kind) ds tail)
  weight_by (DatumKind-F.Char c) e = omega (arith, fold-dotted weight_node (λ d. d.kind) ds tail)
  weight_by (DatumKind-F.Text bytes) e = omega (arith, fold-dotted weight_node (λ d. d.kind) ds tail)
  weight_by (DatumKind-F.Symbol name) e = omega (arith, fold-dotted weight_node (λ d. d.kind) ds tail)
  weight_by (DatumKind-F.Vector xs) e = omega (arith, fold-dotted weight_node (λ d. d.kind) ds tail)

  joined_weight : kind_weight (joined ds tail) ≤ 3 + weights ds + weight tail
  unfolding joined
  joined_weight = weight_by (out-DatumKind (out-Datum tail).kind) (fold_out-Datum ℕ ℕ weight_node (λ d. d.kind) tail ∙ fold_out-DatumKind ℕ ℕ weight_node (λ d. d.kind) (out-Datum tail).kind)

  module _ (names : Table) (all : all_known (map (is_known names) ds) ≡ true) (last_known : is_known names tail ≡ true) where
    plain_known : kind_known names (k.Dotted ds tail) ≡ true
    plain_known = fold-dotted (known_node names) (λ d. d.kind) ds tail ∙ and_both _ _ all last_known

    known_by : (y : DatumKind-F DatumKind Datum) → is_known names tail ≡ known_node names (map-DatumKind DatumKind Datum Bool Bool (kind_known names) (is_known names) y) → kind_known names (joined_by ds tail y) ≡ true
    known_by (DatumKind-F.List xs) e = fold-list (known_node names) (λ d. d.kind) (ds ++ xs) ∙ known_append names ds xs all (sym e ∙ last_known)
    known_by (DatumKind-F.Dotted xs last) e =
        let p = and_true (all_known (map (is_known names) xs)) (is_known names last) (sym e ∙ last_known) in
        fold-dotted (known_node names) (λ d. d.kind) (ds ++ xs) last ∙ and_both _ _ (known_append names ds xs all p.0) p.1
    known_by (DatumKind-F.Boolean b) e = plain_known
    known_by (DatumKind-F.Integer i) e = plain_known
    known_by (DatumKind-F.Char c) e = plain_known
    known_by (DatumKind-F.Text bytes) e = plain_known
    known_by (DatumKind-F.Symbol name) e = plain_known
    known_by (DatumKind-F.Vector xs) e = plain_known

    joined_known : kind_known names (joined ds tail) ≡ true
    unfolding joined
    joined_known = known_by (out-DatumKind (out-Datum tail).kind) (fold_out-Datum Bool Bool (known_node names) (λ d. d.kind) tail ∙ fold_out-DatumKind Bool Bool (known_node names) (λ d. d.kind) (out-Datum tail).kind)

-- ---- 'd

quoted_weight : (nq : Name) (p : Place) (d : Datum) → weight (quoted nq p d) ≡ 3 + weight d
unfolding quoted
quoted_weight nq p d =
    let inner = weight_is p (k.Symbol nq) ∙ fold-symbol weight_node (λ x. x.kind) nq in
    let outer = weight_is p (k.List (datum p (k.Symbol nq) ∷ d ∷ [])) ∙ fold-list weight_node (λ x. x.kind) (datum p (k.Symbol nq) ∷ d ∷ []) in
    omega (arith, inner, outer)

quoted_known : (names : Table) (nq : Name) (p : Place) (d : Datum) → nq.0 < length names → is_known names d ≡ true → is_known names (quoted nq p d) ≡ true
unfolding quoted
quoted_known names nq p d lt h =
    let inner = known_is names p (k.Symbol nq) ∙ fold-symbol (known_node names) (λ x. x.kind) nq ∙ lt-ltb nq.0 (length names) lt in
    known_is names p (k.List (datum p (k.Symbol nq) ∷ d ∷ [])) ∙ fold-list (known_node names) (λ x. x.kind) (datum p (k.Symbol nq) ∷ d ∷ []) ∙ and_both _ _ inner (and_both _ _ h refl)

-- ---- tokens

-- a datum of one token is of weight 1, and names are in the table
unfoldable pub WordFits : Table → Word → Type 0
WordFits names w.Open = Unit {0}
WordFits names w.VectorOpen = Unit {0}
WordFits names w.Close = Unit {0}
WordFits names (w.Quote nq) = nq.0 < length names
WordFits names w.Dot = Unit {0}
WordFits names (w.Atom x) = (kind_weight x ≡ 1) × (kind_known names x ≡ true)
WordFits names (w.Broken kind) = Unit {0}

abbrev pub TokensFit : Table → List Token → Type 0
TokensFit names ts = AllByRecursion (λ t. WordFits names t.word) ts

-- what stands before the rest has so much weight, and its names are known
pub record Held (names : Table) (ts rest : List Token) (size : ℕ) (known : Bool) : Type 0 where
  pub less : size + 3 * length rest ≤ 3 * length ts
  pub all : known ≡ true
  pub others : TokensFit names rest

mutual
  unfolding WordFits

  datum_held : {n : ℕ} {ts rest : List Token} {d : Datum} (names : Table) → IsDatum n ts d rest → TokensFit names ts → Held names ts rest (weight d) (is_known names d)
  datum_held names (atom p x) f = record { less = omega (arith, weight_is p x, f.0.0); all = known_is names p x ∙ f.0.1; others = f.1 }
  datum_held names (list {ds = ds} p q lt inner) f =
      let h = data_held names inner f.1 in
      record {
        less = omega (arith, weight_is p (k.List ds), fold-list weight_node (λ x. x.kind) ds, h.less);
        all = known_is names p (k.List ds) ∙ fold-list (known_node names) (λ x. x.kind) ds ∙ h.all;
        others = h.others.1;
      }
  datum_held names (vector {ds = ds} p q lt inner) f =
      let h = data_held names inner f.1 in
      record {
        less = omega (arith, weight_is p (k.Vector ds), fold-vector weight_node (λ x. x.kind) ds, h.less);
        all = known_is names p (k.Vector ds) ∙ fold-vector (known_node names) (λ x. x.kind) ds ∙ h.all;
        others = h.others.1;
      }
  datum_held names (quote {d = d} nq p lt inner) f =
      let h = datum_held names inner f.1 in
      record { less = omega (arith, quoted_weight nq p d, h.less); all = quoted_known names nq p d f.0 h.all; others = h.others }
  datum_held names (dotted {d = d} {tail = tail} {ds = ds} p q z lt inner last) f =
      let h = data_held names inner f.1 in
      let g = datum_held names last h.others.1 in
      record {
        less = omega (arith, weight_is p (joined (d ∷ ds) tail), joined_weight (d ∷ ds) tail, h.less, g.less);
        all = known_is names p (joined (d ∷ ds) tail) ∙ joined_known (d ∷ ds) tail names h.all g.all;
        others = g.others.1;
      }

  data_held : {n : ℕ} {ts rest : List Token} {ds : List Datum} (names : Table) → IsData n ts ds rest → TokensFit names ts → Held names ts rest (weights ds) (all_known (map (is_known names) ds))
  data_held names none f = record { less = omega arith; all = refl; others = f }
  data_held names (more {d = d} {ds = ds} one others) f =
      let h = datum_held names one f in
      let g = data_held names others h.others in
      record { less = omega (arith, h.less, g.less); all = and_both _ _ h.all g.all; others = g.others }

pub weights_within : {n : ℕ} {ts : List Token} {ds : List Datum} (names : Table) → IsData n ts ds [] → TokensFit names ts → weights ds ≤ 3 * length ts
weights_within names are fit = let h = data_held names are fit in omega (arith, h.less)

split_known : (names : Table) (ds : List Datum) → all_known (map (is_known names) ds) ≡ true → AllKnown names ds
split_known names [] h = tt
split_known names (d ∷ ds) h = let p = and_true (is_known names d) (all_known (map (is_known names) ds)) h in (p.0, split_known names ds p.1)

pub names_known : {n : ℕ} {ts : List Token} {ds : List Datum} (names : Table) → IsData n ts ds [] → TokensFit names ts → AllKnown names ds
names_known {n} {ts} {ds} names are fit = let h = data_held names are fit in split_known names ds h.all
