-- Induction over data, and the clauses of a fold.
-- For: the laws of the crates above that go over data, as written_data_read_again
use Rattle.std.proofs.Common.{◌≡◌, ℕ, ℤ, Bool, List, [], ◌∷◌, map, sym, ap, ◌∙◌, subst}
use Rattle.std.specs.List.{AllByRecursion}
use Rattle.ps_base.specs.declared.faults.Place.{Place}
use Rattle.ps_base.specs.declared.names.Name.{Name}
use Rattle.ps_datum.specs.declared.datum.Datum.{Datum, map-Datum, fold-Datum, fold-roll-Datum, ind-Datum, roll-Datum}
use Rattle.ps_datum.specs.declared.datum.DatumKind.{DatumKind, map-DatumKind, fold-DatumKind, fold_out-DatumKind, roll-DatumKind, out-DatumKind}
use Rattle.ps_datum.specs.declared.datum.DatumKind.TheOpen.{DatumKind-F, Datum-F}
use Rattle.ps_datum.specs.declared.datum.DatumKind.TheVariants as k

-- a datum of a kind at a place
abbrev pub datum_at : Place → DatumKind → Datum
datum_at p x = roll-Datum (record { place = p; kind = x })

all-of : (P : Datum → Type 0) (xs : List ((d : Datum) × P d)) → AllByRecursion P (map (λ e. e.0) xs)
all-of P [] = tt
all-of P (x ∷ xs) = (x.1, all-of P xs)

-- a fact on all data, from facts on all kinds
pub induction : (Q : DatumKind → Type 0) (P : Datum → Type 0) → ((b : Bool) → Q (k.Boolean b)) → ((i : ℤ) → Q (k.Integer i)) → ((c : ℕ) → Q (k.Char c)) → ((bytes : List ℕ) → Q (k.Text bytes)) → ((n : Name) → Q (k.Symbol n))
    → ((ds : List Datum) → AllByRecursion P ds → Q (k.List ds)) → ((ds : List Datum) (d : Datum) → AllByRecursion P ds → P d → Q (k.Dotted ds d)) → ((ds : List Datum) → AllByRecursion P ds → Q (k.Vector ds))
    → ((p : Place) (x : DatumKind) → Q x → P (datum_at p x)) → (d : Datum) → P d
induction Q P onBoolean onInteger onChar onText onSymbol onList onDotted onVector onDatum = ind-Datum Q P kind_step datum_step
  where
    kind_step : (x : DatumKind-F DatumKind Datum) (y : DatumKind-F ((e : DatumKind) × Q e) ((d : Datum) × P d)) → map-DatumKind ((e : DatumKind) × Q e) ((d : Datum) × P d) DatumKind Datum (λ e. e.0) (λ e. e.0) y ≡ x → Q (roll-DatumKind x)
    kind_step x (DatumKind-F.Boolean b) is = subst (λ z. Q (roll-DatumKind z)) is (subst Q (sym (k.rolls-Boolean b)) (onBoolean b))
    kind_step x (DatumKind-F.Integer i) is = subst (λ z. Q (roll-DatumKind z)) is (subst Q (sym (k.rolls-Integer i)) (onInteger i))
    kind_step x (DatumKind-F.Char c) is = subst (λ z. Q (roll-DatumKind z)) is (subst Q (sym (k.rolls-Char c)) (onChar c))
    kind_step x (DatumKind-F.Text bytes) is = subst (λ z. Q (roll-DatumKind z)) is (subst Q (sym (k.rolls-Text bytes)) (onText bytes))
    kind_step x (DatumKind-F.Symbol n) is = subst (λ z. Q (roll-DatumKind z)) is (subst Q (sym (k.rolls-Symbol n)) (onSymbol n))
    kind_step x (DatumKind-F.List es) is = subst (λ z. Q (roll-DatumKind z)) is (subst Q (sym (k.rolls-List (map (λ e. e.0) es))) (onList (map (λ e. e.0) es) (all-of P es)))
    kind_step x (DatumKind-F.Dotted es e) is = subst (λ z. Q (roll-DatumKind z)) is (subst Q (sym (k.rolls-Dotted (map (λ e. e.0) es) e.0)) (onDotted (map (λ e. e.0) es) e.0 (all-of P es) e.1))
    kind_step x (DatumKind-F.Vector es) is = subst (λ z. Q (roll-DatumKind z)) is (subst Q (sym (k.rolls-Vector (map (λ e. e.0) es))) (onVector (map (λ e. e.0) es) (all-of P es)))

    datum_step : (x : Datum-F DatumKind Datum) (y : Datum-F ((e : DatumKind) × Q e) ((d : Datum) × P d)) → map-Datum ((e : DatumKind) × Q e) ((d : Datum) × P d) DatumKind Datum (λ e. e.0) (λ e. e.0) y ≡ x → P (roll-Datum x)
    datum_step x y is = subst (λ z. P (roll-Datum z)) is (onDatum y.place y.kind.0 y.kind.1)

module _ {A B : Type 0} (s : DatumKind-F A B → A) (t : Datum-F A B → B) where
  -- the fold of a datum is that of its kind
  pub fold-datum : (p : Place) (x : DatumKind) → fold-Datum A B s t (datum_at p x) ≡ t (record { place = p; kind = fold-DatumKind A B s t x })
  fold-datum p x = fold-roll-Datum A B s t (record { place = p; kind = x })

  fold-by : (x : DatumKind) (y : DatumKind-F DatumKind Datum) → out-DatumKind x ≡ y → fold-DatumKind A B s t x ≡ s (map-DatumKind DatumKind Datum A B (fold-DatumKind A B s t) (fold-Datum A B s t) y)
  fold-by x y is = fold_out-DatumKind A B s t x ∙ ap (λ z. s (map-DatumKind DatumKind Datum A B (fold-DatumKind A B s t) (fold-Datum A B s t) z)) is

  pub fold-boolean : (b : Bool) → fold-DatumKind A B s t (k.Boolean b) ≡ s (DatumKind-F.Boolean b)
  fold-boolean b = fold-by (k.Boolean b) (DatumKind-F.Boolean b) (k.outs-Boolean b)

  pub fold-integer : (i : ℤ) → fold-DatumKind A B s t (k.Integer i) ≡ s (DatumKind-F.Integer i)
  fold-integer i = fold-by (k.Integer i) (DatumKind-F.Integer i) (k.outs-Integer i)

  pub fold-char : (c : ℕ) → fold-DatumKind A B s t (k.Char c) ≡ s (DatumKind-F.Char c)
  fold-char c = fold-by (k.Char c) (DatumKind-F.Char c) (k.outs-Char c)

  pub fold-text : (bytes : List ℕ) → fold-DatumKind A B s t (k.Text bytes) ≡ s (DatumKind-F.Text bytes)
  fold-text bytes = fold-by (k.Text bytes) (DatumKind-F.Text bytes) (k.outs-Text bytes)

  pub fold-symbol : (n : Name) → fold-DatumKind A B s t (k.Symbol n) ≡ s (DatumKind-F.Symbol n)
  fold-symbol n = fold-by (k.Symbol n) (DatumKind-F.Symbol n) (k.outs-Symbol n)

  pub fold-list : (ds : List Datum) → fold-DatumKind A B s t (k.List ds) ≡ s (DatumKind-F.List (map (fold-Datum A B s t) ds))
  fold-list ds = fold-by (k.List ds) (DatumKind-F.List ds) (k.outs-List ds)

  pub fold-dotted : (ds : List Datum) (d : Datum) → fold-DatumKind A B s t (k.Dotted ds d) ≡ s (DatumKind-F.Dotted (map (fold-Datum A B s t) ds) (fold-Datum A B s t d))
  fold-dotted ds d = fold-by (k.Dotted ds d) (DatumKind-F.Dotted ds d) (k.outs-Dotted ds d)

  pub fold-vector : (ds : List Datum) → fold-DatumKind A B s t (k.Vector ds) ≡ s (DatumKind-F.Vector (map (fold-Datum A B s t) ds))
  fold-vector ds = fold-by (k.Vector ds) (DatumKind-F.Vector ds) (k.outs-Vector ds)
