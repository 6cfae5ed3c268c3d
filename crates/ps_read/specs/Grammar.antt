-- Data as trees over tokens (R5RS 7.1.2, in this project's profile).
use Rattle.std.specs.Prelude.{ℕ, suc, ◌<◌, List, [], ◌∷◌, ◌++◌}
use Rattle.ps_base.specs.declared.faults.Place.{Place}
use Rattle.ps_base.specs.declared.names.Name.{Name}
use Rattle.ps_datum.specs.declared.datum.Datum.{Datum, roll-Datum, out-Datum}
use Rattle.ps_datum.specs.declared.datum.DatumKind.{DatumKind, DatumKind-F, out-DatumKind}
use Rattle.ps_datum.specs.declared.datum.DatumKind.TheVariants as k
use Rattle.ps_read.specs.declared.token.Token.{Token}
use Rattle.ps_read.specs.declared.token.Word.{Word}
use Rattle.ps_read.specs.declared.token.Word.TheVariants as w

abbrev pub token : Place → Word → Token
token p x = record { place = p; word = x }

unfoldable pub datum : Place → DatumKind → Datum
datum p x = roll-Datum (record { place = p; kind = x })

-- 'd
unfoldable pub quoted : Name → Place → Datum → Datum
quoted nq p d = datum p (k.List (datum p (k.Symbol nq) ∷ d ∷ []))

-- a list whose tail is a list is that list, and one whose tail is dotted is joined with it
abbrev pub joined_by : List Datum → Datum → DatumKind-F DatumKind Datum → DatumKind
joined_by ds tail (DatumKind-F.List xs) = k.List (ds ++ xs)
joined_by ds tail (DatumKind-F.Dotted xs last) = k.Dotted (ds ++ xs) last
joined_by ds tail _ = k.Dotted ds tail

unfoldable pub joined : List Datum → Datum → DatumKind
joined ds tail = joined_by ds tail (out-DatumKind (out-Datum tail).kind)

-- how many lists, vectors and quotes may be open
abbrev pub levels : ℕ
levels = 200

-- IsDatum n ts d rest: where n levels are open, the tokens ts begin with the datum d, and rest follows it. IsData: with these data.
mutual
  pub data IsDatum : ℕ → List Token → Datum → List Token → Type 0 where
    atom : {n : ℕ} {rest : List Token} (p : Place) (x : DatumKind) → IsDatum n (token p (w.Atom x) ∷ rest) (datum p x) rest
    list : {n : ℕ} {ts rest : List Token} {ds : List Datum} (p q : Place) → n < levels → IsData (suc n) ts ds (token q w.Close ∷ rest)
        → IsDatum n (token p w.Open ∷ ts) (datum p (k.List ds)) rest
    vector : {n : ℕ} {ts rest : List Token} {ds : List Datum} (p q : Place) → n < levels → IsData (suc n) ts ds (token q w.Close ∷ rest)
        → IsDatum n (token p w.VectorOpen ∷ ts) (datum p (k.Vector ds)) rest
    quote : {n : ℕ} {ts rest : List Token} {d : Datum} (nq : Name) (p : Place) → n < levels → IsDatum (suc n) ts d rest
        → IsDatum n (token p (w.Quote nq) ∷ ts) (quoted nq p d) rest
    dotted : {n : ℕ} {ts us rest : List Token} {d tail : Datum} {ds : List Datum} (p q z : Place) → n < levels → IsData (suc n) ts (d ∷ ds) (token q w.Dot ∷ us)
        → IsDatum (suc n) us tail (token z w.Close ∷ rest) → IsDatum n (token p w.Open ∷ ts) (datum p (joined (d ∷ ds) tail)) rest

  pub data IsData : ℕ → List Token → List Datum → List Token → Type 0 where
    none : {n : ℕ} {rest : List Token} → IsData n rest [] rest
    more : {n : ℕ} {ts us rest : List Token} {d : Datum} {ds : List Datum} → IsDatum n ts d us → IsData n us ds rest → IsData n ts (d ∷ ds) rest

-- the tokens are these data, and no others follow
abbrev pub AreData : List Token → List Datum → Type 0
AreData ts ds = IsData 0 ts ds []
